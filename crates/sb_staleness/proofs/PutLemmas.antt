-- Which contents are visible, over puts that are kept with the oldest first.
use Rattle.std.proofs.Common.{◌≡◌, ℕ, Bool, true, false, cond, not, ◌&&◌, ◌||◌, List, [], ◌∷◌, map, reverse}
use Rattle.std.proofs.Common.{refl, sym, ap, ◌∙◌}
use Rattle.std.specs.List.{list_any, filter}
use Rattle.std.proofs.lemmas.List.Folds.{list_any-append}
use Rattle.std.proofs.lemmas.List.{reverse-append}
use Rattle.sb_history.specs.Puts.{Put}
use Rattle.sb_history.specs.Visibility as visibility
use Rattle.sb_staleness.specs.declared.puts.SeenPut.{SeenPut}
use Rattle.sb_staleness.specs.declared.visible.Sight.{Sight}
use Rattle.sb_staleness.specs.Seen.{delays_seen, put_seen, puts_seen}
use Rattle.sb_staleness.specs.Showing.{is_settled, is_superseded, visible_to}

or_false : (b : Bool) → (b || false) ≡ b
or_false true = refl
or_false false = refl

or_swap : (b c : Bool) → (b || c) ≡ (c || b)
or_swap true true = refl
or_swap true false = refl
or_swap false true = refl
or_swap false false = refl

any_reverse : {X : Type 0} (test : X → Bool) (xs : List X) → list_any test (reverse xs) ≡ list_any test xs
any_reverse test [] = refl
any_reverse test (x ∷ xs) =
    ap (list_any test) (reverse-append (x ∷ []) xs) ∙ list_any-append test (reverse xs) (x ∷ [])
    ∙ ap (λ b. b || (test x || false)) (any_reverse test xs) ∙ ap (λ b. list_any test xs || b) (or_false (test x))
    ∙ or_swap (list_any test xs) (test x)

any_map : {X Y : Type 0} (test : Y → Bool) (f : X → Y) (xs : List X)
    → list_any test (map f xs) ≡ list_any (λ x. test (f x)) xs
any_map test f [] = refl
any_map test f (x ∷ xs) = ap (λ b. test (f x) || b) (any_map test f xs)

-- a put passes, whichever way the puts are kept
pub any_seen : (test : Put → Bool) (puts : List SeenPut)
    → list_any test (puts_seen puts) ≡ list_any (λ put. test (put_seen put)) puts
any_seen test puts = any_reverse test (map put_seen puts) ∙ any_map test put_seen puts

any_kept_head : (b c r : Bool) → (b && c || r) ≡ cond b (c || r) r
any_kept_head true c r = refl
any_kept_head false c r = refl

any_cond : {X : Type 0} (test : X → Bool) (b : Bool) (x : X) (xs : List X)
    → list_any test (cond b (x ∷ xs) xs) ≡ cond b (test x || list_any test xs) (list_any test xs)
any_cond test true x xs = refl
any_cond test false x xs = refl

any_filter : {X : Type 0} (test kept : X → Bool) (xs : List X)
    → list_any test (filter kept xs) ≡ list_any (λ x. kept x && test x) xs
any_filter test kept [] = refl
any_filter test kept (x ∷ xs) =
    any_cond test (kept x) x (filter kept xs)
    ∙ ap (λ r. cond (kept x) (test x || r) r) (any_filter test kept xs)
    ∙ sym (any_kept_head (kept x) (test x) (list_any (λ x. kept x && test x) xs))

any_start : {X : Type 0} (test : X → Bool) (settled : Bool) (start : X)
    → list_any test (cond settled [] (start ∷ [])) ≡ (not settled && test start)
any_start test true start = refl
any_start test false start = or_false (test start)

any_agree : {X : Type 0} (test other : X → Bool) → ((x : X) → test x ≡ other x) → (xs : List X)
    → list_any test xs ≡ list_any other xs
any_agree test other same [] = refl
any_agree test other same (x ∷ xs) =
    ap (λ b. b || list_any test xs) (same x) ∙ ap (λ b. other x || b) (any_agree test other same xs)

superseded_seen : (sight : Sight) (put : SeenPut)
    → visibility.is_superseded (delays_seen sight.delays) sight.begin.place sight.begin.reading
    (puts_seen sight.puts.now) (put_seen put) ≡ is_superseded sight put
superseded_seen sight put =
    any_seen (λ later. visibility.is_settled sight.delays.show sight.begin.place sight.begin.reading later
    && visibility.supersedes sight.delays.order later (put_seen put)) sight.puts.now

-- a visible content passes where a put's that isn't superseded does, or the start does and no put has settled
pub any_visible : (test : List ℕ → Bool) (sight : Sight) → list_any test (visible_to sight)
    ≡ (list_any (λ put. not (is_superseded sight put) && test put.content.now) sight.puts.now
    || (not (list_any (is_settled sight) sight.puts.now) && test sight.start.now))
any_visible test sight =
    let all = puts_seen sight.puts.now in
    let kept : Put → Bool = λ put. not (visibility.is_superseded (delays_seen sight.delays) sight.begin.place
    sight.begin.reading all put) in
    let settled = list_any (visibility.is_settled sight.delays.show sight.begin.place sight.begin.reading) all in
    let passes : SeenPut → Bool = λ put. not (is_superseded sight put) && test put.content.now in
    let by_put : list_any test (map (λ (put : Put). put.content) (filter kept all))
    ≡ list_any passes sight.puts.now =
    any_map test (λ (put : Put). put.content) (filter kept all) ∙ any_filter (λ put. test put.content) kept all
    ∙ any_seen (λ put. kept put && test put.content) sight.puts.now
    ∙ any_agree (λ put. kept (put_seen put) && test put.content.now) passes
    (λ put. ap (λ b. not b && test put.content.now) (superseded_seen sight put)) sight.puts.now in
    list_any-append test (map (λ (put : Put). put.content) (filter kept all)) (cond settled [] (sight.start.now ∷ []))
    ∙ ap (λ b. b || list_any test (cond settled [] (sight.start.now ∷ []))) by_put
    ∙ ap (λ b. list_any passes sight.puts.now || b) (any_start test settled sight.start.now)
    ∙ ap (λ b. list_any passes sight.puts.now || (not b && test sight.start.now))
    (any_seen (visibility.is_settled sight.delays.show sight.begin.place sight.begin.reading) sight.puts.now)
