-- A store that is stale within smaller delays is so within larger ones.
use Rattle.std.proofs.Common.{ℕ, suc, ◌≡◌, ◌+◌, ◌≤◌, Bool, true, false, not, ◌&&◌, ◌||◌, if◌then◌else◌, nat_le, nat_lt}
use Rattle.std.proofs.Common.{List, [], ◌∷◌, ◌++◌, filter, map, Contains, Option, Some, None, cond, refl, arith}
use Rattle.std.specs.List.{list_any}
use Rattle.std.proofs.lemmas.Bool.{leb-true, le-leb}
use Rattle.std.proofs.lemmas.List.Elements.{Contains-append_left, Contains-append_right}
use Rattle.sb_base.specs.declared.entry.Shown.{Shown}
use Rattle.sb_base.specs.declared.entry.Shown.TheVariants as shown
use Rattle.sb_base.specs.declared.entry.EntryKind.{EntryKind}
use Rattle.sb_base.specs.declared.entry.EntryKind.TheVariants as kind
use Rattle.sb_base.specs.declared.entry.Entry.{Entry}
use Rattle.sb_history.specs.Contents.{Start, zeros}
use Rattle.sb_history.specs.Puts.{Put, Ending, puts_of}
use Rattle.sb_history.specs.Gets.{Fetch, fetch_of}
use Rattle.sb_history.specs.Visibility.{Delays, is_settled, is_settled_ending, supersedes, begins_after, is_superseded}
use Rattle.sb_history.specs.Visibility.{visible_contents, ShowsOneOf, ShowsVisible, AnswersWithin}
use Rattle.sb_history.specs.Laws.{SmallerDelaysAreWithin}
use Rattle.sb_laws.proofs.Held.{Each, Each-map}
use Rattle.sb_laws.proofs.Shown.{contained}

both : (a b : Bool) → (a && b) ≡ true → (a ≡ true) × (b ≡ true)
both true b is = (refl, is)
both false b is = absurd (cc)

le_smaller : (e a b r : ℕ) → a ≤ b → nat_le (e + b) r ≡ true → nat_le (e + a) r ≡ true
le_smaller e a b r le is = let far = leb-true (e + b) r is in le-leb (e + a) r (omega (arith, le, far))

settled_smaller :
    (a b place reading : ℕ) (ending : Option Ending) → a ≤ b → is_settled_ending b place reading ending ≡ true
    → is_settled_ending a place reading ending ≡ true
settled_smaller a b place reading None le is = is
settled_smaller a b place reading (Some ending) le is =
    let one = both ending.ok _ is in
    let two = both (nat_lt ending.place place) _ one.1 in
    let three = le_smaller ending.reading a b reading le two.1 in
    rw (one.0, two.0, three) refl

supersedes_smaller : (a b : ℕ) (later : Put) (ending : Option Ending) → a ≤ b → begins_after b later ending ≡ true
    → begins_after a later ending ≡ true
supersedes_smaller a b later None le is = is
supersedes_smaller a b later (Some ending) le is =
    let two = both (nat_lt ending.place later.place) _ is in
    let three = le_smaller ending.reading a b later.reading le two.1 in
    rw (two.0, three) refl

any_more : (p q : Put → Bool) (puts : List Put) → ((put : Put) → p put ≡ true → q put ≡ true) → list_any p puts ≡ true
    → list_any q puts ≡ true
any_more p q [] more is = is
any_more p q (put ∷ puts) more is = by (p put) refl is (any_more p q puts more) where
  or_left : (a b : Bool) → a ≡ true → (a || b) ≡ true
  or_left true b is = refl
  or_left false b is = absurd (cc)

  or_right : (a b : Bool) → b ≡ true → (a || b) ≡ true
  or_right true b is = refl
  or_right false b is = is

  by : (b : Bool) → p put ≡ b → (b || list_any p puts) ≡ true → (list_any p puts ≡ true → list_any q puts ≡ true)
      → (q put || list_any q puts) ≡ true
  by true here is others = or_left (q put) (list_any q puts) (more put here)
  by false here is others = or_right (q put) (list_any q puts) (others is)

module _ (small large : Delays) (order : small.order ≤ large.order) (show : small.show ≤ large.show) (place reading : ℕ)
    (start : List ℕ) where
  superseded_smaller : (puts : List Put) (put : Put) → is_superseded large place reading puts put ≡ true
      → is_superseded small place reading puts put ≡ true
  superseded_smaller puts put is =
      any_more (λ later. is_settled large.show place reading later && supersedes large.order later put)
      (λ later. is_settled small.show place reading later && supersedes small.order later put) puts
      (λ later two.
      let each = both (is_settled large.show place reading later) (supersedes large.order later put) two in
      let settled = settled_smaller small.show large.show place reading later.ending show each.0 in
      let over = supersedes_smaller small.order large.order later put.ending order each.1 in
      rw (settled, over) refl) is

  not_more : (a b : Bool) → (b ≡ true → a ≡ true) → not a ≡ true → not b ≡ true
  not_more a true more is = let yes = more refl in absurd (cc)
  not_more a false more is = refl

  contains_cons : (x y : List ℕ) (xs : List (List ℕ)) → Contains xs x → Contains (y ∷ xs) x
  contains_cons x y xs at = (suc at.0, omega (arith, at.1), at.2)

  filter_more : (f g : Put → Bool) (puts : List Put) → ((put : Put) → f put ≡ true → g put ≡ true) → Each
      (λ c. Contains (map (λ (q : Put). q.content) (filter g puts)) c) (map (λ (q : Put). q.content) (filter f puts))
  filter_more f g [] more = tt
  filter_more f g (put ∷ puts) more = by (f put) (g put) (more put) (filter_more f g puts more) where
    by : (a b : Bool) → (a ≡ true → b ≡ true) → Each (λ c. Contains (map (λ (q : Put). q.content) (filter g puts)) c)
        (map (λ (q : Put). q.content) (filter f puts))
        → Each (λ c. Contains (map (λ (q : Put). q.content) (cond b (put ∷ filter g puts) (filter g puts))) c)
        (map (λ (q : Put). q.content) (cond a (put ∷ filter f puts) (filter f puts)))
    by true true is others = (
      (0, omega arith, refl),
      Each-map
          (λ c. Contains (map (λ (q : Put). q.content) (filter g puts)) c)
          (λ c. Contains (put.content ∷ map (λ (q : Put). q.content) (filter g puts)) c)
          (map (λ (q : Put). q.content) (filter f puts)) (λ c at. contains_cons c put.content
          (map (λ (q : Put). q.content) (filter g puts)) at) others,
    )
    by true false is others = let wrong = is refl in absurd (cc)
    by false true is others = Each-map (λ c. Contains (map (λ (q : Put). q.content) (filter g puts)) c)
        (λ c. Contains (put.content ∷ map (λ (q : Put). q.content) (filter g puts)) c)
        (map (λ (q : Put). q.content) (filter f puts))
        (λ c at. contains_cons c put.content (map (λ (q : Put). q.content) (filter g puts)) at) others
    by false false is others = others

  start_more : (a b : Bool) → (b ≡ true → a ≡ true)
      → Each (λ c. Contains (if b then [] else start ∷ []) c) (if a then [] else start ∷ [])
  start_more true b more = tt
  start_more false true more = let wrong = more refl in absurd (cc)
  start_more false false more = ((0, omega arith, refl), tt)

  Each-append : (Q : List ℕ → Type 0) (xs ys : List (List ℕ)) → Each Q xs → Each Q ys → Each Q (xs ++ ys)
  Each-append Q [] ys a b = b
  Each-append Q (x ∷ xs) ys a b = (a.0, Each-append Q xs ys a.1 b)

  visible_more : (puts : List Put) → Each (λ c. Contains (visible_contents large place reading start puts) c)
      (visible_contents small place reading start puts)
  visible_more puts =
      let few = filter (λ put. not (is_superseded small place reading puts put)) puts in
      let many = filter (λ put. not (is_superseded large place reading puts put)) puts in
      let old_few = if list_any (is_settled small.show place reading) puts then [] else start ∷ [] in
      let old_many = if list_any (is_settled large.show place reading) puts then [] else start ∷ [] in
      let contents = λ (puts : List Put). map (λ (q : Put). q.content) puts in
      Each-append (λ c. Contains (visible_contents large place reading start puts) c) (contents few) old_few
      (Each-map (λ c. Contains (contents many) c) (λ c. Contains (contents many ++ old_many) c) (contents few)
      (λ c at. Contains-append_left (contents many) old_many c at)
      (filter_more (λ put. not (is_superseded small place reading puts put))
      (λ put. not (is_superseded large place reading puts put)) puts
      (λ put is. not_more (is_superseded small place reading puts put) (is_superseded large place reading puts put)
      (superseded_smaller puts put) is)))
      (Each-map (λ c. Contains old_many c) (λ c. Contains (contents many ++ old_many) c) old_few
      (λ c at. Contains-append_right (contents many) old_many c at)
      (start_more (list_any (is_settled small.show place reading) puts)
      (list_any (is_settled large.show place reading) puts)
      (any_more (is_settled large.show place reading) (is_settled small.show place reading) puts
      (λ put is. settled_smaller small.show large.show place reading put.ending show is))))

  shows_more : (block_size : ℕ) (puts : List Put) (verify : Option (List ℕ)) (answer : Shown)
      → ShowsOneOf block_size (visible_contents small place reading start puts) verify answer
      → ShowsOneOf block_size (visible_contents large place reading start puts) verify answer
  shows_more block_size puts verify shown.Absent at =
      contained (λ c. Contains (visible_contents large place reading start puts) c) (zeros block_size)
      (visible_contents small place reading start puts) at.0 (visible_more puts) at.1 at.2
  shows_more block_size puts verify (shown.Bytes bytes) at =
      contained (λ c. Contains (visible_contents large place reading start puts) c) bytes
      (visible_contents small place reading start puts) at.0 (visible_more puts) at.1 at.2
  shows_more block_size puts None shown.Same at = at
  shows_more block_size puts (Some digest) shown.Same at = (
    at.0,
    contained (λ c. Contains (visible_contents large place reading start puts) c) at.0
        (visible_contents small place reading start puts) at.1.0 (visible_more puts) at.1.1 at.1.2,
    at.2,
  )
  shows_more block_size puts verify shown.Failed at = tt

answer_more : (block_size : ℕ) (start : List ℕ) (small large : Delays) (puts : List Put) (fetch : Option Fetch)
    (verify : Option (List ℕ)) (answer : Shown) → small.order ≤ large.order → small.show ≤ large.show → ShowsVisible
    block_size start small puts fetch verify answer → ShowsVisible block_size start large puts fetch verify answer
answer_more block_size start small large puts None verify answer order show at = tt
answer_more block_size start small large puts (Some fetch) verify answer order show at =
    shows_more small large order show fetch.place fetch.reading start block_size puts verify answer at

event_more : (block_size : ℕ) (start : Start) (small large : Delays) (past : List Entry) (e : EntryKind)
    → small.order ≤ large.order → small.show ≤ large.show → AnswersWithin block_size start small past e
    → AnswersWithin block_size start large past e
event_more block_size start small large past (kind.GetEnd of answer verify taken) order show at =
    answer_more block_size (start of) small large (puts_of past of) (fetch_of past of) verify answer order show at
event_more block_size start small large past (kind.KnownZero of) order show at = at
event_more block_size start small large past e order show at = tt

pub smaller_delays_are_within : SmallerDelaysAreWithin
smaller_delays_are_within block_size start small large [] order show within = tt
smaller_delays_are_within block_size start small large (entry ∷ past) order show within = (
  event_more block_size start small large past entry.kind order show within.0,
  smaller_delays_are_within block_size start small large past order show within.1,
)
