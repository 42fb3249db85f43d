-- Making an entry and passing the turn on keep the rule.
use Rattle.std.proofs.Common.{◌≡◌, ℕ, ◌+◌, ◌%◌, ◌^◌, ◌<◌, ◌≤◌, inl, inr, List, [], ◌∷◌, ◌++◌, get_or, set, sym, refl}
use Rattle.std.proofs.Common.{ap, ◌∙◌, subst, arith, lt_of_not-le, mod-eq_of_lt, length-set, length-append}
use mathlib.Core.Logic.{dite}
use mathlib.Core.Option.{none, some, some-injective}
use native.Mathlib.Decide.{ℕ_discrete, dec_le}
use lib.ListN.{get_elem?}
use Rattle.std.specs.Prelude.{Option, Some}
use Rattle.atomic_table.specs.Table.{State, Me, step, Act, keeps, gives, Valid, carried_after, stepped, Allows}
use Rattle.sb_turn.specs.declared.view.View.{View}
use Rattle.sb_turn.specs.declared.view.Stage.TheVariants.{Out, Inside}
use Rattle.sb_turn.specs.Histories.{IsEntryOf}
use Rattle.sb_turn.specs.Views.{ticket_count, ticket_held, entry_made, HasTurn, accounts, claims, ticket_count_of}
use Rattle.sb_turn.specs.Views.{ticket_held_of, entry_made_of, at_stage, with_entry, IsConsistent}
use Rattle.sb_turn.specs.Rule.{Fits, IsOrdered}
use Rattle.sb_turn.specs.Steps.{adds, passes_on}
use Rattle.atomic_table.proofs.Lists.{set_here}
use Rattle.sb_turn.proofs.Sums.{one_if_same, total_set, total_at, total_two, total_zero}
use Rattle.sb_turn.proofs.Histories.{entries-append, entries_other, own_same, own_other, own_one, changed}
use Rattle.sb_turn.proofs.Histories.{IsPast-append}
use Rattle.sb_turn.proofs.Seats.{at_here, consistent, entry_made_once, seats, sole, some_in, still, ticked, ticket_in}
use Rattle.sb_turn.proofs.Seats.{turn_ticket}

module _ {S E B : Type 0} (stands : S → List (ℕ × E) → Type 0) (base : S → B) (fixed : B) (first : List (ℕ × E)) where
  abbrev V : Type 0
  V = View E B

  abbrev St : Type 0
  St = State (Option S) V

  abbrev M : Type 0
  M = Me (Option S) V

  abbrev Rule : St → Type 0
  Rule = IsOrdered stands base fixed first

  abbrev Goes : St → ℕ → ℕ → M → (ℕ → M → Type 0) → ℕ → Type 0
  Goes s k id me then x = (w : V) × (a : Act (Option S)) × Valid s.homes me.1 a × Rule (stepped s k x id me.1 w a)
      × then (get_or s.words k 0) (w, carried_after me.1 a)

  abbrev worded : List ℕ → St → St
  worded ws s = record { words = ws; homes = s.homes; views = s.views }

  adds_at : (s : St) (r : Rule s) (id : ℕ) (me : M) (t m : ℕ) (xs : List (ℕ × E)) → get_elem? s.views id ≡ some me.0
      → me.0.stage ≡ Inside t → 0 < me.0.number → IsEntryOf me.0.number xs → m ≡ r.made + 1
      → Rule (stepped s 2 m id me.1 (with_entry me.0 t xs) keeps)
  adds_at s r id me t m xs at has pos own more = let w : V = with_entry me.0 t xs in let k' = r.kept in let old =
      k'.each_seat id me.0 at in let n : ℕ = me.0.number in let history' : List (ℕ × E) = xs ++ r.history in
      let same : (k : ℕ) → ticket_count k me.0.stage ≡ ticket_count k w.stage = λ k. ap (ticket_count k) has in
      let turn = old.turn t (subst (HasTurn t) (sym has) refl) in
      let served : ticket_count r.serving me.0.stage ≡ 1 = ap (ticket_count r.serving) has
      ∙ one_if_same t r.serving turn.0 in
      let is_one = one_if_same n n refl in
      let here : 1 ≤ claims n me.0 = omega arith in
      let below : n < r.numbers = dite (dec_le r.numbers n)
      (λ le. let z = (k'.fresh n le).0 in let a = total_at (claims n) s.views id me.0 at in absurd (omega arith))
      (λ no. lt_of_not-le no) in
      subst (λ (ws : List ℕ). Rule record { words = set ws 2 m; homes = s.homes; views = set s.views id w })
      (sym r.words) record {
        history = history';
        tickets = r.tickets;
        serving = r.serving;
        made = m;
        numbers = r.numbers;
        parent = r.parent;
        words = refl;
        one_slot = r.one_slot;
        kept = record {
          once = λ k p. let a = total_set (claims k) s.views id me.0 w at in let b = k'.once k p in omega arith;
          fresh = λ k new. let a = total_set (claims k) s.views id me.0 w at in let b =
              k'.fresh k new in (
                omega arith,
                entries_other k xs r.history (own_other n k xs (λ e. omega arith) own)
                    ∙ b.1,
              );
          started = k'.started;
          opening_kept = entries_other 0 xs r.history (own_other n 0 xs (λ e. omega arith) own) ∙ k'.opening_kept;
          parents = k'.parents;
          drawn = λ k. let a = total_set (ticket_count_of k) s.views id me.0 w at in let b = k'.drawn k in let c =
              same k in omega arith;
          from_serving = λ k le. let a = total_set (ticket_count_of k) s.views id me.0 w at in let b =
              k'.from_serving k le in let c = same k in omega arith;
          below_next = λ k le. let a = total_set (ticket_count_of k) s.views id me.0 w at in let b =
              k'.below_next k le in let c = same k in omega arith;
          counted = let a = total_set ticket_held_of s.views id me.0 w at in let z : ticket_held me.0.stage ≡ 1 =
              ap ticket_held has in let b = k'.counted in omega arith;
          one_a_turn = let a = total_set entry_made_of s.views id me.0 w at in let z : entry_made me.0.stage ≡ 0 =
              ap entry_made has in let b = k'.one_a_turn in omega arith;
          entries = let a = k'.entries in let b = length-append xs r.history in let c = own_one n xs own in omega arith;
          narrow = k'.narrow;
          each_seat = seats (Fits fixed first history' r.serving r.numbers r.parent) s.views id w
              (let p = old.exact.0 pos in record {
                based = old.based;
                past_seen = ([], ap (λ z. xs ++ z) (sym turn.1));
                exact = (
                  (λ _. (
                    entries-append n xs r.history ∙ (λ i. own_same n xs own i ++ p.0 i),
                    entries-append n xs me.0.seen ∙ (λ i. own_same n xs own i ++ p.1 i),
                  )),
                  changed n r.history me.0.seen history' (xs ++ me.0.seen)
                      (λ k ne. (
                        entries_other k xs r.history (own_other n k xs ne own),
                        entries_other k xs me.0.seen (own_other n k xs ne own),
                      )) _
                      (let b = k'.once n pos in let c = total_at (claims n) s.views id me.0 at in omega
                      arith) old.exact.1,
                );
                last = old.last;
                opened = (
                  old.opened.0,
                  entries_other 0 xs me.0.seen (own_other n 0 xs (λ e. omega arith) own)
                      ∙ old.opened.1,
                );
                children = old.children;
                handed_below = old.handed_below;
                reserved_is_new = old.reserved_is_new;
                both_past = tt;
                turn = λ u is. (sym is ∙ turn.0, ap (λ z. xs ++ z) turn.1);
              })
              (λ j d ne e. let f = k'.each_seat j d e in record {
                based = f.based;
                past_seen = IsPast-append d.seen r.history xs f.past_seen;
                exact = changed n r.history d.seen history' d.seen
                    (λ k other. (entries_other k xs r.history (own_other n k xs other own), refl)) (accounts d)
                    (let b = k'.once n pos in let c = total_two (claims n) s.views j id d me.0 ne e at in omega
                    arith) f.exact;
                last = f.last;
                opened = f.opened;
                children = f.children;
                handed_below = f.handed_below;
                reserved_is_new = f.reserved_is_new;
                both_past = f.both_past;
                turn = λ u is. absurd (ne (sole stands base fixed first s r id me.0 at served j d u e is));
              });
          value = inr (id, w, t, at_here s.views id me.0 w at, refl);
        };
      }

  -- while the entry of the turn is not made, no more were made than turns passed on
  level : (s : St) (r : Rule s) (id : ℕ) (v : V) (t : ℕ) → get_elem? s.views id ≡ some v → v.stage ≡ Inside t
      → r.made ≤ r.serving
  level s r id v t at has = let turn = (r.kept.each_seat id v at).turn t
      (subst (HasTurn t) (sym has) refl) in let served : ticket_count r.serving v.stage ≡ 1 =
      ap (ticket_count r.serving) has ∙ one_if_same t r.serving turn.0 in
      let z = total_zero entry_made_of s.views (λ j d e. still d.stage
      (λ u h. let is = sole stands base fixed first s r id v at served j d u e h in let same : d
      ≡ v = some-injective d v (sym e ∙ (ap (get_elem? s.views) is ∙ at)) in
      ap (λ (x : V). entry_made x.stage) same ∙ ap entry_made has)) in let a = r.kept.one_a_turn in omega arith

  adds_word : (s : St) (r : Rule s) (id : ℕ) (v : V) (t : ℕ) → get_elem? s.views id ≡ some v → v.stage ≡ Inside t
      → (get_or s.words 2 0 + 1) % 2 ^ 64 ≡ r.made + 1
  adds_word s r id v t at has = let turn = (r.kept.each_seat id v at).turn t
      (subst (HasTurn t) (sym has) refl) in let served : ticket_count r.serving v.stage ≡ 1 =
      ap (ticket_count r.serving) has ∙ one_if_same t r.serving turn.0 in
      let mine = total_at (ticket_count_of r.serving) s.views id v at in let top = r.kept.narrow in let same =
      level s r id v t at has in
      let below : r.serving < r.tickets = dite (dec_le r.tickets r.serving)
      (λ le. let z = r.kept.below_next r.serving le in absurd (omega arith)) (λ le. lt_of_not-le le) in
      ap (λ (ws : List ℕ). (get_or ws 2 0 + 1) % 2 ^ 64) r.words ∙ mod-eq_of_lt (omega arith)

  pub adds_keep : (n id : ℕ) (me : M) (t : ℕ) (xs : List (ℕ × E)) → me.0.stage ≡ Inside t → 0 < me.0.number
      → IsEntryOf me.0.number xs → Allows Rule n id me 2 (λ y. (y + 1) % 2 ^ 64) (adds xs (step n 2 1 0 none) me)
  adds_keep n id me t xs has pos own s r wide at _ = let r' =
      adds_at s r id me t ((get_or s.words 2 0 + 1) % 2 ^ 64) xs at has pos own (adds_word s r id me.0 t at has) in (
        with_entry me.0 t xs,
        keeps,
        tt,
        r',
        λ u is. (
          (λ k. (with_entry me.0 (ap ticket_in (sym has ∙ is) k) xs, me.1)),
          subst (λ (z : ℕ). IsConsistent (with_entry me.0 z xs)) (ap ticket_in (sym has ∙ is))
              (consistent stands base fixed first _ r' id (with_entry me.0 t xs)
              (at_here s.views id me.0 (with_entry me.0 t xs) at)),
        ),
      )

  passes_at : (s : St) (r : Rule s) (id : ℕ) (v : V) (t : ℕ) (x : S) → get_elem? s.views id ≡ some v
      → HasTurn t v.stage → stands x v.seen → v.base ≡ Some (base x) → 0 < v.number
      → Rule (stepped (worded (r.tickets ∷ r.serving ∷ r.made ∷ r.numbers ∷ []) s) 1 (r.serving + 1) id
      ((0, Some x) ∷ []) (at_stage v Out) gives)
  passes_at s r id v t x at has good based pos = let z = entry_made_once v.stage in let w : V =
      at_stage v Out in let k' = r.kept in let old = k'.each_seat id v at in let y : ℕ = r.serving in
      let turn = old.turn t has in let served : ticket_count y v.stage ≡ 1 =
      ap (λ (z : ℕ). ticket_count z v.stage) (sym turn.0) ∙ ticked t v.stage has in
      let mine = total_at (ticket_count_of y) s.views id v at in
      let more : y < r.tickets = dite (dec_le r.tickets y) (λ le. let z = k'.below_next y le in absurd (omega arith))
      (λ le. lt_of_not-le le) in record {
        history = r.history;
        tickets = r.tickets;
        serving = y + 1;
        made = r.made;
        numbers = r.numbers;
        parent = r.parent;
        words = refl;
        one_slot = length-set s.homes 0 (some (Some x)) ∙ r.one_slot;
        kept = record {
          once = λ k p. let a = total_set (claims k) s.views id v w at in let b = k'.once k p in omega arith;
          fresh = λ k new. let a = total_set (claims k) s.views id v w at in let b =
              k'.fresh k new in (omega arith, b.1);
          started = k'.started;
          opening_kept = k'.opening_kept;
          parents = k'.parents;
          drawn = λ k. let a = total_set (ticket_count_of k) s.views id v w at in let b = k'.drawn k in omega arith;
          from_serving = λ k le. let a = total_set (ticket_count_of k) s.views id v w at in dite (ℕ_discrete k y)
              (λ e. let b = k'.drawn k in let c : ticket_count k v.stage ≡ 1 = ap
              (λ (z : ℕ). ticket_count z v.stage) e ∙ served in omega arith)
              (λ e. let b = k'.from_serving k (omega arith) in omega arith);
          below_next = λ k le. let a = total_set (ticket_count_of k) s.views id v w at in let b =
              k'.below_next k le in omega arith;
          counted = let a = total_set ticket_held_of s.views id v w at in let z₂ =
              turn_ticket t v.stage has in let b = k'.counted in omega arith;
          one_a_turn = let a = total_set entry_made_of s.views id v w at in let b = k'.one_a_turn in omega arith;
          entries = k'.entries;
          narrow = k'.narrow;
          each_seat = seats (Fits fixed first r.history (y + 1) r.numbers r.parent) s.views id w
              record {
                based = old.based;
                past_seen = old.past_seen;
                exact = old.exact;
                last = old.last;
                opened = old.opened;
                children = old.children;
                handed_below = old.handed_below;
                reserved_is_new =
                    old.reserved_is_new;
                both_past = old.both_past;
                turn = λ u h. absurd h;
              }
              (λ j d ne e. let f = k'.each_seat j d e in record {
                based = f.based;
                past_seen = f.past_seen;
                exact = f.exact;
                last = f.last;
                opened = f.opened;
                children = f.children;
                handed_below =
                    f.handed_below;
                reserved_is_new = f.reserved_is_new;
                both_past = f.both_past;
                turn =
                    λ u h. absurd (ne (sole stands base fixed first s r id v at served j d u e h));
              });
          value = inl (
            x,
            set_here s.homes 0 (some (Some x)) (let o = r.one_slot in omega arith),
            subst (stands x) turn.1 good,
            ap (some_in (base x)) (sym based ∙ old.based pos),
          );
        };
      }

  passes_from : (n id : ℕ) (v : V) (t : ℕ) (x : S) → HasTurn t v.stage → stands x v.seen → v.base ≡ Some (base x)
      → 0 < v.number
      → Allows Rule n id (v, (0, Some x) ∷ []) 1 (λ y. (y + 1) % 2 ^ 64)
      (passes_on (step n 1 1 0 none) (v, (0, Some x) ∷ []))
  passes_from n id v t x has good based pos s r wide at _ = let me : M = (v, (0, Some x) ∷ []) in let then =
      passes_on (step n 1 1 0 none) me in
      let turn = (r.kept.each_seat id v at).turn t has in let y : ℕ =
      r.serving in let served : ticket_count y v.stage ≡ 1 = ap (λ (z : ℕ). ticket_count z v.stage) (sym turn.0)
      ∙ ticked t v.stage has in
      let mine = total_at (ticket_count_of y) s.views id v at in let top = r.kept.narrow in
      let more : y < r.tickets = dite (dec_le r.tickets y)
      (λ le. let z = r.kept.below_next y le in absurd (omega arith)) (λ le. lt_of_not-le le) in
      let small : (y + 1) % 2 ^ 64 ≡ y + 1 = mod-eq_of_lt (omega arith) in
      subst (λ (ws : List ℕ). Goes (worded ws s) 1 id me then ((get_or ws 1 0 + 1) % 2 ^ 64)) (sym r.words) (
        at_stage v Out,
        gives,
        tt,
        subst (λ (z : ℕ). Rule
            (stepped (worded (r.tickets ∷ y ∷ r.made ∷ r.numbers ∷ []) s) 1 z id ((0, Some x) ∷ [])
            (at_stage v Out) gives)) (sym small) (passes_at s r id v t x at has good based pos),
        refl,
      )

  pub passes_keep : (n id : ℕ) (me : M) (t : ℕ) (x : S) → HasTurn t me.0.stage → me.1 ≡ (0, Some x) ∷ []
      → stands x me.0.seen → me.0.base ≡ Some (base x) → 0 < me.0.number
      → Allows Rule n id me 1 (λ y. (y + 1) % 2 ^ 64) (passes_on (step n 1 1 0 none) me)
  passes_keep n id me t x has holds good based pos =
      subst (λ (c : List (ℕ × Option S)). Allows Rule n id (me.0, c) 1 (λ y. (y + 1) % 2 ^ 64)
      (passes_on (step n 1 1 0 none) (me.0, c))) (sym holds) (passes_from n id me.0 t x has good based pos)
