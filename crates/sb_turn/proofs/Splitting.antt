-- Taking a number, splitting and joining keep the rule, and a new lock meets it.
use Rattle.std.proofs.Common.{◌≡◌, ℕ, Bool, cond, eq-eqb, ne_eqb, ◌+◌, ◌<◌, ◌≤◌, eqb, inl, inr, List, [], ◌∷◌, ◌++◌}
use Rattle.std.proofs.Common.{get_or, set, sym, refl, ap, ◌∙◌, subst, ⊎_elim, arith, le_refl, lt_of_not-le, append-nil}
use mathlib.Core.Logic.{dite}
use mathlib.Core.Option.{none, some}
use native.Mathlib.Decide.{ℕ_discrete, dec_le}
use lib.ListN.{get_elem?}
use prog.Atomic.{either}
use Rattle.std.specs.Prelude.{Option, Some, None}
use Rattle.atomic_table.specs.Table.{State, Me, step, Act, keeps, Valid, carried_after, stepped, Allows, Splits, Joins}
use Rattle.atomic_table.specs.Table.{opening}
use Rattle.sb_turn.specs.declared.view.View.{View}
use Rattle.sb_turn.specs.declared.view.Stage.TheVariants.{Out}
use Rattle.sb_turn.specs.Histories.{entries_of_pass}
use Rattle.sb_turn.specs.Views.{one_if, number_or_zero, times, total, ticket_held, entry_made, HasTurn, count}
use Rattle.sb_turn.specs.Views.{AccountsMatch, reserved_account, accounts, claims, ticket_count_of, ticket_held_of}
use Rattle.sb_turn.specs.Views.{entry_made_of, first_view, with_reserved, without_reserved, newcomer, union_of}
use Rattle.sb_turn.specs.Views.{spent_view}
use Rattle.sb_turn.specs.Rule.{Fits, IsOrdered}
use Rattle.sb_turn.specs.Steps.{numbers, learns}
use Rattle.atomic_table.proofs.Lists.{set_else, exchanged, at_snoc, at_longer}
use Rattle.sb_turn.proofs.Sums.{one_if_same, one_if_other, total_set, total_snoc, total_at, total_two, times_append}
use Rattle.sb_turn.proofs.Histories.{all_append, all_first, all_last, none_seen, longest, between, middle, all_zero}
use Rattle.sb_turn.proofs.Seats.{at_here, bounded, consistent, first_seat, seats, some_none, some_number, stays}
use Rattle.sb_turn.proofs.Seats.{taken_stays, united, united_all}

module _ {S E B : Type 0} (stands : S → List (ℕ × E) → Type 0) (base : S → B) (fixed : B) (first : List (ℕ × E)) where
  abbrev V : Type 0
  V = View E B

  abbrev St : Type 0
  St = State (Option S) V

  abbrev M : Type 0
  M = Me (Option S) V

  abbrev Rule : St → Type 0
  Rule = IsOrdered stands base fixed first

  abbrev Goes : St → ℕ → ℕ → M → (ℕ → M → Type 0) → ℕ → Type 0
  Goes s k id me then x = (w : V) × (a : Act (Option S)) × Valid s.homes me.1 a × Rule (stepped s k x id me.1 w a)
      × then (get_or s.words k 0) (w, carried_after me.1 a)

  abbrev worded : List ℕ → St → St
  worded ws s = record { words = ws; homes = s.homes; views = s.views }

  numbers_at : (s : St) (r : Rule s) (id : ℕ) (me : M) → get_elem? s.views id ≡ some me.0 → me.0.reserved ≡ None
      → 0 < me.0.number
      → Rule (stepped (worded (r.tickets ∷ r.serving ∷ r.made ∷ r.numbers ∷ []) s) 3 (r.numbers + 1) id me.1
      (with_reserved me.0 r.numbers) keeps)
  numbers_at s r id me at none_yet lives = let v : V = me.0 in let n : ℕ = r.numbers in let w : V =
      with_reserved v n in let k' = r.kept in let old = k'.each_seat id v at in
      let was : (k : ℕ) → claims k v ≡ one_if (eqb v.number k) + count k v.joined =
      λ k. ap (λ (o : Option ℕ). one_if (eqb v.number k) + count k (reserved_account o ++ v.joined)) none_yet in
      let gone = k'.fresh n (le_refl n) in let parent' : ℕ → ℕ = λ k. cond (eqb k n) v.number (r.parent k) in
      let old_parent : (k : ℕ) → k < n → parent' k ≡ r.parent k =
      λ k le. ap (λ (b : Bool). cond b v.number (r.parent k)) (ne_eqb k n (λ e. omega arith)) in
      let new_parent : (k : ℕ) → k ≡ n → parent' k ≡ v.number =
      λ k e. ap (λ (b : Bool). cond b v.number (r.parent k)) (eq-eqb k n e) in
      let g = old.last in let begun = k'.started in let self_one = one_if_same v.number v.number refl in
      let alone_here : claims v.number v ≡ 1 = let a = total_at (claims v.number) s.views id v at in let b =
      k'.once v.number lives in let c = was v.number in omega arith in record {
        history = r.history;
        tickets = r.tickets;
        serving = r.serving;
        made = r.made;
        numbers = n + 1;
        parent = parent';
        words = refl;
        one_slot = r.one_slot;
        kept = record {
          once = λ k pos. let a = total_set (claims k) s.views id v w at in let b =
              was k in dite (ℕ_discrete n k) (λ e. let c = bounded n k in let d =
              (k'.fresh k (omega arith)).0 in omega arith)
              (λ e. let c = one_if_other n k e in let d = k'.once k pos in omega arith);
          fresh = λ k new. let a = total_set (claims k) s.views id v w at in let b = was k in let c =
              one_if_other n k (λ e. omega arith) in let d = k'.fresh k (omega arith) in (omega arith, d.1);
          started = omega arith;
          opening_kept = k'.opening_kept;
          parents = λ k low le. dite (ℕ_discrete k n) (λ e. let p = new_parent k e in (omega arith, omega arith))
              (λ e. let p = old_parent k (omega arith) in let q = k'.parents k low (omega arith) in
              (omega arith, omega arith));
          drawn = λ k. let a = total_set (ticket_count_of k) s.views id v w at in let b = k'.drawn k in omega arith;
          from_serving = λ k le. let a = total_set (ticket_count_of k) s.views id v w at in let b =
              k'.from_serving k le in omega arith;
          below_next = λ k le. let a = total_set (ticket_count_of k) s.views id v w at in let b =
              k'.below_next k le in omega arith;
          counted = let a = total_set ticket_held_of s.views id v w at in let b = k'.counted in omega arith;
          one_a_turn = let a = total_set entry_made_of s.views id v w at in let b = k'.one_a_turn in omega arith;
          entries = k'.entries;
          narrow = k'.narrow;
          each_seat = seats (Fits fixed first r.history r.serving (n + 1) parent') s.views id w
              (let g = old.last in record {
                based = old.based;
                past_seen = old.past_seen;
                exact = (
                  old.exact.0,
                  (
                    (λ _. (gone.1, none_seen n r.history v.seen old.past_seen gone.1)),
                    subst (λ (o : Option ℕ). AccountsMatch r.history v.seen
                        (reserved_account o ++ v.joined)) none_yet old.exact.1,
                  ),
                );
                last = (omega arith, omega arith);
                opened = old.opened;
                children = λ k low le. dite (ℕ_discrete k n)
                    (λ e. let p = new_parent k e in let a = old.handed_below k
                    (omega arith) in let b = one_if_same n k (sym e) in let c = was v.number in let d =
                    one_if_other n v.number (λ x. omega arith) in
                    subst (λ (z : ℕ). one_if (eqb n k) + times k v.handed_out ≡ one_if (eqb v.number z) +
                    (one_if (eqb n z) + count z v.joined)) (sym p) (omega arith))
                    (λ e. let p = old_parent k (omega arith) in let a = old.children k low
                    (omega arith) in let b = one_if_other n k (λ x. e (sym x)) in let q =
                    k'.parents k low (omega arith) in let c = was (r.parent k) in let d =
                    one_if_other n (r.parent k) (λ x. omega arith) in
                    subst (λ (z : ℕ). one_if (eqb n k) + times k v.handed_out ≡ one_if (eqb v.number z) +
                    (one_if (eqb n z) + count z v.joined)) (sym p) (omega arith));
                handed_below = λ k le. let a = old.handed_below k (omega arith) in let b =
                    one_if_other n k (λ x. omega arith) in omega arith;
                reserved_is_new = λ m is k low le e. let same : n ≡ m =
                    some_number n m is in dite (ℕ_discrete k n) (λ x. let p = new_parent k x in omega arith)
                    (λ x. let p = old_parent k (omega arith) in let q = k'.parents k low (omega arith) in omega arith);
                both_past = old.both_past;
                turn = old.turn;
              })
              (λ j d ne e. let f = k'.each_seat j d e in let h = f.last in let apart : claims v.number d
              ≡ 0 = let a = total_two (claims v.number) s.views j id d v ne e at in let b =
              k'.once v.number lives in omega arith in record {
                based = f.based;
                past_seen = f.past_seen;
                exact = f.exact;
                last = (h.0, omega arith);
                opened = f.opened;
                children = λ k low le. dite (ℕ_discrete k n) (λ x. let a = f.handed_below k (omega arith) in subst
                    (λ (z : ℕ). times k d.handed_out ≡ count z (accounts d)) (sym (new_parent k x)) (omega arith))
                    (λ x. subst (λ (z : ℕ). times k d.handed_out ≡ count z (accounts d))
                    (sym (old_parent k (omega arith))) (f.children k low (omega arith)));
                handed_below = λ k le. f.handed_below k (omega arith);
                reserved_is_new = λ m is k low le x. dite (ℕ_discrete k n)
                    (λ y. let p = new_parent k y in let a : claims v.number d ≡ one_if (eqb d.number v.number) +
                    (one_if (eqb m v.number) + count v.number d.joined) =
                    ap (λ (o : Option ℕ). one_if (eqb d.number v.number) + count v.number
                    (reserved_account o ++ d.joined)) is in
                    let b = one_if_same m v.number (sym x ∙ p) in omega arith)
                    (λ y. f.reserved_is_new m is k low (omega arith) (sym (old_parent k (omega arith)) ∙ x));
                both_past = f.both_past;
                turn = f.turn;
              });
          value = ⊎_elim inl (λ h. inr (taken_stays s.views id v w at (λ u has. has) h)) k'.value;
        };
      }

  pub numbers_keep : (n id : ℕ) (me : M) (old : ℕ) → me.0.reserved ≡ None → 0 < me.0.number
      → Allows Rule n id me 3 (λ y. either (eqb y old) (old + 1) y) (numbers (step n 3 old (old + 1) none) me)
  numbers_keep n id me old none_yet lives s r wide at _ = let then =
      numbers (step n 3 old (old + 1) none) me in let w : V = with_reserved me.0 r.numbers in let s' : St =
      worded (r.tickets ∷ r.serving ∷ r.made ∷ r.numbers ∷ []) s in
      subst (λ (ws : List ℕ). Goes (worded ws s) 3 id me then
      (either (eqb (get_or ws 3 0) old) (old + 1) (get_or ws 3 0))) (sym r.words)
      (exchanged r.numbers old (old + 1) (Goes s' 3 id me then)
      (λ hit. let r' = numbers_at s r id me at none_yet lives in (
        w,
        keeps,
        tt,
        subst (λ (x : ℕ). Rule (stepped s' 3 x id me.1 w keeps)) (ap (λ (x : ℕ). x + 1) hit) r',
        (
          (λ _. (
            refl,
            (r.kept.each_seat id me.0 at).last.1,
            consistent stands base fixed first _ r' id w (at_here s.views id me.0 w at),
          )),
          λ miss. absurd (miss hit),
        ),
      ))
      (λ miss. (
        me.0,
        keeps,
        tt,
        subst (λ (ws : List ℕ). Rule
            (stepped (worded ws s) 3 (get_or ws 3 0) id me.1 me.0 keeps)) r.words
            (stays stands base fixed first s r 3 id me at),
        ((λ hit. absurd (miss hit)), λ _. refl),
      )))

  pub learns_keep : (n id : ℕ) (me : M) (i : ℕ) → Allows Rule n id me i (λ y. y) (learns (step n i 0 0 none) me)
  learns_keep n id me i s r wide at _ = (
    me.0,
    keeps,
    tt,
    stays stands base fixed first s r i id me at,
    (refl, consistent stands base fixed first s r id me.0 at, (r.kept.each_seat id me.0 at).both_past),
  )

  -- the views change, and no word
  pub splits_keep : (id : ℕ) (v : V) (n : ℕ) → v.reserved ≡ Some n → 0 < n → 0 < v.number
      → Splits Rule id v (without_reserved v) (newcomer v)
  splits_keep id v n has pos lives s r at = let w : V = without_reserved v in let u : V = newcomer v in let k' =
      r.kept in let old = k'.each_seat id v at in let is : number_or_zero v.reserved ≡ n = ap number_or_zero has in
      let was : (k : ℕ) → claims k v ≡ one_if (eqb v.number k) + (one_if (eqb n k) + count k v.joined) =
      λ k. ap (λ (o : Option ℕ). one_if (eqb v.number k) + count k (reserved_account o ++ v.joined)) has in
      let new : (k : ℕ) → claims k u ≡ one_if (eqb n k) + 0 = λ k. ap (λ (x : ℕ). one_if (eqb x k) + 0) is in
      let all = subst (λ (o : Option ℕ). AccountsMatch r.history v.seen
      (reserved_account o ++ v.joined)) has old.exact.1 in
      let claims_so : (k : ℕ) → total (claims k) (set s.views id w ++ u ∷ []) ≡ total (claims k) s.views =
      λ k. let a = total_set (claims k) s.views id v w at in let b =
      total_snoc (claims k) (set s.views id w) u in let c = was k in let d = new k in omega arith in
      let ticks_so : (k : ℕ) → total (ticket_count_of k) (set s.views id w ++ u ∷ []) ≡ total
      (ticket_count_of k) s.views = λ k. let a = total_set (ticket_count_of k) s.views id v w at in let b =
      total_snoc (ticket_count_of k) (set s.views id w) u in omega arith in
      let below : n < r.numbers = dite (dec_le r.numbers n)
      (λ le. let z = (k'.fresh n le).0 in let a = total_at
      (claims n) s.views id v at in let b = was n in let c = one_if_same n n refl in absurd (omega arith))
      (λ le. lt_of_not-le le) in record {
        history = r.history;
        tickets = r.tickets;
        serving = r.serving;
        made = r.made;
        numbers = r.numbers;
        parent = r.parent;
        words = r.words;
        one_slot = r.one_slot;
        kept = record {
          once = λ k p. let a = claims_so k in let b = k'.once k p in omega arith;
          fresh = λ k p. let a = claims_so k in let b = k'.fresh k p in (omega arith, b.1);
          started = k'.started;
          opening_kept = k'.opening_kept;
          parents = k'.parents;
          drawn = λ k. let a = ticks_so k in let b = k'.drawn k in omega arith;
          from_serving = λ k p. let a = ticks_so k in let b = k'.from_serving k p in omega arith;
          below_next = λ k p. let a = ticks_so k in let b = k'.below_next k p in omega arith;
          counted = let a = total_set ticket_held_of s.views id v w at in let b =
              total_snoc ticket_held_of (set s.views id w) u in let c = k'.counted in omega arith;
          one_a_turn = let a = total_set entry_made_of s.views id v w at in let b =
              total_snoc entry_made_of (set s.views id w) u in let c = k'.one_a_turn in omega arith;
          entries = k'.entries;
          narrow = k'.narrow;
          each_seat = λ j d e. ⊎_elim
              (λ e'. seats (Fits fixed first r.history r.serving r.numbers r.parent) s.views id w
              record {
                based = old.based;
                past_seen = old.past_seen;
                exact = (old.exact.0, all.1);
                last = old.last;
                opened = old.opened;
                children = λ k low le. let a = old.children k low le in let b = was (r.parent k) in let c =
                    one_if_other n (r.parent k) (λ x. old.reserved_is_new n has k low le (sym x)) in omega arith;
                handed_below = old.handed_below;
                reserved_is_new = λ m no'. absurd (some_none m (sym no'));
                both_past = old.both_past;
                turn = old.turn;
              } (λ i c _. k'.each_seat i c) j d e')
              (λ (same : u ≡ d). subst (Fits fixed first r.history r.serving r.numbers r.parent) same record {
                based = λ _. old.based lives;
                past_seen = old.past_seen;
                exact = subst (λ (x : ℕ). AccountsMatch r.history v.seen ((x, []) ∷ [])) (sym is) (all.0, tt);
                last = (le_refl (number_or_zero v.reserved), subst (λ (x : ℕ). x < r.numbers) (sym is) below);
                opened = ((λ _. old.opened.0 lives), old.opened.1);
                children = λ k low le. let b = new (r.parent k) in let c =
                    one_if_other n (r.parent k) (λ x. old.reserved_is_new n has k low le (sym x)) in omega arith;
                handed_below = λ _ _. refl;
                reserved_is_new = λ m no'. absurd (some_none m (sym no'));
                both_past = tt;
                turn = λ _ no'. absurd no';
              }) (at_snoc (set s.views id w) u d j e);
          value = ⊎_elim inl (λ h. let h' = taken_stays s.views id v w at (λ _ has'. has') h in inr
              (h'.0, h'.1, h'.2, at_longer (set s.views id w) (u ∷ []) h'.0 h'.1 h'.3, h'.4)) k'.value;
        };
      }

  pub joins_keep : (id : ℕ) (v : V) (other : ℕ) (w : V) → v.stage ≡ Out → w.stage ≡ Out → v.reserved ≡ None
      → w.reserved ≡ None → 0 < v.number → Joins Rule id v other w (union_of v w) spent_view
  joins_keep id v other w out out' free free' lives s r at two at₁ = let b : V = union_of v w in let k' =
      r.kept in let vs : List V = set s.views id b in let at' : get_elem? s.views other ≡ some w =
      sym (set_else s.views id other b two) ∙ at₁ in
      let f = k'.each_seat id v at in let g = k'.each_seat other w at' in let long =
      longest r.history v.seen w.seen f.past_seen g.past_seen in
      let claims_so : (k : ℕ) → 0 < k → total (claims k) (set vs other spent_view) ≤ total (claims k) s.views =
      λ k pos. let a = total_set (claims k) s.views id v b at in let c =
      total_set (claims k) vs other w spent_view at₁ in let d = united k v w pos in omega arith in
      let ticks_so : (k : ℕ) → total (ticket_count_of k) (set vs other spent_view) ≤ total
      (ticket_count_of k) s.views = λ k. let a = total_set (ticket_count_of k) s.views id v b at in let c =
      total_set (ticket_count_of k) vs other w spent_view at₁ in omega arith in record {
        history = r.history;
        tickets = r.tickets;
        serving = r.serving;
        made = r.made;
        numbers = r.numbers;
        parent = r.parent;
        words = r.words;
        one_slot = r.one_slot;
        kept = record {
          once = λ k p. let a = claims_so k p in let c = k'.once k p in omega arith;
          fresh = λ k p. let y = k'.started in let a = claims_so k (omega arith) in let c =
              k'.fresh k p in (omega arith, c.1);
          started = k'.started;
          opening_kept = k'.opening_kept;
          parents = k'.parents;
          drawn = λ k. let a = ticks_so k in let c = k'.drawn k in omega arith;
          from_serving = λ k p. let a = ticks_so k in let c = k'.from_serving k p in omega arith;
          below_next = λ k p. let a = ticks_so k in let c = k'.below_next k p in omega arith;
          counted = let a = total_set ticket_held_of s.views id v b at in let c =
              total_set ticket_held_of vs other w spent_view at₁ in let z : ticket_held w.stage ≡ 0 =
              ap ticket_held out' in let d = k'.counted in omega arith;
          one_a_turn = let a = total_set entry_made_of s.views id v b at in let c =
              total_set entry_made_of vs other w spent_view at₁ in let z : entry_made w.stage ≡ 0 =
              ap entry_made out' in let d = k'.one_a_turn in omega arith;
          entries = k'.entries;
          narrow = k'.narrow;
          each_seat = seats (Fits fixed first r.history r.serving r.numbers r.parent) vs other spent_view
              record {
                based = λ no'. absurd (omega arith);
                past_seen = (r.history, sym (append-nil r.history));
                exact = ((λ no'. absurd (omega arith)), tt);
                last =
                    (le_refl 0, (let y = k'.started in omega arith));
                opened = ((λ no'. absurd (omega arith)), refl);
                children = λ k low le. let q = k'.parents k low le in let z =
                    one_if_other 0 (r.parent k) (λ x. omega arith) in omega arith;
                handed_below = λ _ _. refl;
                reserved_is_new = λ m no'. absurd (some_none m (sym no'));
                both_past = tt;
                turn =
                    λ _ no'. absurd no';
              }
              (λ j d _ e. seats (Fits fixed first r.history r.serving r.numbers r.parent) s.views id b
              (let mine = between r.history b.seen v.seen long.0 long.1
              (accounts v) f.exact in let theirs = between r.history b.seen w.seen long.0 long.2
              (accounts w) g.exact in record {
                based = f.based;
                past_seen = long.0;
                exact = (
                  mine.0,
                  all_append r.history b.seen (reserved_account v.reserved)
                      ((w.number, w.mine) ∷ (w.joined ++ v.joined)) (all_first r.history b.seen
                      (reserved_account v.reserved) v.joined mine.1) (
                        theirs.0,
                        all_append r.history b.seen w.joined v.joined
                            (all_last r.history b.seen (reserved_account w.reserved) w.joined theirs.1)
                            (all_last r.history b.seen (reserved_account v.reserved) v.joined mine.1),
                      ),
                );
                last = f.last;
                opened = (
                  f.opened.0,
                  middle 0 r.history b.seen v.seen long.0 long.1 v.opening
                      (k'.opening_kept ∙ sym (f.opened.0 lives)) f.opened.1,
                );
                children = λ k low le. let p = f.children k low le in let q = g.children k low le in let a =
                    times_append k w.handed_out v.handed_out in let c =
                    united_all (r.parent k) v w free free' in omega arith;
                handed_below = λ k le. let p = f.handed_below k le in let q = g.handed_below k le in let a =
                    times_append k w.handed_out v.handed_out in omega arith;
                reserved_is_new = f.reserved_is_new;
                both_past = (long.1, (long.2, tt));
                turn = λ u has. absurd (subst (HasTurn u) out has);
              })
              (λ i c _. k'.each_seat i c) j d e);
          value = ⊎_elim inl (λ h. inr (taken_stays vs other w spent_view at₁
              (λ u has. absurd (subst (HasTurn u) out' has)) (taken_stays s.views id v b at
              (λ u has. absurd (subst (HasTurn u) out has)) h))) k'.value;
        };
      }

  pub starts : (x : S) → stands x first → ((k : ℕ) → 0 < k → entries_of_pass k first ≡ []) → base x ≡ fixed
      → Rule (opening (0 ∷ 0 ∷ 0 ∷ 2 ∷ []) (Some x ∷ []) (first_view fixed first))
  starts x good none_yet is = let d : V = first_view fixed first in record {
    history = first;
    tickets = 0;
    serving = 0;
    made = 0;
    numbers = 2;
    parent = λ k. 0;
    words = refl;
    one_slot = refl;
    kept = record {
      once = λ k pos. let a = bounded 1 k in omega arith;
      fresh = λ k le. let a = one_if_other 1 k (λ e. omega arith) in (omega arith, none_yet k (omega arith));
      started = omega arith;
      opening_kept = all_zero first none_yet;
      parents = λ k low le. absurd (omega arith);
      drawn = λ k. omega arith;
      from_serving = λ k le. absurd (omega arith);
      below_next = λ k le. refl;
      counted = omega arith;
      one_a_turn = omega arith;
      entries = omega arith;
      narrow = omega arith;
      each_seat = λ j c e. first_seat (Fits fixed first first 0 2 (λ k. 0)) d
          record {
            based = λ _. refl;
            past_seen = ([], refl);
            exact = ((λ pos. (none_yet 1 pos, none_yet 1 pos)), tt);
            last = (le_refl 1, omega arith);
            opened = ((λ _. refl), all_zero first none_yet);
            children =
                λ k low le. absurd (omega arith);
            handed_below = λ _ _. refl;
            reserved_is_new =
                λ m no'. absurd (some_none m (sym no'));
            both_past = tt;
            turn = λ _ no'. absurd no';
          } j c e;
      value = inl (x, refl, good, is);
    };
  }
