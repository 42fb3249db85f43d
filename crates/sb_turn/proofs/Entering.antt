-- Drawing a ticket and looking keep the rule.
use Rattle.std.proofs.Common.{◌≡◌, ℕ, ◌+◌, ◌<◌, eqb, inl, inr, List, [], ◌∷◌, get_or, set, sym, refl, ap, ◌∙◌, subst}
use Rattle.std.proofs.Common.{⊎_elim, arith, length-set}
use mathlib.Core.Logic.{dite}
use mathlib.Core.Option.{none, some, some-injective}
use native.Mathlib.Decide.{ℕ_discrete}
use lib.ListN.{get_elem?}
use prog.Atomic.{either}
use Rattle.std.specs.Prelude.{Option, Some}
use Rattle.atomic_table.specs.Table.{State, Me, step, Act, keeps, takes, Valid, carried_after, stepped, Allows}
use Rattle.sb_turn.specs.declared.view.View.{View}
use Rattle.sb_turn.specs.declared.view.Stage.TheVariants.{Out, Waits}
use Rattle.sb_turn.specs.Views.{total, ticket_count, ticket_held, entry_made, HasTurn, accounts, claims}
use Rattle.sb_turn.specs.Views.{ticket_count_of, ticket_held_of, entry_made_of, at_stage, with_turn, IsConsistent}
use Rattle.sb_turn.specs.Rule.{Fits, AtHome, IsOrdered}
use Rattle.sb_turn.specs.Steps.{draws, looks}
use Rattle.atomic_table.proofs.Lists.{exchanged}
use Rattle.sb_turn.proofs.Sums.{one_if_same, one_if_other, total_set}
use Rattle.sb_turn.proofs.Histories.{all_whole}
use Rattle.sb_turn.proofs.Seats.{at_here, bounded, consistent, nothing_new, seats, set_same, sole, stays, taken_stays}
use Rattle.sb_turn.proofs.Seats.{ticket_in}

module _ {S E B : Type 0} (stands : S → List (ℕ × E) → Type 0) (base : S → B) (fixed : B) (first : List (ℕ × E)) where
  abbrev V : Type 0
  V = View E B

  abbrev St : Type 0
  St = State (Option S) V

  abbrev M : Type 0
  M = Me (Option S) V

  abbrev Rule : St → Type 0
  Rule = IsOrdered stands base fixed first

  abbrev Goes : St → ℕ → ℕ → M → (ℕ → M → Type 0) → ℕ → Type 0
  Goes s k id me then x = (w : V) × (a : Act (Option S)) × Valid s.homes me.1 a × Rule (stepped s k x id me.1 w a)
      × then (get_or s.words k 0) (w, carried_after me.1 a)

  abbrev worded : List ℕ → St → St
  worded ws s = record { words = ws; homes = s.homes; views = s.views }

  draws_at : (s : St) (r : Rule s) (id : ℕ) (me : M) → get_elem? s.views id ≡ some me.0 → me.0.stage ≡ Out
      → r.tickets + 1 < 18446744073709551616
      → Rule (stepped (worded (r.tickets ∷ r.serving ∷ r.made ∷ r.numbers ∷ []) s) 0 (r.tickets + 1) id me.1
      (at_stage me.0 (Waits r.tickets)) keeps)
  draws_at s r id me at out room = let t : ℕ = r.tickets in let w : V = at_stage me.0 (Waits t) in let k' =
      r.kept in let old = k'.each_seat id me.0 at in record {
        history = r.history;
        tickets = t + 1;
        serving = r.serving;
        made = r.made;
        numbers = r.numbers;
        parent = r.parent;
        words = refl;
        one_slot = r.one_slot;
        kept = record {
          once = λ k p. let a = total_set (claims k) s.views id me.0 w at in let b = k'.once k p in omega arith;
          fresh = λ k new. let a = total_set (claims k) s.views id me.0 w at in let b =
              k'.fresh k new in (omega arith, b.1);
          started = k'.started;
          opening_kept = k'.opening_kept;
          parents = k'.parents;
          drawn = λ k. let a = total_set (ticket_count_of k) s.views id me.0 w at in let z : ticket_count k me.0.stage
              ≡ 0 = ap (ticket_count k) out in
              dite (ℕ_discrete t k) (λ e. let b = k'.below_next k (omega arith) in let c = bounded t k in omega arith)
              (λ e. let b = k'.drawn k in let c = one_if_other t k e in omega arith);
          from_serving = λ k le. let a = total_set (ticket_count_of k) s.views id me.0 w at in let z : ticket_count k
              me.0.stage ≡ 0 = ap (ticket_count k) out in let o : r.serving + total ticket_held_of s.views ≡ t =
              k'.counted in
              let b = k'.from_serving k le in let c = one_if_other t k (λ e. omega arith) in omega arith;
          below_next = λ k le. let a = total_set (ticket_count_of k) s.views id me.0 w at in let z : ticket_count k
              me.0.stage ≡ 0 = ap (ticket_count k) out in
              let b = k'.below_next k (omega arith) in let c = one_if_other t k (λ e. omega arith) in omega arith;
          counted = let a = total_set ticket_held_of s.views id me.0 w at in let z : ticket_held me.0.stage ≡ 0 =
              ap ticket_held out in let b = k'.counted in omega arith;
          one_a_turn = let a = total_set entry_made_of s.views id me.0 w at in let z : entry_made me.0.stage ≡ 0 =
              ap entry_made out in let b = k'.one_a_turn in omega arith;
          entries = k'.entries;
          narrow = room;
          each_seat = seats (Fits fixed first r.history r.serving r.numbers r.parent) s.views id w
              record {
                based = old.based;
                past_seen = old.past_seen;
                exact = old.exact;
                last = old.last;
                opened = old.opened;
                children = old.children;
                handed_below = old.handed_below;
                reserved_is_new =
                    old.reserved_is_new;
                both_past = old.both_past;
                turn = λ _ no. absurd no;
              } (λ j d _. k'.each_seat j d);
          value = ⊎_elim inl (λ h. inr (taken_stays s.views id me.0 w at
              (λ u has. absurd (subst (HasTurn u) out has)) h)) k'.value;
        };
      }

  pub draws_keep : (n id : ℕ) (me : M) (old : ℕ) → me.0.stage ≡ Out → old + 1 < 18446744073709551616
      → Allows Rule n id me 0 (λ y. either (eqb y old) (old + 1) y) (draws (step n 0 old (old + 1) none) me)
  draws_keep n id me old out room s r wide at _ = let then = draws (step n 0 old (old + 1) none) me in
      subst (λ (ws : List ℕ). Goes (worded ws s) 0 id me then
      (either (eqb (get_or ws 0 0) old) (old + 1) (get_or ws 0 0))) (sym r.words)
      (exchanged r.tickets old (old + 1) (Goes (worded (r.tickets ∷ r.serving ∷ r.made ∷ r.numbers ∷ []) s) 0 id me
      then)
      (λ hit. (
        at_stage me.0 (Waits r.tickets),
        keeps,
        tt,
        subst (λ (x : ℕ). Rule (stepped (worded (r.tickets ∷ r.serving ∷ r.made ∷ r.numbers ∷ []) s) 0 x id me.1
            (at_stage me.0 (Waits r.tickets)) keeps)) (ap (λ (x : ℕ). x + 1) hit)
            (draws_at s r id me at out (subst (λ (x : ℕ). x + 1 < 18446744073709551616) (sym hit) room)),
        ((λ _. refl), λ miss. absurd (miss hit)),
      ))
      (λ miss. (
        me.0,
        keeps,
        tt,
        subst (λ (ws : List ℕ). Rule
            (stepped (worded ws s) 0 (get_or ws 0 0) id me.1 me.0 keeps)) r.words
            (stays stands base fixed first s r 0 id me at),
        ((λ hit. absurd (miss hit)), λ _. refl),
      )))

  -- the value is at home where the seat that is served has not taken it
  home : (s : St) (r : Rule s) (id : ℕ) (v : V) → get_elem? s.views id ≡ some v → v.stage ≡ Waits r.serving
      → AtHome stands base fixed r.history s.homes
  home s r id v at waits = ⊎_elim (λ h. h) (λ h. let one : ticket_count r.serving v.stage ≡ 1 = ap
      (ticket_count r.serving) waits ∙ one_if_same r.serving r.serving refl in
      let e = sole stands base fixed first s r id v at one h.0 h.1 h.2 h.3 h.4 in let same : h.1 ≡ v =
      some-injective h.1 v (sym h.3 ∙ (ap (get_elem? s.views) e ∙ at)) in
      absurd (subst (HasTurn h.2) waits (subst (λ (d : V). HasTurn h.2 d.stage) same h.4))) r.kept.value

  enters_at : (s : St) (r : Rule s) (id : ℕ) (me : M) (i : ℕ) → get_elem? s.views id ≡ some me.0
      → me.0.stage ≡ Waits r.serving → 0 < me.0.number → (h : AtHome stands base fixed r.history s.homes)
      → Rule (stepped s i (get_or s.words i 0) id me.1 (with_turn me.0 r.serving r.history) (takes 0 (Some h.0)))
  enters_at s r id me i at waits pos h = let w : V = with_turn me.0 r.serving r.history in let k' =
      r.kept in let old = k'.each_seat id me.0 at in let x : ℕ = r.serving in
      let same : (k : ℕ) → ticket_count k me.0.stage ≡ ticket_count k w.stage = λ k. ap (ticket_count k) waits in
      subst (λ (ws : List ℕ). Rule record { words = ws; homes = set s.homes 0 none; views = set s.views id w })
      (sym (set_same s.words i)) record {
        history = r.history;
        tickets = r.tickets;
        serving = x;
        made = r.made;
        numbers = r.numbers;
        parent = r.parent;
        words = r.words;
        one_slot = length-set s.homes 0 none ∙ r.one_slot;
        kept = record {
          once = λ k p. let a = total_set (claims k) s.views id me.0 w at in let b = k'.once k p in omega arith;
          fresh = λ k new. let a = total_set (claims k) s.views id me.0 w at in let b =
              k'.fresh k new in (omega arith, b.1);
          started = k'.started;
          opening_kept = k'.opening_kept;
          parents = k'.parents;
          drawn = λ k. let a = total_set (ticket_count_of k) s.views id me.0 w at in let b = k'.drawn k in let c =
              same k in omega arith;
          from_serving = λ k le. let a = total_set (ticket_count_of k) s.views id me.0 w at in let b =
              k'.from_serving k le in let c = same k in omega arith;
          below_next = λ k le. let a = total_set (ticket_count_of k) s.views id me.0 w at in let b =
              k'.below_next k le in let c = same k in omega arith;
          counted = let a = total_set ticket_held_of s.views id me.0 w at in let z : ticket_held me.0.stage ≡ 1 =
              ap ticket_held waits in let b = k'.counted in omega arith;
          one_a_turn = let a = total_set entry_made_of s.views id me.0 w at in let z : entry_made me.0.stage ≡ 0 =
              ap entry_made waits in let b = k'.one_a_turn in omega arith;
          entries = k'.entries;
          narrow = k'.narrow;
          each_seat = seats (Fits fixed first r.history x r.numbers r.parent) s.views id w record {
            based = old.based;
            past_seen = ([], refl);
            exact = all_whole r.history me.0.seen (accounts me.0) old.exact;
            last =
                old.last;
            opened = (old.opened.0, k'.opening_kept ∙ sym (old.opened.0 pos));
            children = old.children;
            handed_below = old.handed_below;
            reserved_is_new = old.reserved_is_new;
            both_past = tt;
            turn =
                λ u is. (sym is, refl);
          }
              (λ j d _. k'.each_seat j d);
          value = inr (id, w, x, at_here s.views id me.0 w at, refl);
        };
      }

  pub looks_keep : (n id : ℕ) (me : M) (t : ℕ) → me.0.stage ≡ Waits t → 0 < me.0.number
      → Allows Rule n id me 1 (λ y. y) (looks stands base (step n 1 0 0 none) me)
  looks_keep n id me t waits pos s r wide at _ = let then =
      looks stands base (step n 1 0 0 none) me in let found : get_or s.words 1 0 ≡ r.serving =
      ap (λ (ws : List ℕ). get_or ws 1 0) r.words in dite (ℕ_discrete t r.serving)
      (λ hit. let waits' : me.0.stage ≡ Waits r.serving = waits
      ∙ ap Waits hit in let h = home s r id me.0 at waits' in let old = r.kept.each_seat id me.0 at in let v : V =
      with_turn me.0 r.serving r.history in (
        v,
        takes 0 (Some h.0),
        h.1,
        enters_at s r id me 1 at waits' pos h,
        (
          (λ is. (
            h.0,
            r.history,
            (λ k. (
              with_turn me.0 (ap ticket_in (sym waits' ∙ is) k) r.history,
              (0, Some h.0) ∷ me.1,
            )),
            h.2,
            old.past_seen,
            old.based pos ∙ ap Some (sym h.3),
            subst (λ (u : ℕ). IsConsistent (with_turn me.0 u r.history)) (ap ticket_in (sym waits' ∙ is))
                (consistent stands base fixed first _ (enters_at s r id me 1 at waits' pos h) id v
                (at_here s.views id me.0 v at)),
            λ whole. nothing_new stands base fixed first s r id me.0 at whole,
          )),
          λ not. absurd (not (waits' ∙ ap Waits (sym found))),
        ),
      ))
      (λ miss. (
        me.0,
        keeps,
        tt,
        stays stands base fixed first s r 1 id me at,
        ((λ is. absurd (miss (ap ticket_in (sym waits ∙ is) ∙ found))), λ _. refl),
      ))
