-- What the rule says of the seats, and what a step of one seat leaves to the others.
use Rattle.std.proofs.Common.{◌≡◌, ℕ, zero, suc, ◌+◌, ◌<◌, ◌≤◌, eqb, ◌≢◌, List, [], ◌∷◌, ◌++◌, get_or, set, sym, refl}
use Rattle.std.proofs.Common.{ap, ◌∙◌, subst, ⊎_elim, arith, le_refl, lt_of_not-le}
use mathlib.Core.Logic.{dite}
use mathlib.Core.Option.{some, some-injective, some-ne-none}
use native.Mathlib.Decide.{ℕ_discrete, dec_le}
use lib.ListN.{get_elem?}
use Rattle.std.specs.Prelude.{Option, Some, None}
use Rattle.atomic_table.specs.Table.{State, Me, Act, keeps, Valid, carried_after, stepped}
use Rattle.sb_turn.specs.declared.view.View.{View}
use Rattle.sb_turn.specs.declared.view.Stage.{Stage}
use Rattle.sb_turn.specs.declared.view.Stage.TheVariants.{Out, Waits, Inside, Made}
use Rattle.sb_turn.specs.Histories.{entries_of_pass}
use Rattle.sb_turn.specs.Views.{one_if, number_or_zero, ticket_count, ticket_held, entry_made, HasTurn, count}
use Rattle.sb_turn.specs.Views.{reserved_account, accounts, claims, ticket_count_of, union_of, spent_view, IsWhole}
use Rattle.sb_turn.specs.Views.{IsConsistent}
use Rattle.sb_turn.specs.Rule.{TurnTaken, IsOrdered}
use Rattle.atomic_table.proofs.Lists.{at_set, set_again, set_else}
use Rattle.sb_turn.proofs.Sums.{one_if_same, one_if_other, total_at, total_two}
use Rattle.sb_turn.proofs.Histories.{count_append, all_seen, none_seen, agree, same_list}

pub at_here : {A : Type 0} (l : List A) (i : ℕ) (v w : A) → get_elem? l i ≡ some v → get_elem? (set l i w) i ≡ some w
at_here [] i v w e = absurd (some-ne-none v (sym e))
at_here (x ∷ xs) zero v w e = refl
at_here (x ∷ xs) (suc i) v w e = at_here xs i v w e

pub set_same : (ns : List ℕ) (i : ℕ) → set ns i (get_or ns i 0) ≡ ns
set_same [] i = refl
set_same (n ∷ ns) zero = refl
set_same (n ∷ ns) (suc i) = λ j. n ∷ set_same ns i j

pub bounded : (t k : ℕ) → one_if (eqb t k) ≤ 1
bounded t k = dite (ℕ_discrete t k) (λ e. let h = one_if_same t k e in omega arith)
    (λ e. let h = one_if_other t k e in omega arith)

-- a number that either account has, the two together have
pub united : {E B : Type 0} (k : ℕ) (v w : View E B) → 0 < k
    → claims k (union_of v w) + claims k (spent_view {E = E} {B = B}) ≤ claims k v + claims k w
united k v w pos = let a₁ = count_append k (reserved_account v.reserved)
    ((w.number, w.mine) ∷ (w.joined ++ v.joined)) in let a₂ = count_append k w.joined v.joined in
    let e₁ = count_append k (reserved_account v.reserved) v.joined in let e₂ =
    count_append k (reserved_account w.reserved) w.joined in let z =
    one_if_other 0 k (λ e. omega arith) in omega arith

pub some_number : (n m : ℕ) → Some n ≡ Some m → n ≡ m
some_number n m e = ap number_or_zero e

-- a stage that does not have the turn has made no entry
pub still : (st : Stage) → ((t : ℕ) → HasTurn t st → entry_made st ≡ 0) → entry_made st ≡ 0
still Out h = refl
still (Waits t) h = refl
still (Inside t) h = refl
still (Made t) h = h t refl

pub entry_made_once : (st : Stage) → entry_made st ≤ 1
entry_made_once Out = omega arith
entry_made_once (Waits t) = omega arith
entry_made_once (Inside t) = omega arith
entry_made_once (Made t) = omega arith

pub turn_ticket : (t : ℕ) (st : Stage) → HasTurn t st → ticket_held st ≡ 1
turn_ticket t Out h = absurd h
turn_ticket t (Waits u) h = absurd h
turn_ticket t (Inside u) h = refl
turn_ticket t (Made u) h = refl

abbrev pub IsThere : Option ℕ → Type 0
IsThere None = ⊥
IsThere (Some n) = Unit {0}

pub some_none : (n : ℕ) → Some n ≡ None → ⊥
some_none n e = subst IsThere e tt

-- the ticket with which a seat waits or has the turn
pub ticked : (t : ℕ) (st : Stage) → HasTurn t st → ticket_count t st ≡ 1
ticked t Out h = absurd h
ticked t (Waits u) h = absurd h
ticked t (Inside u) e = one_if_same u t e
ticked t (Made u) e = one_if_same u t e

abbrev pub ticket_in : Stage → ℕ
ticket_in Out = 0
ticket_in (Waits t) = t
ticket_in (Inside t) = t
ticket_in (Made t) = t

abbrev pub some_in : {B : Type 0} → B → Option B → B
some_in b None = b
some_in b (Some c) = c

module _ {E B : Type 0} where
  pub united_all : (k : ℕ) (v w : View E B) → v.reserved ≡ None → w.reserved ≡ None
      → claims k (union_of v w) ≡ claims k v + claims k w
  united_all k v w free free' = let a₁ = count_append k (reserved_account {E = E} v.reserved)
      ((w.number, w.mine) ∷ (w.joined ++ v.joined)) in let a₂ = count_append k w.joined v.joined in
      let e₁ = count_append k (reserved_account {E = E} v.reserved) v.joined in let e₂ =
      count_append k (reserved_account {E = E} w.reserved) w.joined in let z : count k
      (reserved_account {E = E} w.reserved) ≡ 0 = ap (λ (o : Option ℕ). count k
      (reserved_account {E = E} o)) free' in omega arith

  -- each seat's fact, where one seat changes
  pub seats : (P : View E B → Type 0) (vs : List (View E B)) (id : ℕ) (w : View E B) → P w
      → ((j : ℕ) (d : View E B) → j ≢ id → get_elem? vs j ≡ some d → P d) → (j : ℕ) (d : View E B)
      → get_elem? (set vs id w) j ≡ some d → P d
  seats P vs id w mine others j d e = ⊎_elim (λ t. subst P t.1 mine) (λ t. others j d t.0 t.1) (at_set vs id j w d e)

  -- a seat without the turn changes, and keeps out of it
  pub taken_stays : (vs : List (View E B)) (id : ℕ) (v w : View E B) → get_elem? vs id ≡ some v
      → ((t : ℕ) → HasTurn t v.stage → HasTurn t w.stage) → TurnTaken vs → TurnTaken (set vs id w)
  taken_stays vs id v w at keep h = dite (ℕ_discrete h.0 id)
      (λ e. let is : v ≡ h.1 = some-injective v h.1 (sym at ∙ (ap (get_elem? vs) (sym e) ∙ h.3)) in
      (id, w, h.2, at_here vs id v w at, keep h.2 (subst (λ (d : View E B). HasTurn h.2 d.stage) (sym is) h.4)))
      (λ e. (h.0, h.1, h.2, set_else vs id h.0 w e ∙ h.3, h.4))

  pub first_seat : (P : View E B → Type 0) (d : View E B) → P d → (j : ℕ) (c : View E B)
      → get_elem? (d ∷ []) j ≡ some c → P c
  first_seat P d p zero c e = subst P (some-injective d c e) p
  first_seat P d p (suc j) c e = absurd (some-ne-none c (sym e))

module _ {S E B : Type 0} (stands : S → List (ℕ × E) → Type 0) (base : S → B) (fixed : B) (first : List (ℕ × E)) where
  abbrev pub V : Type 0
  V = View E B

  abbrev pub St : Type 0
  St = State (Option S) V

  abbrev pub M : Type 0
  M = Me (Option S) V

  abbrev pub Rule : St → Type 0
  Rule = IsOrdered stands base fixed first

  abbrev pub Goes : St → ℕ → ℕ → M → (ℕ → M → Type 0) → ℕ → Type 0
  Goes s k id me then x = (w : V) × (a : Act (Option S)) × Valid s.homes me.1 a × Rule (stepped s k x id me.1 w a)
      × then (get_or s.words k 0) (w, carried_after me.1 a)

  abbrev pub worded : List ℕ → St → St
  worded ws s = record { words = ws; homes = s.homes; views = s.views }

  -- a pass to which all came back accounts for each number that was given
  pub has_all : (s : St) (r : Rule s) (id : ℕ) (v : V) → get_elem? s.views id ≡ some v → IsWhole v → (b k : ℕ) → k ≤ b
      → 0 < k → k < r.numbers → count k (accounts v) ≡ 1
  has_all s r id v at whole zero k le pos below = absurd (omega arith)
  has_all s r id v at whole (suc b) k le pos below =
      let was : claims k v ≡ one_if (eqb v.number k) + count k v.joined =
      ap (λ (o : Option ℕ). one_if (eqb v.number k) + count k (reserved_account o ++ v.joined)) whole.none_reserved in
      let one : v.number ≡ 1 = whole.is_first in dite (ℕ_discrete k 1)
      (λ e. let a = total_at (claims k) s.views id v at in let c = r.kept.once k pos in let d = one_if_same v.number k
      (omega arith) in omega arith)
      (λ e. let p = r.kept.parents k (omega arith) below in let d = one_if_other v.number k
      (λ x. omega arith) in let h = has_all s r id v at whole b (r.parent k) (omega arith) p.0 (omega arith) in
      let q = (r.kept.each_seat id v at).children k (omega arith) below in let u = whole.all_back k pos in omega arith)

  -- what a seat learns of itself
  pub consistent : (s : St) (r : Rule s) (id : ℕ) (v : V) → get_elem? s.views id ≡ some v → IsConsistent v
  consistent s r id v at = let f = r.kept.each_seat id v at in record {
    exact = all_seen r.history v.seen (accounts v) f.exact;
    apart = λ k pos. let a = total_at (claims k) s.views id v at in let b = r.kept.once k pos in omega arith;
    own_below = f.last.0;
    opened = f.opened.1;
    no_other = λ whole k pos none_there. none_seen k r.history v.seen f.past_seen
        (dite (dec_le r.numbers k) (λ le. (r.kept.fresh k le).1)
        (λ le. let a = has_all s r id v at whole k k (le_refl k) pos (lt_of_not-le le) in absurd (omega arith)));
  }

  -- a pass to which all came back has seen all
  pub nothing_new : (s : St) (r : Rule s) (id : ℕ) (v : V) → get_elem? s.views id ≡ some v → IsWhole v
      → r.history ≡ v.seen
  nothing_new s r id v at whole = let f = r.kept.each_seat id v at in let one : v.number ≡ 1 =
      whole.is_first in same_list r.history v.seen f.past_seen (λ k. dite (ℕ_discrete k 0)
      (λ e. subst (λ (z : ℕ). entries_of_pass z r.history ≡ entries_of_pass z v.seen) (sym e)
      (r.kept.opening_kept ∙ (sym (f.opened.0 (omega arith)) ∙ sym f.opened.1)))
      (λ e. dite (dec_le r.numbers k) (λ le. let n = (r.kept.fresh k le).1 in n
      ∙ sym (none_seen k r.history v.seen f.past_seen n))
      (λ le. let a = has_all s r id v at whole k k (le_refl k) (omega arith)
      (lt_of_not-le le) in agree r.history v.seen (accounts v) k f.exact (omega arith) (omega arith))))

  -- nothing changes
  pub stays : (s : St) (r : Rule s) (i id : ℕ) (me : M) → get_elem? s.views id ≡ some me.0
      → Rule (stepped s i (get_or s.words i 0) id me.1 me.0 keeps)
  stays s r i id me at = subst (λ (z : List ℕ × List V). Rule record { words = z.0; homes = s.homes; views = z.1 })
      (λ k. (sym (set_same s.words i) k, sym (set_again s.views id me.0 at) k)) r

  -- no two seats have the ticket k
  pub alone : (s : St) (r : Rule s) (k i j : ℕ) (d e : V) → get_elem? s.views i ≡ some d
      → get_elem? s.views j ≡ some e → ticket_count k d.stage ≡ 1 → ticket_count k e.stage ≡ 1 → j ≡ i
  alone s r k i j d e at at' one one' = dite (ℕ_discrete j i) (λ is. is)
      (λ ne. let a = total_two (ticket_count_of k) s.views i j d e
      (λ is. ne (sym is)) at at' in let b = r.kept.drawn k in absurd (omega arith))

  -- where a seat has the ticket that is served, no other has the turn
  pub sole : (s : St) (r : Rule s) (id : ℕ) (v : V) → get_elem? s.views id ≡ some v
      → ticket_count r.serving v.stage ≡ 1 → (j : ℕ) (d : V) (t : ℕ) → get_elem? s.views j ≡ some d
      → HasTurn t d.stage → j ≡ id
  sole s r id v at one j d t at' has = let is = ((r.kept.each_seat j d at').turn t has).0 in alone s r r.serving id j
      v d at at' one (ticked r.serving d.stage (subst (λ (x : ℕ). HasTurn x d.stage) is has))
