-- Totals over the seats.
use Rattle.std.proofs.Common.{◌≡◌, ℕ, zero, suc, ◌+◌, ◌≤◌, ◌≢◌, List, [], ◌∷◌, ◌++◌, set, sym, refl, ap, arith, eqb}
use Rattle.std.proofs.Common.{eq-eqb, ne_eqb}
use mathlib.Core.Option.{some, some-injective, some-ne-none}
use lib.ListN.{get_elem?}
use Rattle.sb_turn.specs.Views.{one_if, total, times}

pub one_if_same : (n k : ℕ) → n ≡ k → one_if (eqb n k) ≡ 1
one_if_same n k e = ap one_if (eq-eqb n k e)

pub one_if_other : (n k : ℕ) → n ≢ k → one_if (eqb n k) ≡ 0
one_if_other n k e = ap one_if (ne_eqb n k e)

pub times_append : (k : ℕ) (xs ys : List ℕ) → times k (xs ++ ys) ≡ times k xs + times k ys
times_append k [] ys = omega arith
times_append k (x ∷ xs) ys = let more = times_append k xs ys in omega arith

module _ {A : Type 0} (f : A → ℕ) where
  pub total_set : (l : List A) (i : ℕ) (v w : A) → get_elem? l i ≡ some v → total f (set l i w) + f v ≡ total f l + f w
  total_set [] i v w e = absurd (some-ne-none v (sym e))
  total_set (x ∷ xs) zero v w e = let is : f x ≡ f v = ap f (some-injective x v e) in omega arith
  total_set (x ∷ xs) (suc i) v w e = let more = total_set xs i v w e in omega arith

  pub total_snoc : (l : List A) (w : A) → total f (l ++ w ∷ []) ≡ total f l + f w
  total_snoc [] w = omega arith
  total_snoc (x ∷ xs) w = let more = total_snoc xs w in omega arith

  pub total_at : (l : List A) (i : ℕ) (v : A) → get_elem? l i ≡ some v → f v ≤ total f l
  total_at [] i v e = absurd (some-ne-none v (sym e))
  total_at (x ∷ xs) zero v e = let is : f x ≡ f v = ap f (some-injective x v e) in omega arith
  total_at (x ∷ xs) (suc i) v e = let more = total_at xs i v e in omega arith

  pub total_two : (l : List A) (i j : ℕ) (v w : A) → i ≢ j → get_elem? l i ≡ some v → get_elem? l j ≡ some w
      → f v + f w ≤ total f l
  total_two [] i j v w ne e h = absurd (some-ne-none v (sym e))
  total_two (x ∷ xs) zero zero v w ne e h = absurd (ne refl)
  total_two (x ∷ xs) zero (suc j) v w ne e h = let is : f x ≡ f v = ap f (some-injective x v e) in let more =
      total_at xs j w h in omega arith
  total_two (x ∷ xs) (suc i) zero v w ne e h = let is : f x ≡ f w = ap f (some-injective x w h) in let more =
      total_at xs i v e in omega arith
  total_two (x ∷ xs) (suc i) (suc j) v w ne e h = let more =
      total_two xs i j v w (λ k. ne (ap suc k)) e h in omega arith

  pub total_zero : (l : List A) → ((j : ℕ) (d : A) → get_elem? l j ≡ some d → f d ≡ 0) → total f l ≡ 0
  total_zero [] h = refl
  total_zero (x ∷ xs) h = let a = h 0 x refl in let b = total_zero xs (λ j d e. h (suc j) d e) in omega arith
