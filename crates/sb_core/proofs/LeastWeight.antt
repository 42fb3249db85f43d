-- The lightest of some numbers is no heavier than any, and the lowest of its weight.
use Rattle.std.proofs.Common.{ℕ, zero, suc, ◌≡◌, ◌<◌, ◌≤◌, Bool, true, false, nat_eq, if◌then◌else◌, Option, Some, None}
use Rattle.std.proofs.Common.{refl, sym, ap, ◌∙◌, arith}
use Rattle.std.specs.Prelude.{nat_lt}
use Rattle.std.proofs.lemmas.Bool.{eqb-true, eqb-false}
use Rattle.std.proofs.lemmas.Bool.Decides.{nat_tests}
use Rattle.sb_history.specs.Eviction.{lighter, lightest}
use Rattle.sb_core.proofs.Lightest.{Within, lightest_within}

abbrev pub IsLeast : (ℕ → Bool) → (ℕ → ℕ) → ℕ → Option ℕ → Type 0
IsLeast test weight n None = (o : ℕ) → o < n → test o ≡ true → ⊥
IsLeast test weight n (Some b) =
    (o : ℕ) → o < n → test o ≡ true → (weight b ≤ weight o) × (weight o ≡ weight b → b ≤ o)

-- another number that doesn't pass
skips : (test : ℕ → Bool) (weight : ℕ → ℕ) (n : ℕ) (best : Option ℕ) → test n ≡ false → IsLeast test weight n best
    → IsLeast test weight (suc n) best
skips test weight n best fails least = by best least where
  below : (o : ℕ) → o < suc n → test o ≡ true → o < n
  below o lt passes_ = by (nat_eq o n) refl where
    never : test n ≡ true → ⊥
    never is = (let clash : true ≡ false = sym is ∙ fails in cc)

    by : (t : Bool) → nat_eq o n ≡ t → o < n
    by true same = absurd (never (sym (ap test (eqb-true o n same)) ∙ passes_))
    by false other = (let apart = eqb-false o n other in omega (arith, lt, apart))

  by : (best : Option ℕ) → IsLeast test weight n best → IsLeast test weight (suc n) best
  by None least_ = λ o lt passes_. least_ o (below o lt passes_) passes_
  by (Some b) least_ = λ o lt passes_. least_ o (below o lt passes_) passes_

-- and one that does
takes : (test : ℕ → Bool) (weight : ℕ → ℕ) (n : ℕ) (best : Option ℕ) → Within test n best → IsLeast test weight n best
    → IsLeast test weight (suc n) (lighter weight best n)
takes test weight n None within least = λ o lt passes_. by o passes_ (nat_eq o n) refl lt where
  by : (o : ℕ) → test o ≡ true → (t : Bool) → nat_eq o n ≡ t → o < suc n
      → (weight n ≤ weight o) × (weight o ≡ weight n → n ≤ o)
  by o passes_ true same lt =
      let is = eqb-true o n same in
      let weighs = ap weight is in (omega (arith, weighs), λ tie. omega (arith, is))
  by o passes_ false other lt =
      let apart = eqb-false o n other in absurd (least o (omega (arith, lt, apart)) passes_)
takes test weight n (Some b) within least = by (nat_lt (weight n) (weight b)) refl where
  heavy : (x y : ℕ) → nat_lt x y ≡ true → x < y
  heavy x y is = grind (arith, nat_tests)

  light : (x y : ℕ) → nat_lt x y ≡ false → y ≤ x
  light x y is = grind (arith, nat_tests)

  first : (o : ℕ) → o < suc n → test o ≡ true → weight n < weight b → (t : Bool) → nat_eq o n ≡ t
      → (weight n ≤ weight o) × (weight o ≡ weight n → n ≤ o)
  first o lt passes_ less true same =
      let is = eqb-true o n same in
      let weighs = ap weight is in (omega (arith, weighs), λ tie. omega (arith, is))
  first o lt passes_ less false other =
      let apart = eqb-false o n other in
      let so = (least o (omega (arith, lt, apart)) passes_).0 in
      (omega (arith, so, less), λ tie. absurd (omega (arith, so, less, tie)))

  stays : (o : ℕ) → o < suc n → test o ≡ true → weight b ≤ weight n → (t : Bool) → nat_eq o n ≡ t
      → (weight b ≤ weight o) × (weight o ≡ weight b → b ≤ o)
  stays o lt passes_ le true same =
      let is = eqb-true o n same in
      let weighs = ap weight is in
      let low = within.0 in
      (omega (arith, weighs, le), λ tie. omega (arith, is, low))
  stays o lt passes_ le false other =
      let apart = eqb-false o n other in least o (omega (arith, lt, apart)) passes_

  by : (t : Bool) → nat_lt (weight n) (weight b) ≡ t → IsLeast test weight (suc n) (if t then Some n else Some b)
  by true is = λ o lt passes_. first o lt passes_ (heavy (weight n) (weight b) is) (nat_eq o n) refl
  by false is = λ o lt passes_. stays o lt passes_ (light (weight n) (weight b) is) (nat_eq o n) refl

pub lightest_least : (test : ℕ → Bool) (weight : ℕ → ℕ) (n : ℕ) → IsLeast test weight n (lightest test weight n)
lightest_least test weight zero = λ o lt passes_. absurd (omega (arith, lt))
lightest_least test weight (suc n) = by (test n) refl (lightest_least test weight n) where
  by : (t : Bool) → test n ≡ t → IsLeast test weight n (lightest test weight n)
      → IsLeast test weight (suc n)
      (if t then lighter weight (lightest test weight n) n else lightest test weight n)
  by true passed least = takes test weight n (lightest test weight n) (lightest_within test weight n) least
  by false failed least = skips test weight n (lightest test weight n) failed least
