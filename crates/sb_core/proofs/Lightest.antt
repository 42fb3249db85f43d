-- The block of least weight, the lowest at a tie.
use Rattle.std.proofs.Common.{ℕ, zero, suc, ◌≡◌, ◌<◌, ◌≤◌, Bool, true, false, nat_eq}
use Rattle.std.proofs.Common.{if◌then◌else◌, Option, Some, None}
use Rattle.std.proofs.Common.{refl, ◌∙◌, ap, subst, arith}
use Rattle.std.specs.Prelude.{nat_lt}
use Rattle.std.proofs.lemmas.Bool.{eqb-true, eqb-false}
use Rattle.std.proofs.lemmas.Bool.Decides.{nat_tests}
use Rattle.sb_history.specs.Eviction.{lighter, lightest}

-- the least weight, the lowest at a tie
abbrev pub Within : (ℕ → Bool) → ℕ → Option ℕ → Type 0
Within test n None = Unit {0}
Within test n (Some b) = (b < n) × (test b ≡ true)

pub within_next : (test : ℕ → Bool) (n : ℕ) (best : Option ℕ) → Within test n best → Within test (suc n) best
within_next test n None within = tt
within_next test n (Some b) within = (omega (arith, within.0), within.1)

pub within_lighter : (test : ℕ → Bool) (weight : ℕ → ℕ) (n : ℕ) (best : Option ℕ) → test n ≡ true → Within test n best
    → Within test (suc n) (lighter weight best n)
within_lighter test weight n None passed within = (omega arith, passed)
within_lighter test weight n (Some b) passed within = by (nat_lt (weight n) (weight b)) where
  by : (t : Bool) → Within test (suc n) (if t then Some n else Some b)
  by true = (omega arith, passed)
  by false = (omega (arith, within.0), within.1)

pub lightest_within : (test : ℕ → Bool) (weight : ℕ → ℕ) (n : ℕ) → Within test n (lightest test weight n)
lightest_within test weight zero = tt
lightest_within test weight (suc n) = by (test n) refl (lightest_within test weight n) where
  by : (t : Bool) → test n ≡ t → Within test n (lightest test weight n)
      → Within test (suc n) (if t then lighter weight (lightest test weight n) n else lightest test weight n)
  by true passed before = within_lighter test weight n (lightest test weight n) passed before
  by false failed before = within_next test n (lightest test weight n) before

pub lightest_is : (test : ℕ → Bool) (weight : ℕ → ℕ) (b : ℕ) → test b ≡ true
    → ((o : ℕ) → test o ≡ true → weight b ≤ weight o)
    → ((o : ℕ) → test o ≡ true → weight o ≡ weight b → b ≤ o) → (n : ℕ) → b < n → lightest test weight n ≡ Some b
lightest_is test weight b passed least lowest_ zero lt = absurd (omega (arith, lt))
lightest_is test weight b passed least lowest_ (suc n) lt =
    by (λ less. lightest_is test weight b passed least lowest_ n less) (nat_eq b n) refl where
      heavier : (o : ℕ) → o < b → weight b ≤ weight o → (weight o ≡ weight b → b ≤ o) → weight b < weight o
      heavier o below le low = step (nat_eq (weight o) (weight b)) refl where
        step : (t : Bool) → nat_eq (weight o) (weight b) ≡ t → weight b < weight o
        step true is = absurd (let at = low (eqb-true (weight o) (weight b) is) in omega (arith, at, below))
        step false is = let apart = eqb-false (weight o) (weight b) is in omega (arith, le, apart)

      lt_true : (x y : ℕ) → x < y → nat_lt x y ≡ true
      lt_true x y lt = grind (arith, nat_tests)

      lt_false : (x y : ℕ) → y ≤ x → nat_lt x y ≡ false
      lt_false x y le = grind (arith, nat_tests)

      last : (best : Option ℕ) → Within test b best → lighter weight best b ≡ Some b
      last None within = refl
      last (Some o) within =
          ap (λ t. if t then Some b else Some o)
          (lt_true (weight b) (weight o) (heavier o within.0 (least o within.1) (lowest_ o within.1)))

      earlier : (t : Bool) → test n ≡ t → (if t then lighter weight (Some b) n else Some b) ≡ Some b
      earlier true passes_ = ap (λ t. if t then Some n else Some b) (lt_false (weight n) (weight b) (least n passes_))
      earlier false fails = refl

      by : (b < n → lightest test weight n ≡ Some b) → (t : Bool) → nat_eq b n ≡ t
          → lightest test weight (suc n) ≡ Some b
      by below true is =
          let at : b ≡ n = eqb-true b n is in
          subst (λ x. (if test x then lighter weight (lightest test weight x) x else lightest test weight x) ≡ Some b) at
          (ap (λ t. if t then lighter weight (lightest test weight b) b else lightest test weight b) passed
          ∙ last (lightest test weight b) (lightest_within test weight b))
      by below false other =
          let apart = eqb-false b n other in
          let before = below (omega (arith, lt, apart)) in
          ap (λ best. if test n then lighter weight best n else best) before ∙ earlier (test n) refl
