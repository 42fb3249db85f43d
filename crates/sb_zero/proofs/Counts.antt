-- How many numbers below a bound pass a test.
use Rattle.std.proofs.Common.{ℕ, zero, suc, ◌≡◌, ◌<◌, ◌≤◌, ◌+◌, Bool, true, false, nat_eq, if◌then◌else◌, refl, ◌∙◌}
use Rattle.std.proofs.Common.{ap, arith}
use Rattle.std.proofs.lemmas.Bool.{eqb-true}
use Rattle.std.proofs.lemmas.Bool.Decides.{nat_tests}
use Rattle.sb_history.specs.Eviction.{count}

one_if : Bool → ℕ → ℕ
one_if t n = if t then 1 + n else n

-- no more than there are
pub count_within : (test : ℕ → Bool) (n : ℕ) → count test n ≤ n
count_within test zero = omega (arith)
count_within test (suc n) = by (test n) (count_within test n) where
  by : (t : Bool) → count test n ≤ n → (if t then 1 + count test n else count test n) ≤ suc n
  by true less = omega (arith, less)
  by false less = omega (arith, less)

-- tests that agree below a bound
pub count_same : (f g : ℕ → Bool) (n : ℕ) → ((other : ℕ) → other < n → g other ≡ f other) → count g n ≡ count f n
count_same f g zero same = refl
count_same f g (suc n) same =
    ap (λ (t : Bool). if t then 1 + count g n else count g n) (same n (omega (arith)))
    ∙ ap (λ (m : ℕ). if f n then 1 + m else m) (count_same f g n (λ other less. same other (omega (arith, less))))

-- one number more passes
pub count_more : (f g : ℕ → Bool) (b n : ℕ) → b < n → f b ≡ false → g b ≡ true
    → ((other : ℕ) → nat_eq other b ≡ false → g other ≡ f other) → count g n ≡ count f n + 1
count_more f g b zero less was is same = absurd (omega (arith, less))
count_more f g b (suc n) less was is same = by (nat_eq n b) refl (λ below_. count_more f g b n below_ was is same) where
  below : (other : ℕ) → n ≡ b → other < n → nat_eq other b ≡ false
  below other at_ smaller = grind (arith, nat_tests)

  step : (s t : Bool) → f n ≡ s → g n ≡ t → g n ≡ f n → count g n ≡ count f n + 1 → count g (suc n) ≡ count f (suc n) + 1
  step true true a c d more = omega (arith, more, ap (λ (t : Bool). if t then 1 + count g n else count g n) c, ap (λ (t : Bool). if t then 1 + count f n else count f n) a)
  step false false a c d more = omega (arith, more, ap (λ (t : Bool). if t then 1 + count g n else count g n) c, ap (λ (t : Bool). if t then 1 + count f n else count f n) a)
  step true false a c d more = absurd (cc)
  step false true a c d more = absurd (cc)

  by : (t : Bool) → nat_eq n b ≡ t → (b < n → count g n ≡ count f n + 1) → count g (suc n) ≡ count f (suc n) + 1
  by true at_ before =
      let here = eqb-true n b at_ in
      let gone = ap f here ∙ was in
      let come = ap g here ∙ is in
      let rest_ = count_same f g n (λ other smaller. same other (below other here smaller)) in
      let one = ap (λ (t : Bool). if t then 1 + count g n else count g n) come in
      let none = ap (λ (t : Bool). if t then 1 + count f n else count f n) gone in
      omega (arith, one, none, rest_)
  by false other before =
      let smaller : b < n = grind (arith, nat_tests) in
      step (f n) (g n) refl refl (same n other) (before smaller)

-- all numbers below a bound pass, or none
pub count_all : (test : ℕ → Bool) (n : ℕ) → ((other : ℕ) → other < n → test other ≡ true) → count test n ≡ n
count_all test zero all = refl
count_all test (suc n) all =
    let one = ap (λ (t : Bool). if t then 1 + count test n else count test n) (all n (omega (arith))) in
    let before = count_all test n (λ other less. all other (omega (arith, less))) in
    omega (arith, one, before)

pub count_none : (test : ℕ → Bool) (n : ℕ) → ((other : ℕ) → other < n → test other ≡ false) → count test n ≡ 0
count_none test zero none = refl
count_none test (suc n) none =
    ap (λ (t : Bool). if t then 1 + count test n else count test n) (none n (omega (arith)))
    ∙ count_none test n (λ other less. none other (omega (arith, less)))
