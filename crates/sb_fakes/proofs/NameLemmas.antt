-- The test of two names.
use Rattle.std.proofs.Common.{ℕ, ◌≡◌, ◌≢◌, true, false, List, refl, eqb}
use Rattle.std.specs.Cmp.Lexicographic.{pointwise}
use Rattle.std.proofs.lemmas.Slice.Eq.{bytes_eq-Decides}

-- two names that differ
pub differs : (a b : List ℕ) → a ≢ b → pointwise eqb a b ≡ false
differs a b other =
    elim (pointwise eqb a b) as (λ t. pointwise eqb a b ≡ t → t ≡ false) [
      | true ↦ λ is. absurd (other ((bytes_eq-Decides a b).0 is))
      | false ↦ λ is. refl
    ] refl

-- a name and itself
pub agrees : (a : List ℕ) → pointwise eqb a a ≡ true
agrees a = (bytes_eq-Decides a a).1 refl
