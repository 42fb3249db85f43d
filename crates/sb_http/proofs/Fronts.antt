-- Fronts of the same bytes.
use Rattle.std.proofs.Common.{ℕ, ◌≡◌, ◌≤◌, List, [], ◌∷◌, ◌++◌, length, refl, arith}

pub same_front : (a b r q : List ℕ) → length a ≡ length b → a ++ r ≡ b ++ q → (a ≡ b) × (r ≡ q)
same_front [] [] r q n e = (refl, e)
same_front [] (y ∷ b) r q n e = absurd (omega (arith, n))
same_front (x ∷ a) [] r q n e = absurd (omega (arith, n))
same_front (x ∷ a) (y ∷ b) r q n e =
    let first : x ≡ y = cc e in
    let more : a ++ r ≡ b ++ q = cc e in
    let both = same_front a b r q (omega (arith, n)) more in
    (cc (first, both.0), both.1)

-- the shorter front is a front of the longer one
pub shorter_front : (a b r q : List ℕ) → length a ≤ length b → a ++ r ≡ b ++ q
    → (x : List ℕ) × (b ≡ a ++ x) × (r ≡ x ++ q)
shorter_front [] b r q n e = (b, refl, e)
shorter_front (x ∷ a) [] r q n e = absurd (omega (arith, n))
shorter_front (x ∷ a) (y ∷ b) r q n e =
    let first : x ≡ y = cc e in
    let more : a ++ r ≡ b ++ q = cc e in
    let part = shorter_front a b r q (omega (arith, n)) more in
    (part.0, cc (first, part.1), part.2)
