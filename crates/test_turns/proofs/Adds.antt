-- One amount more.
use Rattle.std.proofs.Common.{◌≡◌, ℕ, ◌+◌, ◌%◌, ◌^◌, List, ◌∷◌, sym, ap, ◌∙◌, arith}
use Rattle.std.proofs.Math.Nat.{add-mod, mod-mod}
use Rattle.test_turns.specs.Amounts.{total_added}

mod_first : (x a m : ℕ) → (x % m + a) % m ≡ (x + a) % m
mod_first x a m = add-mod (x % m) a m ∙ (ap (λ (y : ℕ). (y + a % m) % m) (mod-mod x m) ∙ sym (add-mod x a m))

pub counts_on : (c : ℕ) (xs : List (ℕ × ℕ)) (n a : ℕ) → c ≡ total_added xs % 2 ^ 64
    → (c + a) % 2 ^ 64 ≡ total_added ((n, a) ∷ xs) % 2 ^ 64
counts_on c xs n a e = let turned : total_added xs + a ≡ a + total_added xs = omega arith in
    ap (λ (x : ℕ). (x + a) % 2 ^ 64) e ∙ (mod_first (total_added xs) a (2 ^ 64) ∙ ap (λ (x : ℕ). x % 2 ^ 64) turned)
