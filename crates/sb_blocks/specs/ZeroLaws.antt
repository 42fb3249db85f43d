-- Laws of bytes that are all zeros.
use Rattle.std.proofs.Common.{◌≡◌, ℕ, zero, suc, ◌≤◌, ◌+◌, ◌-◌, Bool, true, false, List, ◌++◌, length, take, drop}
use Rattle.std.proofs.Common.{refl, ap, ◌∙◌, arith}
use Rattle.std.specs.Prelude.{nat_eq, ◌&&◌}
use Rattle.std.proofs.lemmas.List.{take-replicate, drop-replicate}
use Rattle.std.proofs.lemmas.List.Folds.{list_all-append}
use Rattle.sb_history.specs.Contents.{zeros, is_zeros, overlay}

-- zeros are zeros
pub all_zeros : (n : ℕ) → is_zeros (zeros n) ≡ true
all_zeros zero = refl
all_zeros (suc n) = all_zeros n

both_true : (a b c : Bool) → a ≡ true → c ≡ true → ((a && b) && c) ≡ b
both_true a true c one two = cc
both_true a false c one two = cc

-- bytes among zeros are zeros where they are
pub zeros_around : (size offset : ℕ) (bytes : List ℕ) → offset + length bytes ≤ size
    → is_zeros (overlay (zeros size) offset bytes) ≡ is_zeros bytes
zeros_around size offset bytes within =
    let front = ap is_zeros (take-replicate {X = ℕ} offset size zero (omega (arith, within))) ∙ all_zeros offset in
    let back = ap is_zeros (drop-replicate {X = ℕ} (offset + length bytes) size zero) ∙ all_zeros (size - (offset + length bytes)) in
    let is_zero : ℕ → Bool = λ byte. nat_eq byte 0 in
    let whole = list_all-append is_zero (take offset (zeros size) ++ bytes) (drop (offset + length bytes) (zeros size)) in
    let inner = list_all-append is_zero (take offset (zeros size)) bytes in
    whole ∙ ap (λ b. b && is_zeros (drop (offset + length bytes) (zeros size))) inner
    ∙ both_true _ (is_zeros bytes) _ front back
