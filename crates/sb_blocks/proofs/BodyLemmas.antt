-- Bytes among zeros.
use Rattle.std.proofs.Common.{◌≡◌, ℕ, zero, ◌≤◌, ◌+◌, ◌-◌, List, [], ◌++◌, length, ◌∙◌, arith}
use Rattle.std.proofs.lemmas.Grind.{common_steps}
use Rattle.std.proofs.lemmas.List.{take-replicate, drop-replicate}
use Rattle.sb_history.specs.Contents.{zeros, overlay}

-- zeros, then the bytes, then zeros up to the size
pub filled_is : (size offset : ℕ) (bytes filled : List ℕ) → offset + length bytes ≤ size
    → filled ≡ (([] ++ zeros (offset - 0)) ++ bytes) ++ zeros (size - (offset + length bytes))
    → filled ≡ overlay (zeros size) offset bytes
filled_is size offset bytes filled within is =
    let front = take-replicate {X = ℕ} offset size zero (omega (arith, within)) in
    let back = drop-replicate {X = ℕ} (offset + length bytes) size zero in
    is ∙ grind (arith, common_steps, front, back)
