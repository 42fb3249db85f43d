-- How marks change, and what a history says of them.
use Rattle.std.proofs.Common.{ℕ, zero, ◌≡◌, ◌≤◌, ◌+◌, ◌-◌, Bool, true, false, ◌&&◌, if◌then◌else◌, take}
use Rattle.std.proofs.Common.{refl, sym, ◌∙◌, ap, arith}
use Rattle.std.proofs.lemmas.List.{take-replicate, drop-replicate}
use Rattle.sb_base.specs.declared.part.Part.{Part}
use Rattle.sb_history.specs.Contents.{zeros, is_zeros, part_bytes}
use Rattle.sb_blocks.specs.ZeroLaws.{all_zeros}
use Rattle.sb_core.specs.Marking.{SetsMark}

-- where the mark is what it was
pub same_marks : (marks : ℕ → Bool) (block : ℕ) (is : Bool) → marks block ≡ is → SetsMark marks marks block is
same_marks marks block is here = record { here = here; others = λ other apart. refl }

-- a part of zeros is zeros
pub zeros_part : (block_size : ℕ) (part : Part) → part.offset + part.length ≤ block_size
    → part_bytes (zeros block_size) part ≡ zeros part.length
zeros_part block_size part within =
    ap (take part.length) (drop-replicate {X = ℕ} part.offset block_size zero)
    ∙ take-replicate {X = ℕ} part.length (block_size - part.offset) zero (omega (arith, within))

pub refused : (same_ before : Bool) → (if same_ then before else before) ≡ before
refused true before = refl
refused false before = refl

pub never_marked : (known is : Bool) → (known && is) ≡ true → known ≡ false → ⊥
never_marked true is both none = cc
never_marked false is both none = cc

-- an answer that shows nothing leaves the mark
pub left_mark : (block_size : ℕ) (before : Bool) → before ≡ (if is_zeros (zeros block_size) then before else false)
left_mark block_size before = ap (λ t. if t then before else false) (sym (all_zeros block_size))
