-- The blocks that are known to be zeros.
use Rattle.std.specs.Prelude.{ℕ, ◌≡◌, Bool, false, nat_eq}
use Rattle.sb_zero.specs.declared.zeros.Zeros.{Zeros}
use Rattle.sb_zero.specs.Marks.{is_set}

-- how many blocks the disk has
abbrev pub blocks_of : Zeros → ℕ
blocks_of zeros = zeros.blocks

-- a block is known to be zeros
abbrev pub is_marked : Zeros → ℕ → Bool
is_marked zeros block = is_set zeros.words.items block

-- a block is in the set or not from now on, and every other one as before
pub record Sets (old new : Zeros) (block : ℕ) (is : Bool) : Type 0 where
  pub blocks : new.blocks ≡ old.blocks
  pub here : is_marked new block ≡ is
  pub others : (other : ℕ) → nat_eq other block ≡ false → is_marked new other ≡ is_marked old other
