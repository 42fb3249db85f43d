-- A set of blocks by its bits: block 64 w + b is bit b of word w.
use Rattle.std.specs.Prelude.{ℕ, ◌≡◌, ◌<◌, ◌/◌, ◌%◌, Bool, false, nat_eq, List, get_or}
use Rattle.std.specs.Int.{bit_at}

-- the bit of a block
abbrev pub is_set : List ℕ → ℕ → Bool
is_set words block = nat_eq (bit_at (get_or words (block / 64) 0) (block % 64)) 1

-- one bit of a word of 64 bits is this, and every other one as before
pub record SetsBit (old new bit is : ℕ) : Type 0 where
  pub here : bit_at new bit ≡ is
  pub others : (other : ℕ) → other < 64 → nat_eq other bit ≡ false → bit_at new other ≡ bit_at old other
