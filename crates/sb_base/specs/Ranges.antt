-- The parts of a range of bytes of a disk.
use Rattle.std.specs.Prelude.{ℕ, zero, suc, ◌<◌, ◌≤◌, ◌+◌, ◌-◌, ◌*◌, ◌/◌, ◌^◌, min, max, nat_lt, if◌then◌else◌, List}
use Rattle.std.specs.Prelude.{[], ◌∷◌}
use Rattle.sb_base.specs.declared.geometry.Geometry.{Geometry}
use Rattle.sb_base.specs.declared.part.Part.{Part}

-- bytes of one block of a disk, and not none
pub record IsPart (geometry : Geometry) (part : Part) : Type 0 where
  pub block : part.block < geometry.blocks
  pub within : part.offset + part.length ≤ geometry.block_size
  pub some : 0 < part.length

-- a range of a disk, from one place to another
pub record IsRange (geometry : Geometry) (from to : ℕ) : Type 0 where
  pub ordered : from ≤ to
  pub within : to ≤ geometry.block_size * geometry.blocks

-- where a range begins in a block, and where it ends in it, as places on the disk
abbrev pub start_in : ℕ → ℕ → ℕ → ℕ
start_in size from block = max from (block * size)

abbrev pub stop_in : ℕ → ℕ → ℕ → ℕ
stop_in size to block = min to ((block + 1) * size)

-- the part of a range in a block
abbrev pub part_in : ℕ → ℕ → ℕ → ℕ → Part
part_in size from to block = record {
  block = block;
  offset = start_in size from block - block * size;
  length = stop_in size to block - start_in size from block;
}

-- the parts of a range in n blocks from one on
abbrev pub parts_in : ℕ → ℕ → ℕ → ℕ → ℕ → List Part
parts_in size from to block zero = []
parts_in size from to block (suc n) = part_in size from to block ∷ parts_in size from to (block + 1) n

-- the parts of a range, one for each block of this size that it meets, in rising order
abbrev pub parts_of : ℕ → ℕ → ℕ → List Part
parts_of size from to = if nat_lt from to then parts_in size from to (from / size)
    ((to - 1) / size + 1 - from / size) else []

-- what is left of a range: each of its blocks has a number and a length of 32 bits
pub record IsRest (size at end : ℕ) : Type 0 where
  pub some : 0 < size
  pub short : size < 2 ^ 32
  pub ordered : at ≤ end
  pub within : end ≤ size * 4294967296
  pub narrow : end < 2 ^ 64
