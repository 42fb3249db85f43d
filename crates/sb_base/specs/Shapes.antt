-- Which sizes a disk can have.
use Rattle.std.specs.Prelude.{ℕ, ◌<◌, ◌≤◌, ◌/◌, ◌%◌, ◌||◌, not, nat_eq, nat_lt, if◌then◌else◌, IsTrue, Result, Ok, Err}
use Rattle.std.specs.Int.{is_power_of_two}
use Rattle.sb_base.specs.declared.geometry.Geometry.{Geometry}
use Rattle.sb_base.specs.declared.geometry.GeometryFault.{GeometryFault}
use Rattle.sb_base.specs.declared.geometry.GeometryFault.TheVariants.{BlockOutOfRange, NotPowerOfTwo, Empty}
use Rattle.sb_base.specs.declared.geometry.GeometryFault.TheVariants.{NotMultiple, TooMany}

-- the geometry of a disk of so many bytes in blocks of so many, or the first fault
abbrev pub geometry_of : ℕ → ℕ → Result Geometry GeometryFault
geometry_of size block_size =
    if nat_lt block_size 512 || nat_lt 16777216 block_size then Err (BlockOutOfRange block_size)
    else if not (is_power_of_two block_size) then Err (NotPowerOfTwo block_size)
    else if nat_eq size 0 then Err Empty
    else if not (nat_eq (size % block_size) 0) then Err (NotMultiple size block_size)
    else if nat_lt 268435456 (size / block_size) then Err (TooMany (size / block_size))
    else Ok (record { block_size = block_size; blocks = size / block_size })

-- a geometry that a disk can have
pub record IsSound (geometry : Geometry) : Type 0 where
  pub block_size : (512 ≤ geometry.block_size) × (geometry.block_size ≤ 16777216)
  pub power : IsTrue (is_power_of_two geometry.block_size)
  pub blocks : (0 < geometry.blocks) × (geometry.blocks ≤ 268435456)
