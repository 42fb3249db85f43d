-- The size of a disk, read off the object of its first block.
use Rattle.std.specs.Prelude.{ℕ, ◌≡◌, ◌^◌, ◌&&◌, nat_le, nat_lt, Bool, if◌then◌else◌, List, [], ◌∷◌, length, Option, Some, None, Result, Ok, Err}
use Rattle.std.specs.List.{list_all}
use Rattle.std.specs.Char.{is_ascii_digit}
use Rattle.std.specs.Str.Parse.{digits_value}
use Rattle.sb_base.specs.Shapes.{geometry_of}
use Rattle.sb_base.specs.declared.geometry.Geometry.{Geometry}
use Rattle.sb_base.specs.declared.geometry.GeometryFault.{GeometryFault}
use Rattle.sb_world.specs.declared.link.Call.{Call}
use Rattle.sb_world.specs.declared.link.Call.TheVariants as call
use Rattle.sb_world.specs.declared.link.HeadReply.{HeadReply}
use Rattle.sb_world.specs.declared.link.HeadReply.TheVariants as head
use Rattle.sb_tools.specs.Faults.{fault_by}
use Rattle.sb_tools.specs.declared.fault.ToolFault.{ToolFault}
use Rattle.sb_tools.specs.declared.fault.ToolFault.TheVariants as fault

-- a text of 1 to 20 digits
abbrev pub is_number : List ℕ → Bool
is_number text = nat_le 1 (length text) && nat_le (length text) 20 && list_all is_ascii_digit text

-- the number that a text stands for, where it is one and below a bound
abbrev pub number_below : ℕ → List ℕ → Option ℕ
number_below bound text =
    if is_number text && nat_lt (digits_value 10 text) bound then Some (digits_value 10 text) else None

-- a disk of a size that it can have
abbrev pub sound_geometry : Result Geometry GeometryFault → Option Geometry
sound_geometry (Ok geometry) = Some geometry
sound_geometry (Err refused) = None

-- a disk of such a size and block size, where both read
abbrev pub geometry_by : Option ℕ → Option ℕ → Option Geometry
geometry_by (Some size) (Some block_size) = sound_geometry (geometry_of size block_size)
geometry_by size block_size = None

-- the disk of the texts of its size and block size, in 64 and 32 bits
abbrev pub geometry_in : List ℕ → List ℕ → Option Geometry
geometry_in size block_size = geometry_by (number_below (2 ^ 64) size) (number_below (2 ^ 32) block_size)

-- a disk, or the texts that give none
abbrev pub geometry_or : List ℕ → List ℕ → Option Geometry → Result Geometry ToolFault
geometry_or size block_size (Some geometry) = Ok geometry
geometry_or size block_size None = Err (fault.BadGeometry size block_size)

-- the disk of the texts that block 0 carries
abbrev pub geometry_of_texts : Option (List ℕ) → Option (List ℕ) → Result Geometry ToolFault
geometry_of_texts (Some size) (Some block_size) = geometry_or size block_size (geometry_in size block_size)
geometry_of_texts size block_size = Err fault.NoGeometry

-- the disk by the reply to a HEAD of block 0
abbrev pub geometry_by_reply : HeadReply → Result Geometry ToolFault
geometry_by_reply head.Absent = Err fault.NoGeometry
geometry_by_reply (head.Found texts) = geometry_of_texts texts.size texts.block_size
geometry_by_reply (head.Fault failure) = Err (fault_by failure)

-- a disk was detected, or not: one HEAD of the first block's object
pub record Detects (name : List ℕ) (result : Result Geometry ToolFault) (calls : List Call) : Type 0 where
  pub reply : HeadReply
  pub answer : result ≡ geometry_by_reply reply
  pub asked : calls ≡ call.Head name reply ∷ []
