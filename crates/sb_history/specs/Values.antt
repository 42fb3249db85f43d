-- What a block holds after a history: the disk as a register for each block. A history is a list of entries, the newest
-- first, so that what stands behind an entry is its past, and the place of an entry is the length of its past.
use Rattle.std.specs.Prelude.{ℕ, ◌≡◌, Bool, false, ◌||◌, nat_eq, nat_le, if◌then◌else◌, List, [], ◌∷◌, length}
use Rattle.sb_base.specs.declared.entry.EntryKind.{EntryKind}
use Rattle.sb_base.specs.declared.entry.EntryKind.TheVariants.{Read, Write}
use Rattle.sb_base.specs.declared.entry.Entry.{Entry}
use Rattle.sb_history.specs.Contents.{Start, overlay, part_bytes}

-- what a block holds after an entry, which only a write of that block changes
abbrev pub value_after : ℕ → EntryKind → List ℕ → List ℕ
value_after block (Write part bytes) content =
    if nat_eq part.block block then overlay content part.offset bytes else content
value_after block kind content = content

-- what a block holds after a history
abbrev pub value_of : Start → List Entry → ℕ → List ℕ
value_of start [] block = start block
value_of start (entry ∷ past) block = value_after block entry.kind (value_of start past block)

-- a read carries what its block holds at that place
abbrev pub ReadsLatest : Start → List Entry → EntryKind → Type 0
ReadsLatest start past (Read part bytes) = bytes ≡ part_bytes (value_of start past part.block) part
ReadsLatest start past kind = Unit {0}

-- each read carries what its block holds at that place
abbrev pub IsLegal : Start → List Entry → Type 0
IsLegal start [] = Unit {0}
IsLegal start (entry ∷ past) = ReadsLatest start past entry.kind × IsLegal start past

-- what a block held from a place on, the newest first
abbrev pub values_since : Start → ℕ → List Entry → ℕ → List (List ℕ)
values_since start place [] block = start block ∷ []
values_since start place (entry ∷ past) block =
    value_of start (entry ∷ past) block ∷
    (if nat_le place (length past) then values_since start place past block else [])

-- an entry is a write of the block
abbrev pub writes_block : ℕ → EntryKind → Bool
writes_block block (Write part bytes) = nat_eq part.block block
writes_block block kind = false

-- a history has a write of the block
abbrev pub is_written : List Entry → ℕ → Bool
is_written [] block = false
is_written (entry ∷ past) block = writes_block block entry.kind || is_written past block
