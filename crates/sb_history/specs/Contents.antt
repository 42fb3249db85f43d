-- What blocks contain, and what a write of some bytes leaves of it.
use Rattle.std.specs.Prelude.{ℕ, ◌≡◌, ◌+◌, Bool, nat_eq, List, ◌++◌, length, take, drop, replicate}
use Rattle.std.specs.List.{list_all}
use Rattle.sb_base.specs.declared.part.Part.{Part}

-- the content of each block when the disk is opened
abbrev pub Start : Type 0
Start = ℕ → List ℕ

-- each block begins with as many bytes as a block has
abbrev pub FillBlocks : ℕ → Start → Type 0
FillBlocks block_size start = (block : ℕ) → length (start block) ≡ block_size

-- so many zeros
abbrev pub zeros : ℕ → List ℕ
zeros n = replicate n 0

-- all bytes are zero
abbrev pub is_zeros : List ℕ → Bool
is_zeros content = list_all (λ byte. nat_eq byte 0) content

-- a content with other bytes from an offset on
abbrev pub overlay : List ℕ → ℕ → List ℕ → List ℕ
overlay content offset bytes = take offset content ++ bytes ++ drop (offset + length bytes) content

-- the bytes of a part
abbrev pub part_bytes : List ℕ → Part → List ℕ
part_bytes content part = take part.length (drop part.offset content)
