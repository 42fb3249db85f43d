-- The handshake's other messages as bytes (NBD protocol, "Newstyle negotiation").
use Rattle.std.specs.Prelude.{ℕ, ◌≡◌, ◌≤◌, ◌<◌, ◌^◌, nat_lt, List, [], ◌∷◌, ◌++◌, length, Bool, if◌then◌else◌, replicate}
use Rattle.std.specs.Prelude.{Option, Result, Ok, Err}
use Rattle.std.specs.Int.{w16, w32, w64, to_be_bytes}
use Rattle.sb_world.specs.Streams.{Takes, IsAtEnd}
use Rattle.sb_nbd.specs.declared.end.NbdEnd.{NbdEnd}
use Rattle.sb_nbd.specs.declared.end.NbdEnd.TheVariants.{Ended, Cut, BadFlags, ReadFault}
use Rattle.sb_nbd.specs.Numbers.{max_flags}

-- `NBDMAGIC`, `IHAVEOPT` and the flags 3
unfoldable pub greeting_bytes : List ℕ
greeting_bytes = 78 ∷ 66 ∷ 68 ∷ 77 ∷ 65 ∷ 71 ∷ 73 ∷ 67 ∷ 73 ∷ 72 ∷ 65 ∷ 86 ∷ 69 ∷ 79 ∷ 80 ∷ 84 ∷ 0 ∷ 3 ∷ []

-- the bytes in the place of the client's flags, of which no more were taken, end the reading so
abbrev pub StopsFlags : Option (List ℕ) → List ℕ → NbdEnd → Type 0
StopsFlags now bytes Ended = (bytes ≡ []) × IsAtEnd now
StopsFlags now bytes (Cut got) = (length bytes ≡ got) × (0 < got) × (got < 4) × IsAtEnd now
StopsFlags now bytes (BadFlags flags) = (bytes ≡ to_be_bytes w32 flags) × (flags < 2 ^ 32) × (max_flags < flags)
StopsFlags now bytes ReadFault = length bytes < 4
StopsFlags now bytes end = ⊥

-- the client's flags were taken, or the bytes that end the reading
abbrev pub ReadsFlags : Option (List ℕ) → Option (List ℕ) → Result ℕ NbdEnd → Type 0
ReadsFlags before now (Ok flags) = Takes before now (to_be_bytes w32 flags) × (flags ≤ max_flags)
ReadsFlags before now (Err end) = (bytes : List ℕ) × Takes before now bytes × StopsFlags now bytes end

-- the size of a disk, and its transmission flags
unfoldable pub export_head : ℕ → ℕ → List ℕ
export_head size flags = to_be_bytes w64 size ++ to_be_bytes w16 flags

-- the zeros that a client gets unless it asked for none
abbrev pub padding : Bool → List ℕ
padding zeroes = if zeroes then replicate 124 0 else []

-- the answer to EXPORT_NAME
abbrev pub export_bytes : ℕ → ℕ → Bool → List ℕ
export_bytes size flags zeroes = export_head size flags ++ padding zeroes

-- a client whose flags, at most 3, lack bit 1 wants the zeros
abbrev pub wants_zeroes : ℕ → Bool
wants_zeroes flags = nat_lt flags 2
