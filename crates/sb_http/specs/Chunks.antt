-- Bodies in chunks (RFC 9112, section 7.1).
use Rattle.std.specs.Prelude.{ℕ, ◌≡◌, ◌≤◌, ◌<◌, ◌+◌, Bool, true, false, List, [], ◌++◌, length, Option, Some, None}
use Rattle.std.specs.Prelude.{Result, Ok, Err}
use Rattle.std.specs.List.{flat_map}
use Rattle.sb_world.specs.declared.wire.Connection.{Connection}
use Rattle.sb_http.specs.declared.line.Line.TheVariants.{Size, ChunkEnd, TrailerLine}
use Rattle.sb_http.specs.declared.fault.HttpFault.{HttpFault}
use Rattle.sb_http.specs.declared.fault.HttpFault.TheVariants.{BodyCut, BadChunk, TooLong}
use Rattle.sb_http.specs.Lines.{IsLine, IsBadLine, IsCutLine}
use Rattle.sb_http.specs.Takings.{Takes, IsOutside}

-- a chunk that isn't the last: its size line, what it carries, and its line end
pub record Chunk : Type 0 where
  pub line : List ℕ
  pub content : List ℕ
  pub end : List ℕ

-- the line tells how much it carries, which is something
pub record IsChunk (chunk : Chunk) : Type 0 where
  pub line : IsLine Size chunk.line (length chunk.content)
  pub some : 0 < length chunk.content
  pub end : (size : ℕ) × IsLine ChunkEnd chunk.end size

-- the bytes of a chunk
abbrev pub print_chunk : Chunk → List ℕ
print_chunk chunk = chunk.line ++ (chunk.content ++ chunk.end)

-- the bytes of chunks
abbrev pub print_chunks : List Chunk → List ℕ
print_chunks chunks = flat_map print_chunk chunks

-- what chunks carry together
abbrev pub content_of : List Chunk → List ℕ
content_of chunks = flat_map (λ chunk. chunk.content) chunks

-- where behind whole chunks the reading stands: in a size line, in what a chunk carries, in its line end or in the
-- trailer
pub data Place : Type 0 where
  in_size : (bytes : List ℕ) → Place
  in_content : (line : List ℕ) (size : ℕ) (bytes : List ℕ) → Place
  in_end : (line content bytes : List ℕ) → Place
  in_trailer : (line bytes : List ℕ) → Place

-- the bytes behind the whole chunks
abbrev pub print_place : Place → List ℕ
print_place (in_size bytes) = bytes
print_place (in_content line size bytes) = line ++ bytes
print_place (in_end line content bytes) = line ++ (content ++ bytes)
print_place (in_trailer line bytes) = line ++ bytes

-- what these bytes add to the body
abbrev pub content_at : Place → List ℕ
content_at (in_size bytes) = []
content_at (in_content line size bytes) = bytes
content_at (in_end line content bytes) = content
content_at (in_trailer line bytes) = []

-- the place is reached behind so much of the body, within the limit
abbrev pub IsPlace : ℕ → ℕ → Place → Type 0
IsPlace limit got (in_size bytes) = Unit {0}
IsPlace limit got (in_content line size bytes) =
    IsLine Size line size × (0 < size) × (got + size ≤ limit) × (length bytes ≤ size)
IsPlace limit got (in_end line content bytes) =
    IsLine Size line (length content) × (0 < length content) × (got + length content ≤ limit)
IsPlace limit got (in_trailer line bytes) = IsLine Size line 0

-- the trailer came to its end
abbrev pub IsAtEnd : Place → Type 0
IsAtEnd (in_size bytes) = ⊥
IsAtEnd (in_content line size bytes) = ⊥
IsAtEnd (in_end line content bytes) = ⊥
IsAtEnd (in_trailer line bytes) = (size : ℕ) × IsLine TrailerLine bytes size

-- what stands there is no size line, line end or trailer
abbrev pub IsBad : Place → Type 0
IsBad (in_size bytes) = IsBadLine Size bytes
IsBad (in_content line size bytes) = ⊥
IsBad (in_end line content bytes) = IsBadLine ChunkEnd bytes
IsBad (in_trailer line bytes) = IsBadLine TrailerLine bytes

-- what stands there is the begin of it
abbrev pub IsCut : Place → Type 0
IsCut (in_size bytes) = IsCutLine Size bytes
IsCut (in_content line size bytes) = length bytes < size
IsCut (in_end line content bytes) = IsCutLine ChunkEnd bytes
IsCut (in_trailer line bytes) = IsCutLine TrailerLine bytes

-- a size line that makes more of the body than the limit
abbrev pub IsOver : ℕ → ℕ → Place → Type 0
IsOver limit got (in_size bytes) = (size : ℕ) × IsLine Size bytes size × (limit < got + size)
IsOver limit got (in_content line size bytes) = ⊥
IsOver limit got (in_end line content bytes) = ⊥
IsOver limit got (in_trailer line bytes) = ⊥

-- how the reading ends at a place, where so much of the body came, with these bytes left, at the input's end or before
-- it
abbrev pub EndsChunks : ℕ → ℕ → Place → List ℕ → Bool → Result ℕ HttpFault → Type 0
EndsChunks limit got place left ended (Ok length) = IsAtEnd place × (length ≡ got) × (ended ≡ false)
EndsChunks limit got place left ended (Err (BadChunk count)) = IsBad place × (count ≡ got) × (ended ≡ false)
EndsChunks limit got place left ended (Err (BodyCut want count)) =
    IsCut place × (want ≡ None) × (count ≡ got) × (left ≡ []) × (ended ≡ true)
EndsChunks limit got place left ended (Err (TooLong bound)) = IsOver limit got place × (bound ≡ limit) × (ended ≡ false)
EndsChunks limit got place left ended (Err fault) = IsOutside fault × (ended ≡ false)

-- no chunk more was read, but the place in it
pub record StopsAt (before now : Option (List Connection)) (ahead old new : List ℕ) (limit got : ℕ)
    (result : Result ℕ HttpFault) : Type 0 where
  pub place : Place
  pub left : List ℕ
  pub ended : Bool
  pub takes : Takes before now ahead left (print_place place) ended
  pub room : new ≡ old ++ content_at place
  pub reached : IsPlace limit got place
  pub ends : EndsChunks limit (got + length (content_at place)) place left ended result

-- one chunk was read behind so much of the body, or the size line of the last one, or the reading ended
abbrev pub ReadsChunk : Option (List Connection) → Option (List Connection) → List ℕ → List ℕ → List ℕ → List ℕ → ℕ
    → ℕ → Result (Option ℕ) HttpFault → Type 0
ReadsChunk before now ahead left old new limit got (Ok (Some size)) =
    (chunk : Chunk) × IsChunk chunk × (length chunk.content ≡ size) × (got + size ≤ limit)
    × Takes before now ahead left (print_chunk chunk) false × (new ≡ old ++ chunk.content)
ReadsChunk before now ahead left old new limit got (Ok None) =
    (line : List ℕ) × IsLine Size line 0 × Takes before now ahead left line false × (new ≡ old)
ReadsChunk before now ahead left old new limit got (Err fault) =
    StopsAt before now ahead old new limit got (Err fault)
