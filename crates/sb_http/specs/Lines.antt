-- The lines round the chunks of a chunked body (RFC 9112, section 7.1).
use Rattle.std.specs.Prelude.{ℕ, ◌≡◌, ◌≤◌, ◌<◌, ◌+◌, ◌-◌, ◌*◌, ◌^◌, ◌==◌, ◌⊎◌, min, if◌then◌else◌, true, false, List}
use Rattle.std.specs.Prelude.{[], ◌∷◌, ◌++◌, length, fold, Option, None, Result, Ok, Err}
use Rattle.std.specs.Char.{is_ascii_hexdigit, digit_value}
use Rattle.sb_world.specs.declared.wire.Connection.{Connection}
use Rattle.sb_http.specs.declared.line.Line.{Line}
use Rattle.sb_http.specs.declared.line.Line.TheVariants.{Size, Digits, Extension, SizeReturn, ChunkEnd, ChunkReturn}
use Rattle.sb_http.specs.declared.line.Line.TheVariants.{TrailerLine, TrailerReturn, TrailerText, TextReturn}
use Rattle.sb_http.specs.declared.line.Step.{Step}
use Rattle.sb_http.specs.declared.line.Step.TheVariants.{More, Done, Bad}
use Rattle.sb_http.specs.declared.fault.HttpFault.{HttpFault}
use Rattle.sb_http.specs.declared.fault.HttpFault.TheVariants.{BodyCut, BadChunk}
use Rattle.sb_http.specs.Takings.{Takes, IsOutside}

-- a size with one more hexadecimal digit, where sizes past the greatest u64 are taken as that
abbrev pub next_size : ℕ → ℕ → ℕ
next_size size digit = min (size * 16 + digit) (2 ^ 64 - 1)

-- what a byte leads to
abbrev pub after : Line → ℕ → Step
after Size byte = if is_ascii_hexdigit byte then More (Digits (digit_value byte)) else Bad
after (Digits size) byte =
    if byte == 13 then More (SizeReturn size)
    else (if byte == 59 then More (Extension size)
    else (if is_ascii_hexdigit byte then More (Digits (next_size size (digit_value byte))) else Bad))
after (Extension size) byte =
    if byte == 13 then More (SizeReturn size) else (if byte == 10 then Bad else More (Extension size))
after (SizeReturn size) byte = if byte == 10 then Done size else Bad
after ChunkEnd byte = if byte == 13 then More ChunkReturn else Bad
after ChunkReturn byte = if byte == 10 then Done 0 else Bad
after TrailerLine byte = if byte == 13 then More TrailerReturn else More TrailerText
after TrailerReturn byte =
    if byte == 13 then More TextReturn else (if byte == 10 then Done 0 else More TrailerText)
after TrailerText byte = if byte == 13 then More TextReturn else More TrailerText
after TextReturn byte =
    if byte == 13 then More TextReturn else (if byte == 10 then More TrailerLine else More TrailerText)

-- nothing may follow the end
abbrev pub stepped : Step → ℕ → Step
stepped (More line) byte = after line byte
stepped (Done size) byte = Bad
stepped Bad byte = Bad

-- what all these bytes lead to
abbrev pub read_from : Line → List ℕ → Step
read_from line bytes = fold stepped (More line) bytes

-- there is more to read
abbrev pub IsOpen : Step → Type 0
IsOpen (More line) = Unit {0}
IsOpen (Done size) = ⊥
IsOpen Bad = ⊥

-- the most bytes of a line with its line end, and of a trailer
abbrev pub most_of_line : ℕ
most_of_line = 16384

-- these bytes are the whole of it
abbrev pub IsLine : Line → List ℕ → ℕ → Type 0
IsLine line bytes size = (read_from line bytes ≡ Done size) × (length bytes ≤ most_of_line)

-- the last byte is none that may follow those before it, of which there is more to read
abbrev pub IsStuck : Line → List ℕ → Type 0
IsStuck line bytes =
    (front : List ℕ) × (byte : ℕ) × (bytes ≡ front ++ byte ∷ []) × IsOpen (read_from line front)
    × (read_from line bytes ≡ Bad)

-- no line, from their last byte on, or they are too many
abbrev pub IsBadLine : Line → List ℕ → Type 0
IsBadLine line bytes = (length bytes ≤ most_of_line)
    × (IsStuck line bytes ⊎ ((length bytes ≡ most_of_line) × IsOpen (read_from line bytes)))

-- these bytes begin a line
abbrev pub IsCutLine : Line → List ℕ → Type 0
IsCutLine line bytes = (length bytes < most_of_line) × IsOpen (read_from line bytes)

-- a line was taken; or what is none, or the begin of one that the end cut, where so much of the body came before it
abbrev pub ReadsLine : Option (List Connection) → Option (List Connection) → List ℕ → List ℕ → Line → ℕ
    → Result ℕ HttpFault → Type 0
ReadsLine before now ahead left line got (Ok size) =
    (bytes : List ℕ) × Takes before now ahead left bytes false × IsLine line bytes size
ReadsLine before now ahead left line got (Err (BadChunk count)) =
    (bytes : List ℕ) × Takes before now ahead left bytes false × IsBadLine line bytes × (count ≡ got)
ReadsLine before now ahead left line got (Err (BodyCut want count)) =
    (bytes : List ℕ) × Takes before now ahead left bytes true × IsCutLine line bytes × (count ≡ got)
    × (want ≡ None) × (left ≡ [])
ReadsLine before now ahead left line got (Err fault) =
    IsOutside fault × (bytes : List ℕ) × Takes before now ahead left bytes false
