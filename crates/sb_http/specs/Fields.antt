-- The fields of a response as they are kept, and the framing that they declare (RFC 9112, section 6.3).
use Rattle.std.specs.Prelude.{ℕ, ◌≡◌, ◌+◌, ◌*◌, ◌^◌, ◌-◌, ◌==◌, ◌&&◌, ◌||◌, not, nat_le, Bool, true, false}
use Rattle.std.specs.Prelude.{if◌then◌else◌, List, [], ◌∷◌, codes, bytes_eq, is_none, Option, Some, None, Result, Ok}
use Rattle.std.specs.Prelude.{Err}
use Rattle.std.specs.List.{list_any}
use Rattle.std.specs.Char.{is_ascii_digit}
use Rattle.http_header.specs.Token.{lowercase}
use Rattle.sb_sign.specs.declared.request.Pair.{Pair}
use Rattle.sb_http.specs.declared.framing.Framing.{Framing}
use Rattle.sb_http.specs.declared.framing.Framing.TheVariants.{Empty, Sized, Chunked, ToEnd}
use Rattle.sb_http.specs.declared.fault.HttpFault.{HttpFault}
use Rattle.sb_http.specs.declared.fault.HttpFault.TheVariants.{BadLength, Memory}

-- a name in lower case, and the value as it came
abbrev pub pair_of : List ℕ × List ℕ → Pair
pair_of field = record { name = lowercase field.0; value = field.1 }

-- the field declares a length
abbrev pub is_length : Pair → Bool
is_length pair = bytes_eq pair.name (codes "content-length")

-- the field declares chunks
abbrev pub is_chunked : Pair → Bool
is_chunked pair =
    bytes_eq pair.name (codes "transfer-encoding") && bytes_eq (lowercase pair.value) (codes "chunked")

-- a length with one more digit, at most 2^63 - 1
abbrev pub with_digit : ℕ → ℕ → Option ℕ
with_digit size byte =
    if is_ascii_digit byte then (if nat_le (size * 10 + (byte - 48))
    (2 ^ 63 - 1) then Some (size * 10 + (byte - 48)) else None)
    else None

-- the length that digits give behind those of a length
abbrev pub length_after : Option ℕ → List ℕ → Option ℕ
length_after None bytes = None
length_after (Some size) [] = Some size
length_after (Some size) (byte ∷ bytes) = length_after (with_digit size byte) bytes

-- the length that a text of one or more digits gives
abbrev pub length_in : List ℕ → Option ℕ
length_in [] = None
length_in (byte ∷ bytes) = length_after (Some 0) (byte ∷ bytes)

-- the text is that length
abbrev pub gives : Option ℕ → ℕ → Bool
gives (Some other) size = other == size
gives None size = false

-- the first text of a declared length that is none
abbrev pub unread : List Pair → Option (List ℕ)
unread [] = None
unread (pair ∷ pairs) = if is_length pair && is_none (length_in pair.value) then Some pair.value else unread pairs

-- the first length that is declared
abbrev pub first_length : List Pair → Option ℕ
first_length [] = None
first_length (pair ∷ pairs) = if is_length pair then length_in pair.value else first_length pairs

-- the first text of a declared length that is another one than this
abbrev pub differing : ℕ → List Pair → Option (List ℕ)
differing size [] = None
differing size (pair ∷ pairs) =
    if is_length pair && not (gives (length_in pair.value) size) then Some pair.value else differing size pairs

-- refused for that text, if there is one, or for want of memory to tell it
abbrev pub IsRefused : {T : Type 0} → Option (List ℕ) → Result T HttpFault → (T → Type 0) → Type 0
IsRefused None (Ok value) P = P value
IsRefused None (Err fault) P = ⊥
IsRefused (Some text) (Ok value) P = ⊥
IsRefused (Some text) (Err (BadLength other)) P = other ≡ text
IsRefused (Some text) (Err Memory) P = Unit {0}
IsRefused (Some text) (Err fault) P = ⊥

-- the fault tells that text, but for want of memory
abbrev pub TellsLength : List ℕ → HttpFault → Type 0
TellsLength text (BadLength other) = other ≡ text
TellsLength text Memory = Unit {0}
TellsLength text fault = ⊥

-- the first text of a declared length that differs from the first length
abbrev pub differing_from : Option ℕ → List Pair → Option (List ℕ)
differing_from None pairs = None
differing_from (Some size) pairs = differing size pairs

-- the one text, or else the other
abbrev pub first_of : Option (List ℕ) → Option (List ℕ) → Option (List ℕ)
first_of (Some text) other = Some text
first_of None other = other

-- the text of a declared length that is refused
abbrev pub refused_length : List Pair → Option (List ℕ)
refused_length pairs = first_of (unread pairs) (differing_from (first_length pairs) pairs)

-- the framing by a declared length
abbrev pub framing_by : Option ℕ → Framing
framing_by (Some size) = Sized size
framing_by None = ToEnd

-- there is no body for this request, or at this status
abbrev pub has_no_body : Bool → ℕ → Bool
has_no_body bodiless status = bodiless || (status == 204 || status == 304)

-- the framing where there is no body, or chunks, or else by the declared lengths
abbrev pub IsFramingBy : Bool → Bool → List Pair → Result Framing HttpFault → Type 0
IsFramingBy true chunked pairs result = result ≡ Ok Empty
IsFramingBy false true pairs result = result ≡ Ok Chunked
IsFramingBy false false pairs result =
    IsRefused (refused_length pairs) result (λ framing. framing ≡ framing_by (first_length pairs))

-- the framing of the response to a request, at a status, with these fields
abbrev pub IsFraming : Bool → ℕ → List Pair → Result Framing HttpFault → Type 0
IsFraming bodiless status pairs result =
    IsFramingBy (has_no_body bodiless status) (list_any is_chunked pairs) pairs result
