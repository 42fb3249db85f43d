-- Heads of responses (RFC 9112, sections 2 to 5, as httparse reads them).
use Rattle.std.specs.Prelude.{ℕ, ◌≡◌, ◌≤◌, ◌<◌, ◌+◌, ◌&&◌, ◌⊎◌, nat_le, nat_lt, Bool, true, false, List, [], ◌++◌}
use Rattle.std.specs.Prelude.{length, map, All, Option, Some, None, Result, Ok, Err}
use Rattle.std.specs.List.{flat_map}
use Rattle.httparse.specs.declared.spans.HeaderSpan.{HeaderSpan}
use Rattle.httparse.specs.declared.spans.ResponseSpans.{ResponseSpans}
use Rattle.httparse.specs.Grammar.{ResponseHead, IsResponseHead, print_response, status_code, HasNoResponse}
use Rattle.httparse.specs.Grammar.{NeverHasResponse, MayBecomeResponse}
use Rattle.httparse.specs.Spans.{IsResponseAt, IsResponseWithin, ResponseExceeds, ResponseOverflows, name_and_value}
use Rattle.sb_world.specs.declared.wire.Connection.{Connection}
use Rattle.sb_http.specs.declared.head.Head.{Head}
use Rattle.sb_http.specs.declared.fault.HttpFault.{HttpFault}
use Rattle.sb_http.specs.declared.fault.HttpFault.TheVariants.{HeadCut, HeadTooLong, BadHead, TooManyHeaders}
use Rattle.sb_http.specs.Fields.{pair_of}
use Rattle.sb_http.specs.Takings.{Takes, IsOutside}

-- the most bytes of a head, the most lines of fields in it, and the most interim responses that are passed over
abbrev pub most_bytes : ℕ
most_bytes = 16384

abbrev pub most_lines : ℕ
most_lines = 64

abbrev pub most_interim : ℕ
most_interim = 8

-- a head of the grammar, within the limits
pub record IsHead (h : ResponseHead) : Type 0 where
  pub grammar : IsResponseHead h
  pub size : length (print_response h) ≤ most_bytes
  pub lines : length h.fields ≤ most_lines

-- an interim response goes before the one that counts
abbrev pub is_interim : ℕ → Bool
is_interim status = nat_le 100 status && nat_lt status 200

-- the head of an interim response, which has nothing more
abbrev pub IsInterim : ResponseHead → Type 0
IsInterim h = IsHead h × (is_interim (status_code h) ≡ true)

-- what is kept of a head
abbrev pub Keeps : Head → ResponseHead → Type 0
Keeps head h =
    (head.status ≡ status_code h) × (head.headers.items ≡ map pair_of (map name_and_value h.fields))

-- what these bytes are found to be: a head, or no head yet, or never one, or one of too many lines
abbrev pub Parses : List ℕ → List HeaderSpan → Result (Option ResponseSpans) HttpFault → Type 0
Parses bytes spans (Ok (Some found)) =
    (h : ResponseHead) × IsResponseAt bytes spans found h × IsResponseWithin bytes spans found
    × (length h.fields ≤ most_lines)
Parses bytes spans (Ok None) = HasNoResponse bytes × MayBecomeResponse bytes
Parses bytes spans (Err BadHead) = NeverHasResponse bytes
Parses bytes spans (Err TooManyHeaders) = ResponseExceeds most_lines bytes × ResponseOverflows most_lines bytes
Parses bytes spans (Err fault) = ⊥

-- how the reading ends at the bytes of a head that came, with these bytes left, at the input's end or before it
abbrev pub EndsHead : List ℕ → List ℕ → Bool → HttpFault → Type 0
EndsHead front left ended (HeadCut count) =
    HasNoResponse front × MayBecomeResponse front × (length front < most_bytes) × (count ≡ length front)
    × (left ≡ []) × (ended ≡ true)
EndsHead front left ended HeadTooLong =
    HasNoResponse front × MayBecomeResponse front × (length front ≡ most_bytes) × (ended ≡ false)
EndsHead front left ended BadHead = NeverHasResponse front × (length front ≤ most_bytes) × (ended ≡ false)
EndsHead front left ended TooManyHeaders =
    ResponseExceeds most_lines front × ResponseOverflows most_lines front × (length front ≤ most_bytes)
    × (ended ≡ false)
EndsHead front left ended fault = IsOutside fault × (ended ≡ false)

-- the reading ended in a head
pub record StopsInHead (before now : Option (List Connection)) (ahead : List ℕ) (fault : HttpFault) : Type 0 where
  pub front : List ℕ
  pub left : List ℕ
  pub ended : Bool
  pub takes : Takes before now ahead left front ended
  pub ends : EndsHead front left ended fault

-- what waits begins with a head, or the reading ended in it
abbrev pub FindsHead : Option (List Connection) → Option (List Connection) → List ℕ → List ℕ → List HeaderSpan
    → Result ResponseSpans HttpFault → Type 0
FindsHead before now ahead waiting spans (Ok found) =
    Parses waiting spans (Ok (Some found)) × (length waiting ≤ most_bytes)
    × Takes before now ahead [] waiting false
FindsHead before now ahead waiting spans (Err fault) = StopsInHead before now ahead fault

-- one head was taken, of an interim response or of the one that counts, or the reading ended in it
abbrev pub TakesHead : Option (List Connection) → Option (List Connection) → List ℕ → List ℕ
    → Result (Option Head) HttpFault → Type 0
TakesHead before now ahead left (Ok (Some head)) =
    (h : ResponseHead) × IsHead h × (is_interim (status_code h) ≡ false) × Keeps head h
    × Takes before now ahead left (print_response h) false
TakesHead before now ahead left (Ok None) =
    (h : ResponseHead) × IsInterim h × Takes before now ahead left (print_response h) false
    × (length left ≤ most_bytes)
TakesHead before now ahead left (Err fault) = StopsInHead before now ahead fault

-- the reading ended in a head, or it was an interim response too many
abbrev pub EndsHeads : ℕ → List ℕ → List ℕ → Bool → HttpFault → Type 0
EndsHeads passed front left ended fault =
    ((passed ≤ most_interim) × EndsHead front left ended fault)
    ⊎ ((passed ≡ most_interim + 1) × (front ≡ []) × (fault ≡ BadHead) × (ended ≡ false))

-- the bytes of heads
abbrev pub print_heads : List ResponseHead → List ℕ
print_heads heads = flat_map print_response heads

-- the heads of interim responses were passed over, and the head that counts was taken, or the reading ended
abbrev pub ReadsHead : Option (List Connection) → Option (List Connection) → List ℕ → List ℕ → Result Head HttpFault
    → Type 0
ReadsHead before now ahead left (Ok head) =
    (passed : List ResponseHead) × All IsInterim passed × (length passed ≤ most_interim)
    × (h : ResponseHead) × IsHead h × (is_interim (status_code h) ≡ false) × Keeps head h
    × Takes before now ahead left (print_heads passed ++ print_response h) false
ReadsHead before now ahead left (Err fault) =
    (passed : List ResponseHead) × All IsInterim passed
    × (front : List ℕ) × (rest : List ℕ) × (ended : Bool) × EndsHeads (length passed) front rest ended fault
    × Takes before now ahead rest (print_heads passed ++ front) ended
