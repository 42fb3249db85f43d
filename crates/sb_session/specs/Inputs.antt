-- The whole of an input behind the handshake: its requests, in order, and why they end.
use Rattle.std.specs.Prelude.{ℕ, ◌≡◌, ◌≢◌, ◌<◌, ◌^◌, true, false, List, [], ◌∷◌, ◌++◌, length}
use Rattle.std.specs.Int.{w32, to_be_bytes}
use Rattle.std.specs.List.{AllByRecursion}
use Rattle.sb_nbd.specs.declared.wanted.Wanted.{Wanted}
use Rattle.sb_nbd.specs.Numbers.{max_payload, request_magic, write_type}
use Rattle.sb_nbd.specs.declared.end.NbdEnd.{NbdEnd}
use Rattle.sb_nbd.specs.declared.end.NbdEnd.TheVariants as nbd
use Rattle.sb_nbd.specs.Requests.{magic_bytes, fields_bytes, FitsFields, Request, IsRequest, request_bytes}
use Rattle.sb_nbd.specs.RequestReading.{IsCutRequest}
use Rattle.sb_session.specs.declared.end.SessionEnd.{SessionEnd}
use Rattle.sb_session.specs.declared.end.SessionEnd.TheVariants.{Disconnected, Ended, Fault, Spent}
use Rattle.sb_session.specs.Goals.{is_disc}

-- the bytes of requests, the oldest first
abbrev pub bytes_of : List Request → List ℕ
bytes_of [] = []
bytes_of (r ∷ rs) = request_bytes r ++ bytes_of rs

-- a request that isn't DISC
pub record GoesOn (r : Request) : Type 0 where
  pub request : IsRequest r
  pub goes_on : is_disc r.wanted ≡ false

-- a DISC
pub record IsDisc (r : Request) : Type 0 where
  pub request : IsRequest r
  pub disc : is_disc r.wanted ≡ true

-- all bytes that are left begin no request: they are cut, or have a wrong magic, or are those of too long a WRITE
abbrev pub IsMalformed : List ℕ → NbdEnd → Type 0
IsMalformed bytes (nbd.Cut got) = (length bytes ≡ got) × (0 < got) × IsCutRequest bytes
IsMalformed bytes (nbd.BadMagic magic) = (after : List ℕ) × (magic < 2 ^ 32) × (magic ≢ request_magic)
    × (bytes ≡ to_be_bytes w32 magic ++ after)
IsMalformed bytes (nbd.TooBig size) = (w : Wanted) × (after : List ℕ) × FitsFields w × (w.kind ≡ write_type)
    × (w.length ≡ size) × (max_payload < size) × (bytes ≡ magic_bytes ++ (fields_bytes w ++ after))
IsMalformed bytes end = ⊥

-- all bytes behind the requests that were answered end the session by this fault. After a fault of a stream they may
-- be any.
abbrev pub EndsByFault : List ℕ → NbdEnd → Type 0
EndsByFault bytes nbd.ReadFault = Unit {0}
EndsByFault bytes nbd.WriteFault = Unit {0}
EndsByFault bytes reading = IsMalformed bytes reading

-- all bytes behind the requests that were answered end the session so. After the last request that a session may
-- answer they may be any.
abbrev pub EndsInput : List ℕ → SessionEnd → Type 0
EndsInput bytes Disconnected = (r : Request) × (after : List ℕ) × IsDisc r
    × (bytes ≡ request_bytes r ++ after)
EndsInput bytes Ended = bytes ≡ []
EndsInput bytes (Fault reading) = EndsByFault bytes reading
EndsInput bytes Spent = Unit {0}
EndsInput bytes other = ⊥

-- an input has these requests, the oldest first, and ends so
pub record IsInput (bytes : List ℕ) (requests : List Request) (end : SessionEnd) : Type 0 where
  pub tail : List ℕ
  pub whole : bytes ≡ bytes_of requests ++ tail
  pub going_on : AllByRecursion GoesOn requests
  pub ends : EndsInput tail end

-- a fault that the input alone decides
abbrev pub IsOfInput : NbdEnd → Type 0
IsOfInput nbd.ReadFault = ⊥
IsOfInput nbd.WriteFault = ⊥
IsOfInput other = Unit {0}

-- an end that the input alone decides
abbrev pub IsByInput : SessionEnd → Type 0
IsByInput Spent = ⊥
IsByInput (Fault reading) = IsOfInput reading
IsByInput other = Unit {0}
