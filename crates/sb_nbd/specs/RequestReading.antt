-- What reading a request takes, and how it ends.
use Rattle.std.specs.Prelude.{ℕ, ◌≡◌, ◌≢◌, ◌≤◌, ◌<◌, ◌^◌, ◌⊎◌, List, [], ◌++◌, length, take, Option, Result, Ok, Err}
use Rattle.std.specs.Int.{w32, to_be_bytes}
use Rattle.sb_world.specs.Streams.{Takes, IsAtEnd}
use Rattle.sb_nbd.specs.declared.wanted.Wanted.{Wanted}
use Rattle.sb_nbd.specs.Numbers.{max_payload, request_magic, write_type}
use Rattle.sb_nbd.specs.declared.end.NbdEnd.{NbdEnd}
use Rattle.sb_nbd.specs.declared.end.NbdEnd.TheVariants.{Ended, Cut, BadMagic, BadFlags, TooBig, ReadFault, WriteFault}
use Rattle.sb_nbd.specs.Pieces.{IsShort}
use Rattle.sb_nbd.specs.Requests.{magic_bytes, fields_bytes, Request, FitsFields, payload_length, IsRequest}
use Rattle.sb_nbd.specs.Requests.{request_bytes}

-- bytes that begin a request and are no whole one: too few for the magic, for the fields, or for the payload
abbrev pub IsCutRequest : List ℕ → Type 0
IsCutRequest bytes =
    (length bytes < 4)
    ⊎ (((fields : List ℕ) × (bytes ≡ magic_bytes ++ fields) × (length fields < 24))
    ⊎ ((w : Wanted) × (payload : List ℕ) × FitsFields w
    × (bytes ≡ magic_bytes ++ (fields_bytes w ++ payload)) × (length payload < payload_length w)
    × (payload_length w ≤ max_payload)))

-- the bytes in a request's place, of which no more were taken, end the reading so
abbrev pub StopsRequest : Option (List ℕ) → List ℕ → NbdEnd → Type 0
StopsRequest now bytes Ended = (bytes ≡ []) × IsAtEnd now
StopsRequest now bytes (Cut got) = (length bytes ≡ got) × (0 < got) × IsCutRequest bytes × IsAtEnd now
StopsRequest now bytes (BadMagic magic) = (bytes ≡ to_be_bytes w32 magic) × (magic < 2 ^ 32) × (magic ≢ request_magic)
StopsRequest now bytes (BadFlags flags) = ⊥
StopsRequest now bytes (TooBig length) = (w : Wanted) × FitsFields w
    × (bytes ≡ magic_bytes ++ fields_bytes w) × (w.kind ≡ write_type) × (w.length ≡ length) × (max_payload < length)
StopsRequest now bytes ReadFault = IsCutRequest bytes
StopsRequest now bytes WriteFault = ⊥

-- a request of these fields, with its payload at the front of a buffer
abbrev pub request_in : Wanted → List ℕ → Request
request_in w room = record { wanted = w; payload = take (payload_length w) room }

-- one request was taken, or the bytes that end the reading
abbrev pub ReadsRequest : Option (List ℕ) → Option (List ℕ) → Result Wanted NbdEnd → List ℕ → Type 0
ReadsRequest before now (Ok w) room = IsRequest (request_in w room)
    × Takes before now (request_bytes (request_in w room))
ReadsRequest before now (Err end) room = (bytes : List ℕ) × Takes before now bytes × StopsRequest now bytes end

-- the magic was taken, or the bytes that end the reading
abbrev pub ReadsMagic : Option (List ℕ) → Option (List ℕ) → Result Unit NbdEnd → Type 0
ReadsMagic before now (Ok done) = Takes before now magic_bytes
ReadsMagic before now (Err end) = (bytes : List ℕ) × Takes before now bytes × StopsRequest now bytes end

-- the fields behind the magic were taken, or fewer bytes
abbrev pub ReadsFields : Option (List ℕ) → Option (List ℕ) → Result Wanted NbdEnd → Type 0
ReadsFields before now (Ok w) = Takes before now (fields_bytes w) × FitsFields w
ReadsFields before now (Err (Cut got)) = (bytes : List ℕ) × Takes before now bytes × IsShort now 4 bytes 24 got
ReadsFields before now (Err ReadFault) = (bytes : List ℕ) × Takes before now bytes × (length bytes < 24)
ReadsFields before now (Err end) = ⊥

-- the payload behind magic and fields was taken, or fewer bytes; it is taken only where it isn't too long
abbrev pub ReadsPayload : Option (List ℕ) → Option (List ℕ) → Wanted → Result Unit NbdEnd → List ℕ → Type 0
ReadsPayload before now w (Ok done) room =
    Takes before now (take (payload_length w) room) × (payload_length w ≤ max_payload)
ReadsPayload before now w (Err (Cut got)) room =
    (bytes : List ℕ) × Takes before now bytes × IsShort now 28 bytes (payload_length w) got
    × (payload_length w ≤ max_payload)
ReadsPayload before now w (Err (TooBig length)) room =
    Takes before now [] × (w.kind ≡ write_type) × (w.length ≡ length) × (max_payload < length)
ReadsPayload before now w (Err ReadFault) room =
    (bytes : List ℕ) × Takes before now bytes × (length bytes < payload_length w) × (payload_length w ≤ max_payload)
ReadsPayload before now w (Err end) room = ⊥
