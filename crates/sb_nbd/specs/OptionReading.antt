-- What reading an option takes, and how it ends.
use Rattle.std.specs.Prelude.{ℕ, ◌≡◌, ◌≢◌, ◌≤◌, ◌<◌, ◌^◌, ◌⊎◌, List, [], ◌++◌, length, take, Option, Result, Ok, Err}
use Rattle.std.specs.Int.{w64, to_be_bytes}
use Rattle.sb_world.specs.Streams.{Takes, IsAtEnd}
use Rattle.sb_nbd.specs.declared.option.Asked.{Asked}
use Rattle.sb_nbd.specs.Numbers.{max_option, option_magic}
use Rattle.sb_nbd.specs.declared.end.NbdEnd.{NbdEnd}
use Rattle.sb_nbd.specs.declared.end.NbdEnd.TheVariants.{Ended, Cut, BadMagic, BadFlags, TooBig, ReadFault, WriteFault}
use Rattle.sb_nbd.specs.Pieces.{IsShort}
use Rattle.sb_nbd.specs.Options as options

-- bytes that begin an option and are no whole one: too few for the magic, for the head, or for the payload
abbrev pub IsCutOption : List ℕ → Type 0
IsCutOption bytes =
    (length bytes < 8)
    ⊎ (((head : List ℕ) × (bytes ≡ options.option_magic_bytes ++ head) × (length head < 8))
    ⊎ ((a : Asked) × (payload : List ℕ) × options.FitsHead a
    × (bytes ≡ options.option_magic_bytes ++ (options.head_bytes a ++ payload))
    × (length payload < a.length) × (a.length ≤ max_option)))

-- the bytes in an option's place, of which no more were taken, end the reading so
abbrev pub StopsOption : Option (List ℕ) → List ℕ → NbdEnd → Type 0
StopsOption now bytes Ended = (bytes ≡ []) × IsAtEnd now
StopsOption now bytes (Cut got) = (length bytes ≡ got) × (0 < got) × IsCutOption bytes × IsAtEnd now
StopsOption now bytes (BadMagic magic) = (bytes ≡ to_be_bytes w64 magic) × (magic < 2 ^ 64) × (magic ≢ option_magic)
StopsOption now bytes (BadFlags flags) = ⊥
StopsOption now bytes (TooBig length) = (a : Asked) × options.FitsHead a
    × (bytes ≡ options.option_magic_bytes ++ options.head_bytes a) × (a.length ≡ length) × (max_option < length)
StopsOption now bytes ReadFault = IsCutOption bytes
StopsOption now bytes WriteFault = ⊥

-- an option of this head, with its payload at the front of a buffer
abbrev pub option_in : Asked → List ℕ → options.Option
option_in a room = record { asked = a; payload = take a.length room }

-- one option was taken, or the bytes that end the reading
abbrev pub ReadsOption : Option (List ℕ) → Option (List ℕ) → Result Asked NbdEnd → List ℕ → Type 0
ReadsOption before now (Ok a) room = options.IsOption (option_in a room)
    × Takes before now (options.option_bytes (option_in a room))
ReadsOption before now (Err end) room = (bytes : List ℕ) × Takes before now bytes × StopsOption now bytes end

-- the magic was taken, or the bytes that end the reading
abbrev pub ReadsOptionMagic : Option (List ℕ) → Option (List ℕ) → Result Unit NbdEnd → Type 0
ReadsOptionMagic before now (Ok done) = Takes before now options.option_magic_bytes
ReadsOptionMagic before now (Err end) = (bytes : List ℕ) × Takes before now bytes × StopsOption now bytes end

-- the head behind the magic was taken, or fewer bytes
abbrev pub ReadsHead : Option (List ℕ) → Option (List ℕ) → Result Asked NbdEnd → Type 0
ReadsHead before now (Ok a) = Takes before now (options.head_bytes a) × options.FitsHead a
ReadsHead before now (Err (Cut got)) = (bytes : List ℕ) × Takes before now bytes × IsShort now 8 bytes 8 got
ReadsHead before now (Err ReadFault) = (bytes : List ℕ) × Takes before now bytes × (length bytes < 8)
ReadsHead before now (Err end) = ⊥

-- the payload behind magic and head was taken, or fewer bytes; it is taken only where it isn't too long
abbrev pub ReadsOptionPayload : Option (List ℕ) → Option (List ℕ) → Asked → Result Unit NbdEnd → List ℕ → Type 0
ReadsOptionPayload before now a (Ok done) room = Takes before now (take a.length room) × (a.length ≤ max_option)
ReadsOptionPayload before now a (Err (Cut got)) room =
    (bytes : List ℕ) × Takes before now bytes × IsShort now 16 bytes a.length got × (a.length ≤ max_option)
ReadsOptionPayload before now a (Err (TooBig length)) room =
    Takes before now [] × (a.length ≡ length) × (max_option < length)
ReadsOptionPayload before now a (Err ReadFault) room =
    (bytes : List ℕ) × Takes before now bytes × (length bytes < a.length) × (a.length ≤ max_option)
ReadsOptionPayload before now a (Err end) room = ⊥
