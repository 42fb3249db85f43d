-- What reading a part of a message takes.
use Rattle.std.specs.Prelude.{ℕ, ◌≡◌, ◌≤◌, ◌<◌, ◌+◌, List, length, take, Option, Result, Ok, Err}
use Rattle.sb_world.specs.Streams.{Takes, IsAtEnd}
use Rattle.sb_nbd.specs.declared.end.NbdEnd.{NbdEnd}
use Rattle.sb_nbd.specs.declared.end.NbdEnd.TheVariants.{Cut, ReadFault}

-- so many bytes were taken, fewer than asked for only at the end; before a fault fewer were taken
abbrev pub Fills : {E : Type 0} → Option (List ℕ) → Option (List ℕ) → Result ℕ E → List ℕ → Type 0
Fills before now (Ok n) out = (n ≤ length out) × Takes before now (take n out) × (n < length out → IsAtEnd now)
Fills before now (Err fault) out = (taken : List ℕ) × Takes before now taken × (length taken < length out)

-- these bytes came behind so many others of their message, and the source's end cut them short of this length
pub record IsShort (now : Option (List ℕ)) (had : ℕ) (bytes : List ℕ) (whole got : ℕ) : Type 0 where
  pub short : length bytes < whole
  pub count : got ≡ had + length bytes
  pub ended : IsAtEnd now

-- a part of a message was taken whole, or cut, or before a fault fewer bytes of it
abbrev pub TakesPart : Option (List ℕ) → Option (List ℕ) → ℕ → Result Unit NbdEnd → List ℕ → Type 0
TakesPart before now had (Ok done) out = Takes before now out
TakesPart before now had (Err (Cut got)) out =
    (bytes : List ℕ) × Takes before now bytes × IsShort now had bytes (length out) got
TakesPart before now had (Err ReadFault) out =
    (bytes : List ℕ) × Takes before now bytes × (length bytes < length out)
TakesPart before now had (Err end) out = ⊥
