-- The lines of a listing's blocks.
use Rattle.std.specs.Prelude.{ℕ, ◌≡◌, Bool, List, [], ◌∷◌, ◌++◌, length, Option, Some, None, Result, Ok, Err}
use Rattle.sb_world.specs.Streams.{Holds}
use Rattle.sb_world.specs.Told.{Gains}
use Rattle.sb_world.specs.declared.link.Call.{Call}
use Rattle.sb_names.specs.Names.{digits_of}
use Rattle.sb_tools.specs.Blocks.{block_of, blocks_in}
use Rattle.sb_tools.specs.Listings.{Listed, IsBroken, IsListing, IsWhole, calls_of, names_of}
use Rattle.sb_tools.specs.declared.fault.ToolFault.{ToolFault}
use Rattle.sb_tools.specs.declared.fault.ToolFault.TheVariants as fault

-- the line of a block: its digits and a line end; no line where there is none
abbrev pub line_of : Option ℕ → List ℕ
line_of None = []
line_of (Some block) = digits_of block ++ 10 ∷ []

-- how many lines that is
abbrev pub lines_of : Option ℕ → ℕ
lines_of None = 0
lines_of (Some block) = 1

-- the lines of the blocks whose objects have these names, in their order
abbrev pub lines_in : List ℕ → Bool → List (List ℕ) → List ℕ
lines_in prefix hashed [] = []
lines_in prefix hashed (name ∷ names) = line_of (block_of prefix hashed name) ++ lines_in prefix hashed names

-- only a front of these bytes was written
pub record HoldsFront (before now : Option (List ℕ)) (bytes : List ℕ) : Type 0 where
  pub front : List ℕ
  pub behind : List ℕ
  pub cut : bytes ≡ front ++ behind
  pub wrote : Holds before now front

-- these lines, so many, were written, or a front of them before the output failed
abbrev pub ShowsLines : List ℕ → ℕ → Option (List ℕ) → Option (List ℕ) → Result ℕ ToolFault → Type 0
ShowsLines lines count before now (Ok shown) = (shown ≡ count) × Holds before now lines
ShowsLines lines count before now (Err failed) = (failed ≡ fault.OutputFault) × HoldsFront before now lines

-- a link and an output, by what they tell
pub record Scene : Type 0 where
  pub log : Option (List Call)
  pub held : Option (List ℕ)

-- these requests were made, and the lines of these pages were written
pub record ShowsPages (prefix : List ℕ) (hashed : Bool) (before now : Scene) (pages : List Listed) (calls : List Call)
    : Type 0 where
  pub asked : Gains before.log now.log calls
  pub wrote : Holds before.held now.held (lines_in prefix hashed (names_of pages))

-- a listing was shown from end to end
pub record ShowsAll (prefix : List ℕ) (hashed : Bool) (before now : Scene) (shown : ℕ) : Type 0 where
  pub pages : List Listed
  pub calls : List Call
  pub whole : IsWhole prefix pages calls
  pub shows : ShowsPages prefix hashed before now pages calls
  pub count : shown ≡ length (blocks_in prefix hashed (names_of pages))

-- the listing broke off, and the pages before were shown
pub record ShowsUntil (prefix : List ℕ) (hashed : Bool) (before now : Scene) (failed : ToolFault) : Type 0 where
  pub pages : List Listed
  pub calls : List Call
  pub broken : IsBroken prefix failed pages calls
  pub shows : ShowsPages prefix hashed before now pages calls

-- the output failed in the lines of the newest page, and nothing more was asked for
pub record FailsToShow (prefix : List ℕ) (hashed : Bool) (before now : Scene) : Type 0 where
  pub page : Listed
  pub older : List Listed
  pub listing : IsListing (page ∷ older)
  pub asked : Gains before.log now.log (calls_of prefix (page ∷ older))
  pub front : List ℕ
  pub behind : List ℕ
  pub cut : lines_in prefix hashed page.names ≡ front ++ behind
  pub wrote : Holds before.held now.held (lines_in prefix hashed (names_of older) ++ front)

-- the blocks of a listing were shown, or not, each with its cause
abbrev pub Shows : List ℕ → Bool → Scene → Scene → Result ℕ ToolFault → Type 0
Shows prefix hashed before now (Ok shown) = ShowsAll prefix hashed before now shown
Shows prefix hashed before now (Err fault.OutputFault) = FailsToShow prefix hashed before now
Shows prefix hashed before now (Err failed) = ShowsUntil prefix hashed before now failed
