-- The access rules: which entries may follow a history, so that stale answers are refused and puts keep their spacing.
use Rattle.std.specs.Prelude.{ℕ, ◌≡◌, ◌+◌, ◌≤◌, Bool, true, false, List, [], ◌∷◌, length, Option, Some, None, min}
use Rattle.std.specs.List.{list_all}
use Rattle.sb_base.specs.declared.part.Part.{Part}
use Rattle.sb_base.specs.declared.geometry.Geometry.{Geometry}
use Rattle.sb_base.specs.declared.settings.Settings.{Settings}
use Rattle.sb_base.specs.declared.line.Expect.{Expect}
use Rattle.sb_base.specs.declared.entry.Shown.{Shown}
use Rattle.sb_base.specs.declared.entry.EntryKind.{EntryKind}
use Rattle.sb_base.specs.declared.entry.EntryKind.TheVariants.{KnownZero, Read, Write, FlushBegin, FlushDone, GetBegin}
use Rattle.sb_base.specs.declared.entry.EntryKind.TheVariants.{GetEnd, PutBegin, PutEnd}
use Rattle.sb_base.specs.declared.entry.Entry.{Entry}
use Rattle.sb_history.specs.Contents.{zeros, part_bytes}
use Rattle.sb_history.specs.Puts.{Put, puts_of, put_open}
use Rattle.sb_history.specs.Gets.{Fetch, fetch_of}
use Rattle.sb_history.specs.Flushes.{last_number, flushes_begun, flush_place}
use Rattle.sb_history.specs.Cache.{Found, is_known_zero, cached_content}
use Rattle.sb_history.specs.Writes.{unacked_writes, is_unstamped_by}
use Rattle.sb_history.specs.Window.{expected, answer_digest, SpacedFrom, HasRoom}

-- the reading of the newest entry
abbrev pub last_reading : List Entry → ℕ
last_reading [] = 0
last_reading (entry ∷ past) = entry.reading

-- an entry names a block that is known to be zeros
abbrev pub is_opening_kind : EntryKind → Bool
is_opening_kind (KnownZero block) = true
is_opening_kind kind = false

-- a history so far only names blocks that are known to be zeros
abbrev pub is_opening : List Entry → Bool
is_opening past = list_all (λ (entry : Entry). is_opening_kind entry.kind) past

-- a read carries what is cached, or zeros where nothing is and the block is known to be zeros
abbrev pub CarriesPart : ℕ → Option (List ℕ) → Bool → Part → List ℕ → Type 0
CarriesPart block_size (Some content) known_zero part bytes = bytes ≡ part_bytes content part
CarriesPart block_size None true part bytes = bytes ≡ part_bytes (zeros block_size) part
CarriesPart block_size None false part bytes = ⊥

-- a write of less than a block stands only where the rest is cached or the block is known to be zeros. No GET of the
-- block is open: its answer would hide the write.
pub record MayWrite (block_size : ℕ) (found : Found) (past : List Entry) (part : Part) (bytes : List ℕ) : Type 0 where
  pub no_get : fetch_of past part.block ≡ None
  pub fits : part.offset + length bytes ≤ block_size
  pub whole :
      cached_content block_size found past part.block ≡ None → is_known_zero block_size found past part.block ≡ false
      → (part.offset ≡ 0) × (length bytes ≡ block_size)

-- no block has an unacknowledged write from before the flush began
abbrev pub NoneStamped : ℕ → Found → List Entry → ℕ → Option ℕ → Type 0
NoneStamped block_size found past mark None = ⊥
NoneStamped block_size found past mark (Some place) =
    (block : ℕ) → is_unstamped_by mark place (unacked_writes block_size found past block) ≡ true

-- neither a GET nor a PUT of the block is open
abbrev pub IsIdle : List Entry → ℕ → Type 0
IsIdle past block = (fetch_of past block ≡ None) × (put_open past block ≡ false)

-- a GET begins with the digest that the window has
pub record BeginsGet (settings : Settings) (past : List Entry) (reading block : ℕ) (expect : Option Expect) : Type 0
  where
    pub idle_block : IsIdle past block
    pub expects : expect ≡ expected settings reading (puts_of past block)

-- an answer is taken only where it didn't fail and has the expected digest, if there is one
abbrev pub Matches : Option Expect → Option (List ℕ) → Type 0
Matches expect None = ⊥
Matches None (Some digest) = Unit {0}
Matches (Some expect) (Some digest) = digest ≡ expect.digest

-- an answer may be taken, or is not
abbrev pub MayTake : Option Expect → Option (List ℕ) → Bool → Type 0
MayTake expect digest true = Matches expect digest
MayTake expect digest false = Unit {0}

-- the end of a GET ends the one that is open, with its verify and its pass
abbrev pub EndsFetch : ℕ → Option Fetch → ℕ → Shown → Option (List ℕ) → Bool → Type 0
EndsFetch block_size None pass answer verify taken = ⊥
EndsFetch block_size (Some fetch) pass answer verify taken =
    (verify ≡ fetch.verify) × (pass ≡ fetch.pass) × MayTake fetch.expect (answer_digest block_size verify answer) taken

-- a PUT begins with what is cached, when the spacing is over and the window has room
pub record BeginsPut (geometry : Geometry) (settings : Settings) (found : Found) (past : List Entry) (reading block : ℕ)
    (content : List ℕ) : Type 0 where
  pub idle_block : IsIdle past block
  pub cached : cached_content geometry.block_size found past block ≡ Some content
  pub spaced : SpacedFrom settings.min_write_delay reading (puts_of past block)
  pub room : HasRoom geometry.blocks settings past reading block

-- the end of a PUT ends the one that is open, with its pass
abbrev pub EndsPut : List Put → ℕ → Type 0
EndsPut [] pass = ⊥
EndsPut (put ∷ puts) pass = (put.ending ≡ None) × (pass ≡ put.pass)

-- an entry of a pass and a reading may follow a history
abbrev pub MayFollow : Geometry → Settings → Found → List Entry → ℕ → ℕ → EntryKind → Type 0
MayFollow geometry settings found past pass reading (KnownZero block) =
    (is_opening past ≡ true) × (pass ≡ 0) × (reading ≡ 0)
MayFollow geometry settings found past pass reading (Read part bytes) =
    CarriesPart geometry.block_size (cached_content geometry.block_size found past part.block)
    (is_known_zero geometry.block_size found past part.block) part bytes
MayFollow geometry settings found past pass reading (Write part bytes) =
    MayWrite geometry.block_size found past part bytes
MayFollow geometry settings found past pass reading (FlushBegin mark) = mark ≡ min (flushes_begun past) last_number
MayFollow geometry settings found past pass reading (FlushDone mark) =
    NoneStamped geometry.block_size found past mark (flush_place past mark)
MayFollow geometry settings found past pass reading (GetBegin block expect verify) =
    BeginsGet settings past reading block expect
MayFollow geometry settings found past pass reading (GetEnd block answer verify taken) =
    EndsFetch geometry.block_size (fetch_of past block) pass answer verify taken
MayFollow geometry settings found past pass reading (PutBegin block content) =
    BeginsPut geometry settings found past reading block content
MayFollow geometry settings found past pass reading (PutEnd block ok) = EndsPut (puts_of past block) pass
MayFollow geometry settings found past pass reading kind = Unit {0}

-- each entry may follow its past, and readings never fall
abbrev pub FollowsAccessRules : Geometry → Settings → Found → List Entry → Type 0
FollowsAccessRules geometry settings found [] = Unit {0}
FollowsAccessRules geometry settings found (entry ∷ past) =
    MayFollow geometry settings found past entry.pass entry.reading entry.kind × (last_reading past ≤ entry.reading)
    × FollowsAccessRules geometry settings found past
