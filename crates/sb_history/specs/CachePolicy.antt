-- The cache policy: no more blocks than the cache holds, GETs only of what isn't known, drops of the victim, and puts
-- that are due.
use Rattle.std.specs.Prelude.{ℕ, ◌≡◌, ◌≢◌, ◌+◌, ◌<◌, ◌≤◌, ◌⊎◌, Bool, true, false, List, [], ◌∷◌, Option, Some, None}
use Rattle.std.specs.Prelude.{Contains}
use Rattle.md5.specs.Md5.{md5}
use Rattle.sb_base.specs.declared.geometry.Geometry.{Geometry}
use Rattle.sb_base.specs.declared.settings.Settings.{Settings}
use Rattle.sb_base.specs.declared.entry.EntryKind.{EntryKind}
use Rattle.sb_base.specs.declared.entry.EntryKind.TheVariants.{GetBegin, PutBegin, Dropped}
use Rattle.sb_base.specs.declared.entry.Entry.{Entry}
use Rattle.sb_history.specs.Contents.{is_zeros}
use Rattle.sb_history.specs.Puts.{Ending, Put, puts_of}
use Rattle.sb_history.specs.Cache.{Found, is_known_zero, cached_content}
use Rattle.sb_history.specs.Writes.{unacked_writes, is_dirty, dirty_since, is_stamped}
use Rattle.sb_history.specs.Eviction.{is_unverified, is_occupied, last_use, count, victim_of}

-- the digest of the body that is to be verified
abbrev pub verified : Option (List ℕ) → Bool → Option (List ℕ)
verified (Some content) true = Some (md5 content)
verified (Some content) false = None
verified None unverified = None

-- a GET is of a block that is neither cached nor known to be zeros, and asks about the body that is to be verified
pub record FetchesUnknown (block_size : ℕ) (found : Found) (past : List Entry) (block : ℕ) (verify : Option (List ℕ)) :
    Type 0 where
  pub unknown : cached_content block_size found past block ≡ None
  pub not_zero : is_known_zero block_size found past block ≡ false
  pub verifies : verify ≡ verified (found.body block) (is_unverified found past block)

-- all entries of the cache are taken
abbrev pub IsFull : Geometry → Settings → Found → List Entry → Type 0
IsFull geometry settings found past =
    count (is_occupied geometry.block_size found past) geometry.blocks ≡ settings.cache_size

-- a block is verified and was not used for the clean time, where there is one
pub record IsUnused (settings : Settings) (found : Found) (past : List Entry) (reading block : ℕ) : Type 0 where
  pub timed : settings.clean_time ≢ 0
  pub verified_block : is_unverified found past block ≡ false
  pub old : (last_use past block).reading + settings.clean_time ≤ reading

-- a drop is of the victim, where the cache is full or the victim unused
pub record DropsVictim (geometry : Geometry) (settings : Settings) (found : Found) (past : List Entry)
    (reading block : ℕ) : Type 0 where
  pub is_victim : victim_of geometry.block_size geometry.blocks found past ≡ Some block
  pub due : IsFull geometry settings found past ⊎ IsUnused settings found past reading block

-- the block is dirty for the write delay
abbrev pub IsAged : Geometry → Settings → Found → List Entry → ℕ → ℕ → Type 0
IsAged geometry settings found past reading block =
    dirty_since geometry.block_size found past block + settings.write_delay ≤ reading

-- a flush has to wait for the block
abbrev pub IsFlushed : Geometry → Found → List Entry → ℕ → Type 0
IsFlushed geometry found past block = (mark : ℕ) × (is_stamped geometry.block_size found past mark block ≡ true)

-- all entries of the cache are taken, and none can be dropped
abbrev pub HasNoVictim : Geometry → Settings → Found → List Entry → Type 0
HasNoVictim geometry settings found past =
    IsFull geometry settings found past × (victim_of geometry.block_size geometry.blocks found past ≡ None)

-- as many blocks are dirty as may be, where there is a limit
abbrev pub IsTooDirty : Geometry → Settings → Found → List Entry → Type 0
IsTooDirty geometry settings found past =
    (settings.max_dirty ≢ 0) × (settings.max_dirty ≤ count (is_dirty geometry.block_size found past) geometry.blocks)

-- a write came before this end
abbrev pub CameDuring : Option Ending → ℕ → Type 0
CameDuring None write = Unit {0}
CameDuring (Some ending) write = write < ending.place

-- an unacknowledged write came while a put of the block was open
abbrev pub WrittenDuringPut : ℕ → Found → List Entry → ℕ → Type 0
WrittenDuringPut block_size found past block =
    (write : ℕ) × (put : Put) × Contains (unacked_writes block_size found past block) write
    × Contains (puts_of past block) put × (put.place < write) × CameDuring put.ending write

-- a put is of a dirty block and due, and zeros are put over known zeros only where a write came during a put
pub record PutsDirty (geometry : Geometry) (settings : Settings) (found : Found) (past : List Entry) (reading block : ℕ)
    (content : List ℕ) : Type 0 where
  pub dirty : is_dirty geometry.block_size found past block ≡ true
  pub due : IsAged geometry settings found past reading block ⊎ IsFlushed geometry found past block
      ⊎ HasNoVictim geometry settings found past ⊎ IsTooDirty geometry settings found past
  pub needed : is_zeros content ≡ true → is_known_zero geometry.block_size found past block ≡ true
      → WrittenDuringPut geometry.block_size found past block

-- the policy lets an entry at a reading follow a history
abbrev pub ObeysPolicy : Geometry → Settings → Found → List Entry → ℕ → EntryKind → Type 0
ObeysPolicy geometry settings found past reading (GetBegin block expect verify) =
    FetchesUnknown geometry.block_size found past block verify
ObeysPolicy geometry settings found past reading (Dropped block) =
    DropsVictim geometry settings found past reading block
ObeysPolicy geometry settings found past reading (PutBegin block content) =
    PutsDirty geometry settings found past reading block content
ObeysPolicy geometry settings found past reading kind = Unit {0}

-- no more blocks are occupied than the cache has entries
abbrev pub FitsCache : Geometry → Settings → Found → List Entry → Type 0
FitsCache geometry settings found past =
    count (is_occupied geometry.block_size found past) geometry.blocks ≤ settings.cache_size

-- the policy lets each entry follow its past, and the cache is never too full
abbrev pub FollowsCachePolicy : Geometry → Settings → Found → List Entry → Type 0
FollowsCachePolicy geometry settings found [] = FitsCache geometry settings found []
FollowsCachePolicy geometry settings found (entry ∷ past) =
    ObeysPolicy geometry settings found past entry.reading entry.kind × FitsCache geometry settings found (entry ∷ past)
    × FollowsCachePolicy geometry settings found past
