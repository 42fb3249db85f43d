-- What the laws ask of a history: by the rules and the policy, over a store that is stale only within delays that the
-- settings cover, and without MD5 collisions.
use Rattle.std.specs.Prelude.{ℕ, ◌≡◌, List, [], ◌∷◌, ◌++◌, Option, Some, None, Contains}
use Rattle.md5.specs.Md5.{md5}
use Rattle.sb_base.specs.declared.geometry.Geometry.{Geometry}
use Rattle.sb_base.specs.declared.settings.Settings.{Settings}
use Rattle.sb_base.specs.declared.entry.Shown.TheVariants as shown
use Rattle.sb_base.specs.declared.entry.EntryKind.{EntryKind}
use Rattle.sb_base.specs.declared.entry.EntryKind.TheVariants.{KnownZero, Read, Write, GetBegin, GetEnd, PutBegin}
use Rattle.sb_base.specs.declared.entry.EntryKind.TheVariants.{PutEnd, Dropped}
use Rattle.sb_base.specs.declared.entry.Entry.{Entry}
use Rattle.sb_history.specs.Contents.{Start, FillBlocks, zeros}
use Rattle.sb_history.specs.Visibility.{Delays, IsStaleWithin}
use Rattle.sb_history.specs.Cache.{Found}
use Rattle.sb_history.specs.Window.{CoversDelays}
use Rattle.sb_history.specs.AccessRules.{FollowsAccessRules}
use Rattle.sb_history.specs.CachePolicy.{FollowsCachePolicy}

-- what a cache file had, if anything
abbrev pub found_contents : Option (List ℕ) → List (List ℕ)
found_contents None = []
found_contents (Some content) = content ∷ []

-- the contents that the start and the cache file have of a block
abbrev pub block_contents : Start → Found → ℕ → List (List ℕ)
block_contents start found block = start block ∷ found_contents (found.body block)

-- the contents that an entry puts or shows, and those of its block
abbrev pub contents_in : Start → Found → EntryKind → List (List ℕ)
contents_in start found (KnownZero block) = block_contents start found block
contents_in start found (Read part bytes) = block_contents start found part.block
contents_in start found (Write part bytes) = block_contents start found part.block
contents_in start found (GetBegin block expect verify) = block_contents start found block
contents_in start found (GetEnd block (shown.Bytes bytes) verify taken) = bytes ∷ block_contents start found block
contents_in start found (GetEnd block answer verify taken) = block_contents start found block
contents_in start found (PutBegin block content) = content ∷ block_contents start found block
contents_in start found (PutEnd block ok) = block_contents start found block
contents_in start found (Dropped block) = block_contents start found block
contents_in start found kind = []

-- zeros, the contents that a history puts or shows, and those that its blocks began with
abbrev pub contents_of : ℕ → Start → Found → List Entry → List (List ℕ)
contents_of block_size start found [] = zeros block_size ∷ []
contents_of block_size start found (entry ∷ past) =
    contents_in start found entry.kind ++ contents_of block_size start found past

-- no MD5 collision: among these contents, equal digests come of equal contents
abbrev pub IsCollisionFree : ℕ → Start → Found → List Entry → Type 0
IsCollisionFree block_size start found past =
    (a b : List ℕ) → Contains (contents_of block_size start found past) a
    → Contains (contents_of block_size start found past) b → md5 a ≡ md5 b → a ≡ b

-- a history by the rules and the policy, over a store that is stale only within the delays, which the settings cover
pub record IsSoundHistory (geometry : Geometry) (settings : Settings) (found : Found) (start : Start) (delays : Delays)
    (past : List Entry) : Type 0 where
  pub sized : FillBlocks geometry.block_size start
  pub covers : CoversDelays settings delays
  pub rules : FollowsAccessRules geometry settings found past
  pub policy : FollowsCachePolicy geometry settings found past
  pub stale_within : IsStaleWithin geometry.block_size start delays past
  pub collision_free : IsCollisionFree geometry.block_size start found past

-- a disk without a window, which found nothing, over a store that shows the latest versions
pub record IsUnwindowed (geometry : Geometry) (settings : Settings) (found : Found) (start : Start) (past : List Entry)
    : Type 0 where
  pub sized : FillBlocks geometry.block_size start
  pub off : settings.md5_size ≡ 0
  pub nothing : (block : ℕ) → found.body block ≡ None
  pub rules : FollowsAccessRules geometry settings found past
  pub policy : FollowsCachePolicy geometry settings found past
  pub latest : IsStaleWithin geometry.block_size start (record { order = 0; show = 0 }) past
