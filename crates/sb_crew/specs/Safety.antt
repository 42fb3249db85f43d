-- What the history of a disk that follows the rules and the policy is over a store that is stale only within delays.
use Rattle.std.specs.Prelude.{List}
use Rattle.sb_base.specs.declared.entry.Entry.{Entry}
use Rattle.sb_history.specs.Contents.{Start, FillBlocks}
use Rattle.sb_history.specs.Values.{IsLegal}
use Rattle.sb_history.specs.Visibility.{Delays, IsStaleWithin}
use Rattle.sb_history.specs.Durability.{FlushesAreDurable, IsCrashDurable}
use Rattle.sb_history.specs.Window.{CoversDelays}
use Rattle.sb_history.specs.Soundness.{IsCollisionFree}
use Rattle.sb_history.specs.AccessRules.{FollowsAccessRules}
use Rattle.sb_history.specs.CachePolicy.{FollowsCachePolicy}
use Rattle.sb_core.specs.declared.standing.Fixed.{Fixed}
use Rattle.sb_core.specs.Represents.{nothing_found}

-- the store shows old versions and keeps puts apart only within delays that the settings cover, and no MD5s collide
pub record IsWithinDelays (fixed : Fixed) (start : Start) (delays : Delays) (past : List Entry) : Type 0 where
  pub sized : FillBlocks fixed.geometry.block_size start
  pub covers : CoversDelays fixed.settings delays
  pub stale_within : IsStaleWithin fixed.geometry.block_size start delays past
  pub collision_free : IsCollisionFree fixed.geometry.block_size start nothing_found past

-- a history follows the rules and the policy; from every start, and over every store that is within delays, each read
-- is that of a register, each flush that is done has saved what was written before it, and a crash at any moment leaves
-- what was written since the last one
pub record IsSafe (fixed : Fixed) (past : List Entry) : Type 0 where
  pub rules : FollowsAccessRules fixed.geometry fixed.settings nothing_found past
  pub policy : FollowsCachePolicy fixed.geometry fixed.settings nothing_found past
  pub legal : (start : Start) (delays : Delays) → IsWithinDelays fixed start delays past → IsLegal start past
  pub durable : (start : Start) (delays : Delays) → IsWithinDelays fixed start delays past
      → FlushesAreDurable start past
  pub survives : (start : Start) (delays : Delays) → IsWithinDelays fixed start delays past
      → IsCrashDurable start past
