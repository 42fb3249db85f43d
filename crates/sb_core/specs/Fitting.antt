-- How the cache of a core goes with its other fields.
use Rattle.std.specs.Prelude.{ℕ, ◌≡◌, ◌<◌, ◌≤◌, Bool, true, false, Option, Some, None, is_some}
use Rattle.std.specs.FinMap.{get, len}
use Rattle.sb_base.specs.declared.geometry.Geometry.{Geometry}
use Rattle.sb_base.specs.declared.settings.Settings.{Settings}
use Rattle.sb_blocks.specs.declared.cached.OpenGet.{OpenGet}
use Rattle.sb_blocks.specs.Cached.{get_in}
use Rattle.sb_blocks.specs.Caches.{CachedBlocks, CacheState}

-- a GET has to show a digest
abbrev pub has_expect : Option OpenGet → Bool
has_expect None = false
has_expect (Some get_) = is_some get_.expect

-- a cache is that of a disk: it has its sizes and some room, its entries fit and are of blocks of the disk
pub record IsCacheOf (geometry : Geometry) (settings : Settings) (cache : CacheState) : Type 0 where
  pub block_size : cache.geometry.block_size ≡ geometry.block_size
  pub blocks : cache.geometry.blocks ≡ geometry.blocks
  pub room : cache.room ≡ settings.cache_size
  pub some : 0 < cache.room
  pub fits : len cache.cached ≤ cache.room
  pub on_disk : (block : ℕ) → is_some (get cache.cached block) ≡ true → block < geometry.blocks

-- without a window no GET has to show a digest
abbrev pub ExpectsNone : Settings → CachedBlocks → Type 0
ExpectsNone settings cached = settings.md5_size ≡ 0 → (block : ℕ) → has_expect (get_in (get cached block)) ≡ false
