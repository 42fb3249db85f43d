-- The disk of all tests.
use Rattle.std.specs.Prelude.{◌≡◌}
use Rattle.sb_blocks.specs.Caches.{CacheState}

-- the table is one of eight blocks of eight bytes
pub record IsOver (cache : CacheState) : Type 0 where
  pub block_size : cache.geometry.block_size ≡ 8
  pub blocks : cache.geometry.blocks ≡ 8
