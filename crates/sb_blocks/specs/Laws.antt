-- Laws of a cache, for what stands on it.
use Rattle.std.specs.Prelude.{ℕ, ◌≡◌, ◌≢◌, ◌<◌, ◌≤◌, ◌+◌, Bool, true, Option, Some, None, is_some}
use Rattle.std.specs.FinMap.{get, insert, remove, len}
use Rattle.sb_rows.specs.Rows.{one_if}
use Rattle.sb_history.specs.Eviction.{count, lightest}
use Rattle.sb_blocks.specs.declared.cached.State.{State}
use Rattle.sb_blocks.specs.declared.cached.Cached.{Cached}
use Rattle.sb_blocks.specs.Cached.{passes, is_clean}
use Rattle.sb_blocks.specs.Caches.{CachedBlocks, count_in}
use Rattle.sb_blocks.specs.Orders.{unused_rank, FirstBlockIs}

-- what the cache has of a block after the block's entry was set, and every other block as before
abbrev pub SetsOne : Type 0
SetsOne =
    (cached : CachedBlocks) (block : ℕ) (entry : Cached) → (get (insert cached block entry) block ≡ Some entry)
    × ((other : ℕ) → other ≢ block → get (insert cached block entry) other ≡ get cached other)

-- and after it was removed
abbrev pub RemovesOne : Type 0
RemovesOne =
    (cached : CachedBlocks) (block : ℕ) → (get (remove cached block) block ≡ None)
    × ((other : ℕ) → other ≢ block → get (remove cached block) other ≡ get cached other)

-- how many blocks have an entry after each change
abbrev pub CountsHeld : Type 0
CountsHeld =
    (cached : CachedBlocks) (block : ℕ) (entry : Cached)
    → (len (insert cached block entry) + one_if (is_some (get cached block)) ≡ len cached + 1)
    × (len (remove cached block) + one_if (is_some (get cached block)) ≡ len cached)

-- and how many of them pass a test, as that of being dirty
abbrev pub CountsPassing : Type 0
CountsPassing =
    (test : State → Bool) (cached : CachedBlocks) (block : ℕ) (entry : Cached)
    → (count_in test (insert cached block entry) + one_if (passes test (get cached block))
    ≡ count_in test cached + one_if (test entry.state))
    × (count_in test (remove cached block) + one_if (passes test (get cached block)) ≡ count_in test cached)

-- the entries are of the first blocks
abbrev pub OnDisk : ℕ → CachedBlocks → Type 0
OnDisk blocks cached = (block : ℕ) → is_some (get cached block) ≡ true → block < blocks

-- a cache with an entry for each block has a free one for a block without an entry
abbrev pub FreeForEach : Type 0
FreeForEach =
    (blocks room : ℕ) (cached : CachedBlocks) (block : ℕ) → blocks ≤ room → OnDisk blocks cached → block < blocks
    → get cached block ≡ None → len cached < room

-- the blocks whose entry passes a test, counted block by block
abbrev pub CountsEach : Type 0
CountsEach =
    (test : State → Bool) (cached : CachedBlocks) (blocks : ℕ) → OnDisk blocks cached
    → count (λ block. passes test (get cached block)) blocks ≡ count_in test cached

-- the place of the last use of a block
abbrev pub use_place : Option Cached → ℕ
use_place None = 0
use_place (Some entry) = entry.last.place

-- the victim is the clean block of least use, the lowest at a tie, searched block by block
abbrev pub VictimIsLightest : Type 0
VictimIsLightest =
    (cached : CachedBlocks) (blocks : ℕ) (victim : Option ℕ) → OnDisk blocks cached
    → FirstBlockIs unused_rank cached victim
    → lightest (λ block. passes is_clean (get cached block)) (λ block. use_place (get cached block)) blocks ≡ victim
