-- A slot for each block, and the finite map of those that have an entry.
use Rattle.std.specs.Prelude.{ℕ, ◌≡◌, ◌≤◌, ◌+◌, List, [], ◌∷◌, Option, Some, None, length}
use Rattle.std.specs.FinMap.{from_sorted, len}
use Rattle.sb_base.specs.declared.geometry.Geometry.{Geometry}
use Rattle.sb_blocks.specs.declared.cached.Cached.{Cached}
use Rattle.sb_blocks.specs.Caches.{CachedBlocks, CacheState}

-- a row for a slot that has an entry, in front of others
abbrev pub with_slot : ℕ → Option Cached → List (ℕ × Cached) → List (ℕ × Cached)
with_slot block None rows = rows
with_slot block (Some entry) rows = (block, entry) ∷ rows

-- the rows of slots, from a block on
abbrev pub rows_from : ℕ → List (Option Cached) → List (ℕ × Cached)
rows_from block [] = []
rows_from block (slot ∷ slots) = with_slot block slot (rows_from (block + 1) slots)

abbrev pub cached_of : List (Option Cached) → CachedBlocks
cached_of slots = from_sorted (rows_from 0 slots)

-- the cache of such slots
abbrev pub cache_of : Geometry → ℕ → List (Option Cached) → CacheState
cache_of geometry room slots = record { geometry = geometry; room = room; cached = cached_of slots }

-- a body is one block long
abbrev pub FitsSlot : ℕ → Option Cached → Type 0
FitsSlot size None = Unit {0}
FitsSlot size (Some entry) = length entry.body ≡ size

-- each body is
abbrev pub AllFit : ℕ → List (Option Cached) → Type 0
AllFit size [] = Unit {0}
AllFit size (slot ∷ slots) = FitsSlot size slot × AllFit size slots

-- a slot for each block, each body is one block long, and there is room for all
pub record AreSlots (geometry : Geometry) (room : ℕ) (slots : List (Option Cached)) : Type 0 where
  pub each : length slots ≡ geometry.blocks
  pub fit : AllFit geometry.block_size slots
  pub enough : len (cached_of slots) ≤ room
