-- The rank of an entry in a choice, and the better of two.
use Rattle.std.specs.Prelude.{ℕ, ◌≡◌, ◌<◌, ◌≤◌, nat_le, if◌then◌else◌, Option, Some, None}
use Rattle.std.specs.FinMap.{get}
use Rattle.sb_blocks.specs.Caches.{CachedBlocks}
use Rattle.sb_blocks.specs.Orders.{Ranks, unused_rank, dirty_rank, writing_rank, rank_of}
use Rattle.test_blocks.specs.declared.choice.Choice.{Choice}
use Rattle.test_blocks.specs.declared.choice.Choice.TheVariants as choice

abbrev pub rank_by : Choice → Ranks
rank_by choice.Unused = unused_rank
rank_by (choice.Dirty after) = dirty_rank after
rank_by (choice.Writing mark) = writing_rank mark

-- the best rank before a block, unless the block's own is less
abbrev pub better : Option (ℕ × ℕ) → ℕ → Option ℕ → Option (ℕ × ℕ)
better best block None = best
better None block (Some rank) = Some (rank, block)
better (Some best) block (Some rank) = if nat_le best.0 rank then Some best else Some (rank, block)

-- of the first n blocks this is the best one with its rank, or none has a rank
abbrev pub IsBestBelow : Ranks → CachedBlocks → ℕ → Option (ℕ × ℕ) → Type 0
IsBestBelow ranks cached n None = (b : ℕ) → b < n → rank_of ranks b (get cached b) ≡ None
IsBestBelow ranks cached n (Some best) =
    (rank_of ranks best.1 (get cached best.1) ≡ Some best.0)
    × ((b theirs : ℕ) → b < n → rank_of ranks b (get cached b) ≡ Some theirs → best.0 ≤ theirs)
    × ((b : ℕ) → b < n → rank_of ranks b (get cached b) ≡ Some best.0 → best.1 ≤ b) × (best.1 < n)
