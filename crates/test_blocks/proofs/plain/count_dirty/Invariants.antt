use Rattle.std.proofs.Common.{◌≡◌, ◌≤◌, ◌+◌, length, drop}
use Rattle.std.specs.List.{filter}
use Rattle.sb_blocks.specs.Cached.{is_dirty, passes}
use Rattle.test_blocks.proofs.plain.count_dirty.Given as goal

abbrev pub invariant-loop-slot : goal.invariant-loop-slot
invariant-loop-slot l =
    (l.count ≤ l.slot-index)
    × (l.count + length (filter (passes is_dirty) (drop l.slot-index l.slots)) ≡ length (filter (passes is_dirty) l.slots))
