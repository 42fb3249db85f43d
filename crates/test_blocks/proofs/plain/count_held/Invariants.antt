use Rattle.std.proofs.Common.{◌≡◌, ◌≤◌, ◌+◌, length, drop, is_some}
use Rattle.std.specs.List.{filter}
use Rattle.test_blocks.proofs.plain.count_held.Given as goal

abbrev pub invariant-loop-slot : goal.invariant-loop-slot
invariant-loop-slot l =
    (l.count ≤ l.slot-index)
    × (l.count + length (filter is_some (drop l.slot-index l.slots)) ≡ length (filter is_some l.slots))
