use Rattle.std.proofs.Common.{◌≡◌, None, replicate}
use Rattle.test_blocks.proofs.plain.Plain.new.Given as goal

abbrev pub invariant-loop-made : goal.invariant-loop-made
invariant-loop-made l = l.slots.items ≡ replicate l.made None
