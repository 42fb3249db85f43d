use Rattle.test_blocks.specs.Looks.{IsOver}
use Rattle.test_blocks.proofs.tests.led.Given as goal

abbrev pub invariant-loop-call : goal.invariant-loop-call
invariant-loop-call l = IsOver l.blocks
