use Rattle.std.proofs.Common.{◌≤◌}
use Rattle.test_blocks.specs.Looks.{IsOver}
use Rattle.test_blocks.proofs.tests.played.Given as goal

abbrev pub invariant-loop-turn : goal.invariant-loop-turn
invariant-loop-turn l = IsOver l.blocks × IsOver l.plain × (l.had ≤ l.turn)
