use Rattle.test_blocks.specs.Choices.{rank_by, IsBestBelow}
use Rattle.test_blocks.proofs.plain.Plain.first.Given as goal

abbrev pub invariant-loop-block : goal.invariant-loop-block
invariant-loop-block l = IsBestBelow (rank_by l.fn.choice) l.fn.self.cached l.block l.best
