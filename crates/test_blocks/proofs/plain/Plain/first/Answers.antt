use Rattle.std.proofs.Common.{arith}
use Rattle.test_blocks.specs.Choices.{rank_by}
use Rattle.test_blocks.proofs.SlotLemmas.{none_beyond}
use Rattle.test_blocks.proofs.ChoiceLemmas.{best_of_all}
use Rattle.test_blocks.proofs.plain.Plain.first.Goals as goal

pub returns : goal.returns
returns c =
    best_of_all (rank_by c.args.choice) c.args.self.now.cached c.loop-block.block c.loop-block.best
    (λ b past. none_beyond c.self.inside.geometry c.self.inside.room c.self.inside.slots.items c.args.self.now c.self.view_is
    c.self.invariant b (omega (arith, past, c.loop-block-test.false))) c.loop-block.invariant
