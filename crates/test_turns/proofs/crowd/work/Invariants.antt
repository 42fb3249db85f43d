use Rattle.std.proofs.Common.{◌≡◌, ◌+◌, ◌≤◌, length}
use Rattle.sb_turn.specs.Passes.{mine, IsPassOf, IsFree}
use Rattle.test_turns.proofs.crowd.work.Given as goal

abbrev pub invariant-loop : goal.invariant-loop
invariant-loop g l = (l.counter ≤ l.end) × (l.end ≡ l.initial.worker.turns) × IsPassOf l.turn l.worker.pass
    × IsFree l.worker.pass × (length (mine l.worker.pass) ≡ l.counter + length (mine l.initial.worker.pass))
