use Rattle.std.proofs.Common.{◌≡◌, ◌≤◌, All, length}
use Rattle.sb_turn.specs.Passes.{IsPassOf, IsFree}
use Rattle.test_turns.specs.Workers.{IsReady, HasTask}
use Rattle.test_turns.proofs.crowd.crew_of.Given as goal

abbrev pub invariant-loop : goal.invariant-loop
invariant-loop g l = (l.counter ≤ l.count) × IsPassOf l.turn l.pass × IsFree l.pass
    × All (IsReady l.turn) l.crew.items × (length l.crew.items ≡ l.counter) × All (HasTask l.turns) l.crew.items
