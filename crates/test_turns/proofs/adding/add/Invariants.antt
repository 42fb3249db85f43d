use Rattle.std.proofs.Common.{[], ◌∷◌}
use Rattle.test_turns.proofs.adding.add.Given as goal

abbrev pub ghosts-leave_with : goal.ghosts-leave_with
ghosts-leave_with g a = record { made = (a.pass.now.seat.me.0.number, a.amount) ∷ [] }
