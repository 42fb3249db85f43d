use Rattle.std.proofs.Common.{arith, refl}
use Rattle.sb_core.proofs.trials.known_disk.Goals as goal

pub new-requires-clause-sound : goal.new-requires-clause-sound
unfolding lib.Count.ones
new-requires-clause-sound c =
    record { block_size = (omega arith, omega arith); power = refl; blocks = (omega arith, omega arith) }
