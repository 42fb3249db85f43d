use Rattle.std.proofs.Common.{arith, refl}
use Rattle.bench_disks.proofs.disks.disk_with.Goals as goal

-- the disk's geometry is one that a disk can have
pub new-requires-2-clause-sound : goal.new-requires-2-clause-sound
unfolding lib.Count.ones
new-requires-2-clause-sound c =
    record { block_size = (omega arith, omega arith); power = refl; blocks = (omega arith, omega arith) }
