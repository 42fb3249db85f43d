use Rattle.std.proofs.Common.{arith, refl}
use Rattle.bench_disks.proofs.callers.caller_over.Goals as goal

-- the disk's geometry is one that a disk can have
pub new-requires-3 : goal.new-requires-3
unfolding lib.Count.ones
new-requires-3 g c =
    record { block_size = (omega arith, omega arith); power = refl; blocks = (omega arith, omega arith) }
