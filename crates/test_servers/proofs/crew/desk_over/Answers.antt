use Rattle.std.proofs.Common.{arith, refl}
use Rattle.test_servers.proofs.crew.desk_over.Goals as goal

-- the disk's geometry is one that a disk can have
pub new-requires : goal.new-requires
unfolding lib.Count.ones
new-requires g c =
    record { block_size = (omega arith, omega arith); power = refl; blocks = (omega arith, omega arith) }
