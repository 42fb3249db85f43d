use Rattle.std.proofs.Common.{arith, refl, sym, subst}
use Rattle.sb_base.specs.Shapes.{IsSound}
use Rattle.test_servers.proofs.crew.serve_crew.Goals as goal

-- the disk's geometry is one that a disk can have
pub serve_all-requires-clause-sound : goal.serve_all-requires-clause-sound
unfolding lib.Count.ones
serve_all-requires-clause-sound g c lifetimes outlive =
    subst IsSound (sym c.requires.geometry)
    (record { block_size = (omega arith, omega arith); power = refl; blocks = (omega arith, omega arith) })
