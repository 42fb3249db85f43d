use Rattle.std.specs.Prelude.{◌≡◌, All}
use Rattle.sb_crew.specs.SharedDisks.{fixed_of_disk, MayUse}
use Rattle.bench_disks.specs.Callers.{MayCall}
use Rattle.bench_disks.proofs.reads.crew_of.Given as goal

-- the pass may go on, and so may each caller
abbrev pub invariant-callers : goal.invariant-callers
invariant-callers g l = record {
  pass : MayUse l.disk l.pass;
  crew : All (MayCall l.disk) l.crew.items;
}
