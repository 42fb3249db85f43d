use Rattle.bench_disks.specs.Callers.{MayCall}
use Rattle.bench_disks.proofs.reads.read_often.Given as goal

-- the caller may go on
abbrev pub invariant-rounds : goal.invariant-rounds
invariant-rounds g l = record { may : MayCall l.disk l.caller }
