use Rattle.bench_disks.specs.Callers.{MayCall}
use Rattle.bench_disks.proofs.mixed.call_often.Given as goal

-- the caller may go on
abbrev pub invariant-rounds : goal.invariant-rounds
invariant-rounds g l = record { may : MayCall l.disk l.caller }

abbrev pub invariant-flushes : goal.invariant-flushes
invariant-flushes g l = record { may : MayCall l.disk l.caller }
