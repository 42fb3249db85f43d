use Rattle.test_disks.specs.Callers.{MayCall}
use Rattle.test_disks.proofs.callers.play.Given as goal

-- the caller may go on
abbrev pub invariant-rounds : goal.invariant-rounds
invariant-rounds g l = record { may : MayCall l.disk l.caller }
