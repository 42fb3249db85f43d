use Rattle.std.proofs.Common.{refl}
use Rattle.sb_world.specs.Calls.{fault_of}
use Rattle.sb_world.specs.declared.link.Call.TheVariants as call
use Rattle.sb_retry.specs.Transient.{own_fault}
use Rattle.sb_retry.proofs.Loops.{stands_first, stands_next, stands_last}
use Rattle.sb_retry.proofs.retry.RetryLink.delete.Goals as goal

pub attempts-init : goal.attempts-init
attempts-init g c = stands_first (call.Delete c.args.name.now) own_fault c.args.self.now

pub returns-then-not-tries_again-clause-tries : goal.returns-then-not-tries_again-clause-tries
returns-then-not-tries_again-clause-tries g c =
    stands_last c.attempts.invariant (fault_of c.delete-answer.result) refl c.delete-answer.ensures.told
    c.if-not-tries_again.ensures.decides c.tries_again.ensures.stays

pub attempts-preserved : goal.attempts-preserved
attempts-preserved g c =
    stands_next c.attempts.invariant (fault_of c.delete-answer.result) refl c.delete-answer.ensures.told
    c.delete-answer.ensures.cause c.if-not-tries_again.ensures.decides c.tries_again.ensures.stays
