use Rattle.std.proofs.Common.{refl}
use Rattle.sb_world.specs.Calls.{fault_of}
use Rattle.sb_world.specs.declared.link.Call.TheVariants as call
use Rattle.sb_retry.specs.Transient.{own_fault}
use Rattle.sb_retry.proofs.Loops.{stands_first, stands_next, stands_last}
use Rattle.sb_retry.proofs.retry.RetryLink.put.Goals as goal

pub attempts-init : goal.attempts-init
attempts-init g c = stands_first (call.Put c.args.name.now c.args.body.now c.args.meta) own_fault c.args.self.now

pub returns-then-not-tries_again-clause-tries : goal.returns-then-not-tries_again-clause-tries
returns-then-not-tries_again-clause-tries g c =
    stands_last c.attempts.invariant (fault_of c.put-answer.result) refl c.put-answer.ensures.told
    c.if-not-tries_again.ensures.decides c.tries_again.ensures.stays

pub attempts-preserved : goal.attempts-preserved
attempts-preserved g c =
    stands_next c.attempts.invariant (fault_of c.put-answer.result) refl c.put-answer.ensures.told
    c.put-answer.ensures.cause c.if-not-tries_again.ensures.decides c.tries_again.ensures.stays
