use Rattle.sb_world.specs.Calls.{head_reply}
use Rattle.sb_world.specs.declared.link.Call.TheVariants as call
use Rattle.sb_retry.specs.Transient.{head_fault}
use Rattle.sb_retry.proofs.Loops.{headed_fault, stands_first, stands_next, stands_last}
use Rattle.sb_retry.proofs.retry.RetryLink.head.Goals as goal

pub attempts-init : goal.attempts-init
attempts-init g c = stands_first (call.Head c.args.name.now) head_fault c.args.self.now

pub returns-then-not-tries_again-clause-tries : goal.returns-then-not-tries_again-clause-tries
returns-then-not-tries_again-clause-tries g c =
    stands_last c.attempts.invariant (head_reply c.head-answer.result) (headed_fault c.head-answer.result) c.head-answer.ensures.told
    c.if-not-tries_again.ensures.decides c.tries_again.ensures.stays

pub attempts-preserved : goal.attempts-preserved
attempts-preserved g c =
    stands_next c.attempts.invariant (head_reply c.head-answer.result) (headed_fault c.head-answer.result) c.head-answer.ensures.told
    c.head-answer.ensures.cause c.if-not-tries_again.ensures.decides c.tries_again.ensures.stays
