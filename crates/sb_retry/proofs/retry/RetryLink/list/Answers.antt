use Rattle.sb_world.specs.Calls.{list_reply}
use Rattle.sb_world.specs.declared.link.Call.TheVariants as call
use Rattle.sb_retry.specs.Transient.{list_fault}
use Rattle.sb_retry.proofs.Loops.{listed_fault, stands_first, stands_next, stands_last}
use Rattle.sb_retry.proofs.retry.RetryLink.list.Goals as goal

pub attempts-init : goal.attempts-init
attempts-init g c = stands_first (call.List c.args.prefix.now c.args.marker.now) list_fault c.args.self.now

pub returns-then-not-tries_again-clause-tries : goal.returns-then-not-tries_again-clause-tries
returns-then-not-tries_again-clause-tries g c =
    stands_last c.attempts.invariant (list_reply c.list-answer.result c.list-answer.new.page) (listed_fault c.list-answer.result c.list-answer.new.page) c.list-answer.ensures.told
    c.if-not-tries_again.ensures.decides c.tries_again.ensures.stays

pub attempts-preserved : goal.attempts-preserved
attempts-preserved g c =
    stands_next c.attempts.invariant (list_reply c.list-answer.result c.list-answer.new.page) (listed_fault c.list-answer.result c.list-answer.new.page) c.list-answer.ensures.told
    c.list-answer.ensures.cause c.if-not-tries_again.ensures.decides c.tries_again.ensures.stays
