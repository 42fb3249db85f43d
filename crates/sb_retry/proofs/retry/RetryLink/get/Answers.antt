use Rattle.sb_world.specs.Calls.{get_reply}
use Rattle.sb_world.specs.declared.link.Call.TheVariants as call
use Rattle.sb_retry.specs.Transient.{get_fault}
use Rattle.sb_retry.proofs.Loops.{got_fault, is_spared, stands_first, stands_next, stands_last, stays_spared}
use Rattle.sb_retry.proofs.retry.RetryLink.get.Goals as goal

pub attempts-init : goal.attempts-init
attempts-init g c = record {
  stands = stands_first (call.Get c.args.name.now c.args.verify) get_fault c.args.self.now;
  spared = is_spared c.args.verify c.args.out.now;
}

pub returns-then-not-tries_again-clause-tries : goal.returns-then-not-tries_again-clause-tries
returns-then-not-tries_again-clause-tries g c =
    stands_last c.attempts.invariant.stands (get_reply c.get-answer.result c.get-answer.new.out)
    (got_fault c.get-answer.result c.get-answer.new.out) c.get-answer.ensures.told
    c.if-not-tries_again.ensures.decides c.tries_again.ensures.stays

pub attempts-preserved : goal.attempts-preserved
attempts-preserved g c =
    let follows = c.if-not-tries_again.ensures.decides in
    record {
      stands = stands_next c.attempts.invariant.stands (get_reply c.get-answer.result c.get-answer.new.out)
          (got_fault c.get-answer.result c.get-answer.new.out) c.get-answer.ensures.told
          c.get-answer.ensures.cause follows c.tries_again.ensures.stays;
      spared = stays_spared c.args.verify c.get-answer.result c.args.out.now c.attempts.out c.get-answer.new.out
          c.attempts.invariant.spared c.get-answer.ensures.spared follows.passes;
    }
