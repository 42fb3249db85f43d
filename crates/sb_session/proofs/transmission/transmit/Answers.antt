use Rattle.std.proofs.Common.{◌∙◌, ◌+◌, arith, refl, inr}
use Rattle.sb_session.proofs.Joins.{serves_nothing, serves_both, stopped_after}
use Rattle.sb_session.proofs.transmission.transmit.Goals as goal

pub loop-count-init : goal.loop-count-init
loop-count-init g c = record {
  ready = c.requires.ready;
  served = serves_nothing _ _ _ _ (g.D.Calls.did_nothing c.args.disk.now c.args.desk.now);
  source = omega arith;
  sink = omega arith;
  base = refl;
  length = refl;
}

pub loop-count-preserved : goal.loop-count-preserved
loop-count-preserved g c =
    let before = c.loop-count.invariant in
    let more = c.in-Ok.ensures in
    let one = rw before.base at more.told in
    record {
      ready = more.ready;
      served = serves_both _ _ _ _ _ _ _ _ _ _
          (g.D.Calls.did_both c.args.disk.now c.args.desk.now c.loop-count.disk c.loop-count.desk
          c.turn.new.disk c.turn.new.desk) before.served one;
      source = omega (arith, before.source, more.read_cause.later);
      sink = omega (arith, before.sink, more.write_cause.later);
      base = more.base ∙ before.base;
      length = more.length ∙ before.length;
    }

pub returns-in-Err-clause-told : goal.returns-in-Err-clause-told
returns-in-Err-clause-told g c =
    let before = c.loop-count.invariant in
    let more = rw before.base at c.in-Err.ensures.told in
    record {
      n = c.loop-count._count + more.n;
      within = omega (arith, more.within, c.loop-count-test.true);
      spent = λ e. absurd (more.unspent e);
      unspent = λ e. inr (more.one (omega (arith, e, more.within, c.loop-count-test.true)));
      stopped = stopped_after _ _ _ _ _ _ _ _ _ _ _
          (g.D.Calls.did_both c.args.disk.now c.args.desk.now c.loop-count.disk c.loop-count.desk
          c.turn.new.disk c.turn.new.desk) before.served more.stopped;
    }
