use Rattle.std.proofs.Common.{arith}
use Rattle.sb_session.proofs.Negotiating.{one_more, stopped, spent}
use Rattle.sb_session.proofs.haggling.negotiate.Goals as goal

pub options-preserved : goal.options-preserved
options-preserved g c =
    let before = c.options.invariant in
    let more = c.in-Ok-Option.ensures in
    let one = rw c.in-Ok-Option.field-0-is at more.told in
    record {
      so_far = one_more c.args.export c.args.flags _ _ _ c.options.count before.so_far one;
      source = omega (arith, before.source, more.read_cause.later);
      sink = omega (arith, before.sink, more.write_cause.later);
      length = search (arith, more.length, before.length);
    }

pub returns-in-Err-clause-told : goal.returns-in-Err-clause-told
returns-in-Err-clause-told g c =
    stopped c.args.export c.args.flags _ _ _ c.in-Err.end c.options.count (omega (arith, c.options-test.true))
    c.options.invariant.so_far c.in-Err.ensures.told

pub returns-clause-told : goal.returns-clause-told
returns-clause-told g c =
    spent c.args.export c.args.flags _ _ c.options.count
    (omega (arith, c.options-test.false, c.options.auto.count-end)) c.options.invariant.so_far
