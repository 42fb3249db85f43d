use Rattle.std.proofs.Common.{arith, ap, length, ◌∙◌}
use Rattle.sb_http.proofs.HeadsRead.{cut_head, length_more, some_waits}
use Rattle.sb_http.proofs.head.find_head.Goals as goal

pub returns-in-Ok-eq0-clause-told : goal.returns-in-Ok-eq0-clause-told
returns-in-Ok-eq0-clause-told g c =
    let before = c.arrivals.invariant in
    let unfinished = rw c.in-Ok-None.field-0-is at c.in-Ok-None.ensures.told in
    cut_head _ _ _ _ _ _ _ _ _ _ before.takes c.waiting.ensures c.waiting-came.ensures unfinished before.small
    c.if-came-eq-MAX_HEAD.false c.in-Ok-eq0.field-0-test c.in-Ok-eq0.ensures.told

pub arrivals-preserved : goal.arrivals-preserved
arrivals-preserved g c =
    let before = c.arrivals.invariant in
    let told = c.in-Ok.ensures.told in
    let len = length_more _ _ _ _ _ _ told in
    record {
      takes = some_waits _ _ _ _ _ _ _ _ c.in-Ok.field-0-test.1 before.takes told;
      small = omega (arith, len, told.0, before.small, ap length c.waiting-came.ensures);
      room = c.in-Ok-None.ensures.length ∙ before.room;
      later = omega (arith, before.later, c.in-Ok.ensures.cause.later);
    }
