use Rattle.std.proofs.Common.{[], ◌∷◌, ◌++◌, arith, refl}
use Rattle.std.proofs.lemmas.List.Elements.{All-nil}
use Rattle.sb_http.specs.Heads.{IsInterim}
use Rattle.sb_http.proofs.HeadsRead.{head_read, head_stops, one_passed, too_many_passed}
use Rattle.sb_http.proofs.TakingsJoined.{takes_nothing}
use Rattle.sb_http.proofs.head.read_head.Goals as goal

pub loop-passed-init : goal.loop-passed-init
loop-passed-init g c = ([], All-nil IsInterim, refl, c.requires, takes_nothing _ _, omega arith)

pub returns-in-Ok-Some-clause-told : goal.returns-in-Ok-Some-clause-told
returns-in-Ok-Some-clause-told g c =
    let before = c.loop-passed.invariant in
    let told = rw c.in-Ok-Some.field-0-is at c.in-Ok-Some.ensures.told in
    head_read _ _ _ _ _ _ before.0 c.in-Ok-Some.head before.1 (omega
    (arith, before.2, c.loop-passed-test.true)) before.4 told

pub returns-in-Err-clause-told : goal.returns-in-Err-clause-told
returns-in-Err-clause-told g c =
    let before = c.loop-passed.invariant in
    head_stops _ _ _ _ _ [] before.0 c.in-Err.fault before.1 (omega
    (arith, before.2, c.loop-passed-test.true)) before.4 c.in-Err.ensures.told

pub loop-passed-preserved : goal.loop-passed-preserved
loop-passed-preserved g c =
    let before = c.loop-passed.invariant in
    let told = rw c.in-Ok-None.field-0-is at c.in-Ok-None.ensures.told in
    let heads = before.0 ++ told.0 ∷ [] in
    let more = one_passed _ _ _ _ _ _ before.0 told.0 before.1 told.1 before.4 told.2 in (
      heads,
      more.0,
      omega (arith, more.1, before.2),
      told.3,
      more.2,
      omega (arith, before.5, c.in-Ok-None.ensures.cause.later),
    )

pub returns-clause-told : goal.returns-clause-told
returns-clause-told g c =
    let before = c.loop-passed.invariant in
    too_many_passed _ _ _ _ [] before.0 before.1 (omega
    (arith, before.2, c.loop-passed-test.false, c.loop-passed.auto.passed-end)) before.4
