use Rattle.std.proofs.Common.{◌≡◌, ◌∙◌, [], true, sym, subst, refl, arith, append-nil}
use Rattle.sb_http.specs.Takings.{is_nothing}
use Rattle.sb_http.specs.Windows.{pending}
use Rattle.sb_http.proofs.TakingsJoined.{takes_waiting, more_taken, some_taken}
use Rattle.sb_http.proofs.incoming.take_into.Goals as goal

pub returns-in-Err-clause-told : goal.returns-in-Err-clause-told
returns-in-Err-clause-told g c = (
  tt,
  [],
  omega arith,
  c.in-Err.ensures.1
      ∙ sym (append-nil _),
  takes_waiting _ _ _ [] (sym c.in-Err.ensures.0),
)

pub returns-in-Ok-eq0-clause-told : goal.returns-in-Ok-eq0-clause-told
returns-in-Ok-eq0-clause-told g c =
    let before = c.loop-got.invariant in
    let empty = before.4 c.loop-got-test.true in
    let count = c.in-Ok-eq0.field-0 in
    let none : count ≡ 0 = c.in-Ok-eq0.field-0-test in
    let more = more_taken _ _ _ _
    (pending c.pour.new.self) _ _ _ before.0 _ count before.3 empty before.5 c.in-Ok-eq0.ensures.told in
    let ends = subst (λ n. is_nothing n ≡ true) (sym none) refl in (
      before.2,
      more.0,
      omega (arith, more.1, none, before.1),
      more.2,
      is_nothing count,
      more.3,
      λ short. (empty, ends),
      λ whole. absurd (omega (arith, whole, c.loop-got-test.true)),
    )

pub loop-got-preserved : goal.loop-got-preserved
loop-got-preserved g c =
    let before = c.loop-got.invariant in
    let empty = before.4 c.loop-got-test.true in
    let count = c.in-Ok-receive_into.count in
    let told = c.in-Ok-receive_into.ensures.told in
    let more = some_taken _ _ _ _
    (pending c.pour.new.self) _ _ _ before.0 _ count before.3 empty c.in-Ok-receive_into.count-test.1 before.5
    told in (
      more.0,
      omega (arith, more.1, before.1),
      omega (arith, told.0, c.min.ensures, c.loop-got-test.true),
      more.2,
      λ short. empty,
      more.3,
      omega (arith, before.6, c.in-Ok-receive_into.ensures.cause.later),
    )
