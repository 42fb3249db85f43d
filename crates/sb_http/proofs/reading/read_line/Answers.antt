use Rattle.std.proofs.Common.{◌≡◌, ◌∙◌, ℕ, List, [], ◌∷◌, ◌++◌, inl, refl, sym, subst, arith, append-nil, length-append}
use Rattle.sb_http.specs.declared.line.Step.TheVariants.{More}
use Rattle.sb_http.specs.Lines.{read_from}
use Rattle.sb_http.proofs.LinesRead.{is_open, outside_line, read_more}
use Rattle.sb_http.proofs.TakingsJoined.{takes_both}
use Rattle.sb_http.proofs.reading.read_line.Goals as goal

pub returns-in-Ok-None-clause-told : goal.returns-in-Ok-None-clause-told
returns-in-Ok-None-clause-told g c =
    let before = c.loop-count.invariant in
    let told = rw c.in-Ok-None.field-0-is at c.in-Ok-None.ensures.told in (
      before.0 ++ [],
      takes_both before.3 told.1,
      (
        omega (arith, length-append before.0 [], before.1, c.loop-count-test.true),
        is_open _ c.loop-count.line (subst (λ
            (bytes : List ℕ). read_from c.args.start bytes ≡ More c.loop-count.line)
            (sym (append-nil before.0)) before.2),
      ),
      refl,
      refl,
      told.0,
    )

pub returns-in-Err-clause-told : goal.returns-in-Err-clause-told
returns-in-Err-clause-told g c =
    let before = c.loop-count.invariant in
    let told = c.in-Err.ensures.told in
    outside_line _ _ _ _ c.args.start c.args.got c.in-Err.fault told.0 _ (takes_both before.3 told.1)

pub returns-in-Done-clause-told : goal.returns-in-Done-clause-told
returns-in-Done-clause-told g c =
    let before = c.loop-count.invariant in
    let byte = c.in-Ok-Some.byte in
    let told = rw c.in-Ok-Some.field-0-is at c.in-Ok-Some.ensures.told in (
      before.0 ++ byte ∷ [],
      takes_both before.3 told,
      (
        read_more c.args.start before.0 c.loop-count.line byte before.2 ∙ sym c.after.ensures ∙ c.in-Done.is,
        omega (arith, length-append before.0 (byte ∷ []), before.1, c.loop-count-test.true),
      ),
    )

pub returns-in-Bad-clause-told : goal.returns-in-Bad-clause-told
returns-in-Bad-clause-told g c =
    let before = c.loop-count.invariant in
    let byte = c.in-Ok-Some.byte in
    let told = rw c.in-Ok-Some.field-0-is at c.in-Ok-Some.ensures.told in (
      before.0 ++ byte ∷ [],
      takes_both before.3 told,
      (
        omega (arith, length-append before.0 (byte ∷ []), before.1, c.loop-count-test.true),
        inl (
          before.0,
          byte,
          refl,
          is_open _ c.loop-count.line before.2,
          read_more c.args.start before.0 c.loop-count.line byte before.2 ∙ sym c.after.ensures ∙ c.in-Bad.is,
        ),
      ),
      refl,
    )

pub loop-count-preserved : goal.loop-count-preserved
loop-count-preserved g c =
    let before = c.loop-count.invariant in
    let byte = c.in-Ok-Some.byte in
    let told = rw c.in-Ok-Some.field-0-is at c.in-Ok-Some.ensures.told in (
      before.0 ++ byte ∷ [],
      omega (arith, length-append before.0 (byte ∷ []), before.1),
      read_more c.args.start before.0 c.loop-count.line byte before.2 ∙ sym c.after.ensures ∙ c.in-More.is,
      takes_both before.3 told,
      omega (arith, before.4, c.in-Ok-Some.ensures.cause.later),
    )
