use Rattle.std.proofs.Common.{arith}
use Rattle.sb_tools.proofs.Answering.{answer_at_end, answer_at_line_end}
use Rattle.sb_tools.proofs.question.read_answer.Goals as goal

pub returns-in-Ok-None-clause-answer : goal.returns-in-Ok-None-clause-answer
returns-in-Ok-None-clause-answer g c =
    let told = rw c.in-Ok-None.field-0-is at c.in-Ok-None.ensures.told in (
      omega arith,
      answer_at_end c.bytes.room c.bytes.size (omega (arith, c.bytes.auto.room)) (omega arith) c.bytes.invariant.took
          c.bytes.invariant.line told.0 told.1,
    )

pub returns-then-byte-eq-LINE_END-clause-answer : goal.returns-then-byte-eq-LINE_END-clause-answer
returns-then-byte-eq-LINE_END-clause-answer g c =
    let told = rw c.in-Ok-Some.field-0-is at c.in-Ok-Some.ensures.told in (
      omega arith,
      answer_at_line_end c.bytes.room c.bytes.size c.in-Ok-Some.byte (omega (arith, c.bytes.auto.room)) (omega arith)
          c.bytes.invariant.took c.bytes.invariant.line told c.if-byte-eq-LINE_END.true,
    )
