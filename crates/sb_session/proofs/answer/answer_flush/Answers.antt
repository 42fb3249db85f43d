use Rattle.std.proofs.Common.{◌∙◌, ap}
use Rattle.sb_session.specs.Answers.{error_of}
use Rattle.sb_session.proofs.Writing.{flush_answers, flush_fails}
use Rattle.sb_session.proofs.answer.answer_flush.Goals as goal

pub returns-in-Ok-clause-told : goal.returns-in-Ok-clause-told
returns-in-Ok-clause-told g c = flush_answers _ _ c.in-Ok.ensures.did

pub returns-in-Err-clause-told : goal.returns-in-Err-clause-told
returns-in-Err-clause-told g c = flush_fails _ _ _ c.in-Err.fault
    (c.number_of.ensures ∙ ap error_of c.from.ensures) c.in-Err.ensures.did
