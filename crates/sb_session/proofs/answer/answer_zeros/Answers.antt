use Rattle.sb_session.proofs.Writing.{write_answers, write_fails}
use Rattle.sb_session.proofs.answer.answer_zeros.Goals as goal

pub returns-in-Ok-clause-told : goal.returns-in-Ok-clause-told
returns-in-Ok-clause-told g c = write_answers _ _ _ c.args.wanted.flags _ c.in-Ok.ensures.told

pub returns-in-Err-clause-told : goal.returns-in-Err-clause-told
returns-in-Err-clause-told g c = write_fails _ _ _ c.args.wanted.flags _ _ c.in-Err.fault c.number_of.ensures
    c.in-Err.ensures.told
