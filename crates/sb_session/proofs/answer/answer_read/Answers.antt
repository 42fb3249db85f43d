use Rattle.sb_session.proofs.Reading.{read_answers, read_fails}
use Rattle.sb_session.proofs.answer.answer_read.Goals as goal

pub returns-in-Ok-clause-told : goal.returns-in-Ok-clause-told
returns-in-Ok-clause-told g c = read_answers _ _ _ c.args.count _ c.in-Ok.ensures.told

pub returns-in-Err-clause-told : goal.returns-in-Err-clause-told
returns-in-Err-clause-told g c = read_fails _ _ _ c.args.count _ c.read_range.new.room c.in-Err.fault
    c.number_of.ensures
    c.in-Err.ensures.told
