use Rattle.sb_session.proofs.Negotiating.{no_option, answered, answer_fails}
use Rattle.sb_session.proofs.haggling.haggle.Goals as goal

pub returns-in-Err-clause-told : goal.returns-in-Err-clause-told
returns-in-Err-clause-told g c =
    let ends = no_option c.args.export c.args.flags _ _ _ c.in-Err.end c.in-Err.ensures.told in
    rw c.session_end.ensures ends

pub returns-in-Ok-write_answer-clause-told : goal.returns-in-Ok-write_answer-clause-told
returns-in-Ok-write_answer-clause-told g c =
    let read = c.in-Ok.ensures.told in
    answered _ _ _ _ _ _ c.in-Ok.asked c.read_option.new.room c.answer_to-answer.result _ read.0
    c.answer_to-answer.ensures c.next_of.ensures.leads read.1 c.in-Ok-write_answer.ensures.told

pub returns-in-Err-write_answer-clause-told : goal.returns-in-Err-write_answer-clause-told
returns-in-Err-write_answer-clause-told g c =
    let read = c.in-Ok.ensures.told in
    answer_fails _ _ _ _ _ _ c.in-Ok.asked c.read_option.new.room c.answer_to-answer.result
    c.in-Err-write_answer.field-0 read.0 c.answer_to-answer.ensures read.1 c.in-Err-write_answer.ensures.told
