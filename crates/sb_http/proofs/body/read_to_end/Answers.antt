use Rattle.sb_http.proofs.PlainBodies.{ends_there, goes_on, stops_there}
use Rattle.sb_http.proofs.body.read_to_end.Goals as goal

pub returns-in-Ok-None-clause-told : goal.returns-in-Ok-None-clause-told
returns-in-Ok-None-clause-told g c =
    let end = rw c.in-Ok-None.field-0-is at c.in-Ok-None.ensures.told in
    ends_there _ _ _ _ _ _ _ _ c.args.limit _ c.in-Ok.ensures.told c.if-got-limit.false end

pub returns-in-Ok-Some-clause-told : goal.returns-in-Ok-Some-clause-told
returns-in-Ok-Some-clause-told g c =
    let more = rw c.in-Ok-Some.field-0-is at c.in-Ok-Some.ensures.told in
    goes_on _ _ _ _ _ _ _ _ c.args.limit _ _ c.in-Ok.ensures.told c.if-got-limit.false more

pub returns-in-Err-take_byte-clause-told : goal.returns-in-Err-take_byte-clause-told
returns-in-Err-take_byte-clause-told g c =
    stops_there _ _ _ _ _ _ _ _ c.args.limit _ c.in-Err-take_byte.fault c.in-Ok.ensures.told c.if-got-limit.false
    c.in-Err-take_byte.ensures.told
