use Rattle.sb_http.specs.Windows.{pending}
use Rattle.sb_http.proofs.ResponsesRead.{body_fault, body_read, head_fault, length_fault}
use Rattle.sb_http.proofs.response.read_response.Goals as goal

pub returns-in-Err-clause-told : goal.returns-in-Err-clause-told
returns-in-Err-clause-told g c =
    head_fault c.args.bodiless c.args.limit _ _ _
    (pending c.read_head.new.window) _ c.in-Err.fault c.in-Err.ensures.told

pub returns-in-Err-framing_of-clause-told : goal.returns-in-Err-framing_of-clause-told
returns-in-Err-framing_of-clause-told g c =
    length_fault c.args.bodiless c.args.limit _ _ _
    (pending c.read_head.new.window) _ c.in-Ok.head _ c.in-Err-framing_of.fault
    c.in-Ok.ensures.told c.deref.ensures.value c.in-Err-framing_of.ensures

pub returns-in-Ok-read_body-clause-told : goal.returns-in-Ok-read_body-clause-told
returns-in-Ok-read_body-clause-told g c =
    body_read c.args.bodiless c.args.limit _ _ _ _
    (pending c.read_head.new.window) _ _ c.in-Ok.head _ _ c.in-Ok-framing_of.framing _
    c.in-Ok.ensures.told c.deref.ensures.value c.bound_of-bound.ensures c.in-Ok-framing_of.ensures
    c.in-Ok-read_body.ensures.told

pub returns-in-Err-read_body-clause-told : goal.returns-in-Err-read_body-clause-told
returns-in-Err-read_body-clause-told g c =
    body_fault c.args.bodiless c.args.limit _ _ _ _
    (pending c.read_head.new.window) _ _ c.in-Ok.head _ _ c.in-Ok-framing_of.framing
    c.in-Err-read_body.fault c.in-Ok.ensures.told c.deref.ensures.value c.bound_of-bound.ensures
    c.in-Ok-framing_of.ensures
    c.in-Err-read_body.ensures.told
