use Rattle.sb_http.proofs.RequestsSent.{head_sent, head_unsent}
use Rattle.sb_http.proofs.exchanging.send_request.Goals as goal
use Rattle.std.proofs.Common.{Err}

pub returns-in-Err-send_some-clause-told : goal.returns-in-Err-send_some-clause-told
returns-in-Err-send_some-clause-told g c =
    head_unsent _ _ _ c.args.head.now c.args.body.now c.in-Err-send_some.fault c.in-Ok.ensures.told
    c.in-Err-send_some.ensures.told

pub returns-in-Err-send_some-2-clause-told : goal.returns-in-Err-send_some-2-clause-told
returns-in-Err-send_some-2-clause-told g c =
    head_sent _ _ _ _ c.args.head.now c.args.body.now
    (Err c.in-Err-send_some-2.fault) tt c.in-Ok.ensures.told c.in-Ok-send_some.ensures.told
    c.in-Err-send_some-2.ensures.told
