use Rattle.std.proofs.Common.{Err, subst}
use Rattle.sb_world.specs.Streams.{Holds, WriteHolds}
use Rattle.sb_world.proofs.Streaming.{write_both, write_failed}
use Rattle.sb_nbd.proofs.option_reply.write_option_reply.Goals as goal

pub returns-in-Ok-clause-told : goal.returns-in-Ok-clause-told
returns-in-Ok-clause-told g c =
    let held = g.S.Sink.held in
    let head = subst (Holds (held c.args.sink.now) (held c.send.new.sink)) c.head_of-head.ensures
    c.in-Ok.ensures.told in
    write_both _ _ _ _ _ c.args.body.now head c.send-in-Ok.ensures.told

pub returns-in-Err-clause-told : goal.returns-in-Err-clause-told
returns-in-Err-clause-told g c =
    let held = g.S.Sink.held in
    let head = subst (WriteHolds (held c.args.sink.now) (held c.send.new.sink) (Err c.in-Err.end))
    c.head_of-head.ensures c.in-Err.ensures.told in
    write_failed _ _ c.in-Err.end _ c.args.body.now head
