use Rattle.std.proofs.Common.{Err, subst, [], ◌++◌, List, ℕ}
use Rattle.sb_world.specs.Streams.{Holds, WriteHolds}
use Rattle.sb_nbd.specs.Numbers.{ack, info_reply}
use Rattle.sb_nbd.specs.OptionReplies.{option_reply_bytes}
use Rattle.sb_nbd.specs.OptionAnswers.{block_size_bytes}
use Rattle.sb_world.proofs.Streaming.{write_both, write_failed}
use Rattle.sb_nbd.proofs.answer.write_details.Goals as goal

pub returns-in-Ok-clause-told : goal.returns-in-Ok-clause-told
returns-in-Ok-clause-told g c =
    let held = g.S.Sink.held in
    let more = block_size_bytes c.args.export c.args.option c.args.details
    ++ option_reply_bytes c.args.option ack [] in
    let first = subst (λ (body : List ℕ). Holds (held c.args.sink.now) (held c.write_option_reply.new.sink)
    (option_reply_bytes c.args.option info_reply body)) c.export_info-body.ensures c.in-Ok.ensures.told in
    write_both _ _ _ _ _ more first c.write_block_size.ensures.told

pub returns-in-Err-clause-told : goal.returns-in-Err-clause-told
returns-in-Err-clause-told g c =
    let held = g.S.Sink.held in
    let more = block_size_bytes c.args.export c.args.option c.args.details
    ++ option_reply_bytes c.args.option ack [] in
    let first = subst (λ (body : List ℕ). WriteHolds (held c.args.sink.now) (held c.write_option_reply.new.sink)
    (Err c.in-Err.end) (option_reply_bytes c.args.option info_reply body)) c.export_info-body.ensures
    c.in-Err.ensures.told in
    write_failed _ _ c.in-Err.end _ more first
