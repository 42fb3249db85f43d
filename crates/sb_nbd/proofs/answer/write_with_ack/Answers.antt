use Rattle.std.proofs.Common.{[]}
use Rattle.sb_nbd.specs.Numbers.{ack}
use Rattle.sb_nbd.specs.OptionReplies.{option_reply_bytes}
use Rattle.sb_world.proofs.Streaming.{write_both, write_failed}
use Rattle.sb_nbd.proofs.answer.write_with_ack.Goals as goal

pub returns-in-Ok-clause-told : goal.returns-in-Ok-clause-told
returns-in-Ok-clause-told g c =
    write_both _ _ _ _ _ (option_reply_bytes c.args.option ack []) c.in-Ok.ensures.told
    c.write_option_reply-in-Ok.ensures.told

pub returns-in-Err-clause-told : goal.returns-in-Err-clause-told
returns-in-Err-clause-told g c =
    write_failed _ _ c.in-Err.end _ (option_reply_bytes c.args.option ack []) c.in-Err.ensures.told
