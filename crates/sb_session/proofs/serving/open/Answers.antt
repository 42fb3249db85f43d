use Rattle.sb_session.proofs.Opening.{greeting_fails, flags_end, negotiated}
use Rattle.sb_session.proofs.serving.open.Goals as goal

pub returns-in-Err-clause-told : goal.returns-in-Err-clause-told
returns-in-Err-clause-told g c = greeting_fails _ _ _ _ c.in-Err.field-0 c.in-Err.ensures.told

pub returns-in-Ok-read_flags-clause-told : goal.returns-in-Ok-read_flags-clause-told
returns-in-Ok-read_flags-clause-told g c =
    let flags = c.in-Ok-read_flags.ensures.told in
    negotiated _ _ _ _ _ _ c.in-Ok-read_flags.flags _ c.in-Ok.ensures.told flags.0 flags.1 c.negotiate.ensures.told

pub returns-in-Err-read_flags-clause-told : goal.returns-in-Err-read_flags-clause-told
returns-in-Err-read_flags-clause-told g c =
    let ends = flags_end c.args.export _ _ _ _ c.in-Err-read_flags.end c.in-Ok.ensures.told
    c.in-Err-read_flags.ensures.told in
    rw c.session_end.ensures ends
