use Rattle.sb_session.proofs.Writing.{writes_flushed, writes_failed}
use Rattle.sb_session.proofs.zeroing.zero_wanted.Goals as goal

pub returns-in-Ok-clause-told : goal.returns-in-Ok-clause-told
returns-in-Ok-clause-told g c =
    writes_flushed (g.D.Calls.base c.args.disk.now) _ _ _
    (g.D.Calls.did_both c.args.disk.now c.args.desk.now c.zero_range.new.disk c.zero_range.new.desk
    c.flush_wanted.new.disk c.flush_wanted.new.desk) _ c.args.flags _ _ c.in-Ok.ensures.told
    (rw c.in-Ok.ensures.base at c.flush_wanted.ensures.told)

pub returns-in-Err-clause-told : goal.returns-in-Err-clause-told
returns-in-Err-clause-told g c =
    writes_failed _ _ _ c.args.flags _ c.in-Err.fault c.in-Err.ensures.told
