use Rattle.std.proofs.Common.{rules}
use Rattle.sb_session.proofs.Writing.{fua_flushed, fua_fails, unflushed}
use Rattle.sb_session.proofs.range.flush_wanted.Goals as goal

pub returns-in-Ok-clause-told : goal.returns-in-Ok-clause-told
returns-in-Ok-clause-told g c = fua_flushed (g.D.Calls.base c.args.disk.now) _ c.args.flags (search rules) c.in-Ok.ensures.did

pub returns-in-Err-clause-told : goal.returns-in-Err-clause-told
returns-in-Err-clause-told g c =
    fua_fails (g.D.Calls.base c.args.disk.now) _ c.args.flags c.in-Err.fault c.from.result (search rules) c.from.ensures c.in-Err.ensures.did

pub returns-else-has_fua-clause-told : goal.returns-else-has_fua-clause-told
returns-else-has_fua-clause-told g c =
    unflushed (g.D.Calls.base c.args.disk.now) _ c.args.flags (search rules) (g.D.Calls.did_nothing c.args.disk.now c.args.desk.now)
