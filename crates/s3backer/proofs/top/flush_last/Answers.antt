use Rattle.s3backer.proofs.Sessions.{flushes_none, flushes_last}
use Rattle.s3backer.proofs.top.flush_last.Goals as goal

pub returns-then-read_only-clause-did : goal.returns-then-read_only-clause-did
returns-then-read_only-clause-did g c =
    flushes_none c.args.read_only (g.D.Calls.base c.args.disk.now) _ c.if-read_only.true
    (g.D.Calls.did_nothing c.args.disk.now c.args.desk.now)

pub returns-else-read_only-clause-did : goal.returns-else-read_only-clause-did
returns-else-read_only-clause-did g c =
    flushes_last c.args.read_only (g.D.Calls.base c.args.disk.now) _ _ c.if-read_only.false c.flush.ensures.did
