use Rattle.sb_http.proofs.PlainBodies.{sized_long}
use Rattle.sb_http.proofs.body.read_sized.Goals as goal

pub returns-then-size-limit-clause-told : goal.returns-then-size-limit-clause-told
returns-then-size-limit-clause-told g c = sized_long c.args.size c.args.limit _ _ _ c.if-size-limit.true
