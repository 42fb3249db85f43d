use Rattle.sb_http.proofs.PlainBodies.{no_body}
use Rattle.sb_http.proofs.body.read_body.Goals as goal

pub returns-in-Empty-clause-told : goal.returns-in-Empty-clause-told
returns-in-Empty-clause-told g c = rw c.in-Empty.is (no_body c.args.limit _ _ _)
