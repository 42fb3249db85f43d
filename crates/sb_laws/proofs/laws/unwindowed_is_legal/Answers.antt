use Rattle.sb_laws.proofs.Law.{unwindowed_is_legal}
use Rattle.sb_laws.proofs.laws.unwindowed_is_legal.Goals as goal

pub returns : goal.returns
returns c = unwindowed_is_legal
