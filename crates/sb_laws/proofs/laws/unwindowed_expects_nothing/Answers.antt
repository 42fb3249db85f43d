use Rattle.sb_laws.proofs.Unwindowed.{unwindowed_expects_nothing}
use Rattle.sb_laws.proofs.laws.unwindowed_expects_nothing.Goals as goal

pub returns : goal.returns
returns c = unwindowed_expects_nothing
