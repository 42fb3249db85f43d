use Rattle.sb_laws.proofs.Settled.{settled_is_possible}
use Rattle.sb_laws.proofs.laws.settled_is_possible.Goals as goal

pub returns : goal.returns
returns c = settled_is_possible
