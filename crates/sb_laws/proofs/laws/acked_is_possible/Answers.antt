use Rattle.sb_laws.proofs.Acked.{acked_is_possible}
use Rattle.sb_laws.proofs.laws.acked_is_possible.Goals as goal

pub returns : goal.returns
returns c = acked_is_possible
