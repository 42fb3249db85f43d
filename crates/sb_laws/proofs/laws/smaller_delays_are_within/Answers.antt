use Rattle.sb_laws.proofs.Smaller.{smaller_delays_are_within}
use Rattle.sb_laws.proofs.laws.smaller_delays_are_within.Goals as goal

pub returns : goal.returns
returns c = smaller_delays_are_within
