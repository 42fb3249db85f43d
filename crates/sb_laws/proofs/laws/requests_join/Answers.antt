use Rattle.sb_laws.proofs.Joins.{requests_join}
use Rattle.sb_laws.proofs.laws.requests_join.Goals as goal

pub returns : goal.returns
returns c = requests_join
