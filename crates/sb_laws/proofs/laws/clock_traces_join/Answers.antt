use Rattle.sb_laws.proofs.Joins.{clock_traces_join}
use Rattle.sb_laws.proofs.laws.clock_traces_join.Goals as goal

pub returns : goal.returns
returns c = clock_traces_join
