use Rattle.sb_laws.proofs.Passes.{passes_join}
use Rattle.sb_laws.proofs.laws.passes_join.Goals as goal

pub returns : goal.returns
returns c = passes_join
