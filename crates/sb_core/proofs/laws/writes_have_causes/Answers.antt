use Rattle.sb_core.proofs.WriteCauses.{writes_have_causes}
use Rattle.sb_core.proofs.laws.writes_have_causes.Goals as goal

pub returns : goal.returns
returns c = writes_have_causes
