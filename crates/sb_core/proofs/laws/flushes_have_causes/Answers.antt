use Rattle.sb_core.proofs.FlushCauses.{flushes_have_causes}
use Rattle.sb_core.proofs.laws.flushes_have_causes.Goals as goal

pub returns : goal.returns
returns c = flushes_have_causes
