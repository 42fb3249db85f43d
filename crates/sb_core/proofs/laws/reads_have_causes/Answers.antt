use Rattle.sb_core.proofs.ReadCauses.{reads_have_causes}
use Rattle.sb_core.proofs.laws.reads_have_causes.Goals as goal

pub returns : goal.returns
returns c = reads_have_causes
