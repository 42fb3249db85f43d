use Rattle.sb_core.proofs.JobCauses.{jobs_have_causes}
use Rattle.sb_core.proofs.laws.jobs_have_causes.Goals as goal

pub returns : goal.returns
returns c = jobs_have_causes
