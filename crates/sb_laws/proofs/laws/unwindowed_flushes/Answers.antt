use Rattle.sb_laws.proofs.Law.{unwindowed_flushes}
use Rattle.sb_laws.proofs.laws.unwindowed_flushes.Goals as goal

pub returns : goal.returns
returns c = unwindowed_flushes
