use Rattle.sb_laws.proofs.Law.{unwindowed_survives_crash}
use Rattle.sb_laws.proofs.laws.unwindowed_survives_crash.Goals as goal

pub returns : goal.returns
returns c = unwindowed_survives_crash
