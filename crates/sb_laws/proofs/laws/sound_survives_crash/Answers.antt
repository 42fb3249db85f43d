use Rattle.sb_laws.proofs.Law.{sound_survives_crash}
use Rattle.sb_laws.proofs.laws.sound_survives_crash.Goals as goal

pub returns : goal.returns
returns c = sound_survives_crash
