use Rattle.sb_laws.proofs.Law.{sound_flushes}
use Rattle.sb_laws.proofs.laws.sound_flushes.Goals as goal

pub returns : goal.returns
returns c = sound_flushes
