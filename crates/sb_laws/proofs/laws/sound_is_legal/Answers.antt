use Rattle.sb_laws.proofs.Law.{sound_is_legal}
use Rattle.sb_laws.proofs.laws.sound_is_legal.Goals as goal

pub returns : goal.returns
returns c = sound_is_legal
