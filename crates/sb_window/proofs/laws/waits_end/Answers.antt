use Rattle.sb_window.proofs.WaitLemmas.{waits_end}
use Rattle.sb_window.proofs.laws.waits_end.Goals as goal

pub returns : goal.returns
returns c = waits_end
