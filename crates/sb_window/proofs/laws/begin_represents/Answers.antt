use Rattle.sb_window.proofs.EventLemmas.{begin_represents}
use Rattle.sb_window.proofs.laws.begin_represents.Goals as goal

pub returns : goal.returns
returns c = begin_represents
