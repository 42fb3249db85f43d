use Rattle.sb_window.proofs.EventLemmas.{purge_represents}
use Rattle.sb_window.proofs.laws.purge_represents.Goals as goal

pub returns : goal.returns
returns c = purge_represents
