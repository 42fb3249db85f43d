use Rattle.sb_window.proofs.EventLemmas.{new_represents}
use Rattle.sb_window.proofs.laws.new_represents.Goals as goal

pub returns : goal.returns
returns c = new_represents
