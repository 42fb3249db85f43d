use Rattle.sb_window.proofs.EventLemmas.{end_represents}
use Rattle.sb_window.proofs.laws.end_represents.Goals as goal

pub returns : goal.returns
returns c = end_represents
