use Rattle.sb_window.proofs.EventLemmas.{waits_lie_ahead}
use Rattle.sb_window.proofs.laws.waits_lie_ahead.Goals as goal

pub returns : goal.returns
returns c = waits_lie_ahead
