use Rattle.sb_window.proofs.EventLemmas.{expectation_stays}
use Rattle.sb_window.proofs.laws.expectation_stays.Goals as goal

pub returns : goal.returns
returns c = expectation_stays
