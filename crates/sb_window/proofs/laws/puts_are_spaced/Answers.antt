use Rattle.sb_window.proofs.EventLemmas.{puts_are_spaced}
use Rattle.sb_window.proofs.laws.puts_are_spaced.Goals as goal

pub returns : goal.returns
returns c = puts_are_spaced
