use Rattle.sb_window.proofs.CountLemmas.{puts_fit}
use Rattle.sb_window.proofs.laws.puts_fit.Goals as goal

pub returns : goal.returns
returns c = puts_fit
