use Rattle.sb_window.proofs.EventLemmas.{expects_the_last_put}
use Rattle.sb_window.proofs.laws.expects_the_last_put.Goals as goal

pub returns : goal.returns
returns c = expects_the_last_put
