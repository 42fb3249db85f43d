use Rattle.sb_http.proofs.Agree.{exchanges_agree}
use Rattle.sb_http.proofs.laws.exchanges_agree.Goals as goal

pub returns : goal.returns
returns c = exchanges_agree
