use Rattle.sb_http.proofs.Agree.{answers_agree}
use Rattle.sb_http.proofs.laws.answers_agree.Goals as goal

pub returns : goal.returns
returns c = answers_agree
