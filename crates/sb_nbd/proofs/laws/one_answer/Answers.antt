use Rattle.sb_nbd.proofs.OneAnswer.{one_answer}
use Rattle.sb_nbd.proofs.laws.one_answer.Goals as goal

pub returns : goal.returns
returns c = one_answer
