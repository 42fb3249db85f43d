use Rattle.sb_s3request.proofs.OneHead.{heads_agree}
use Rattle.sb_s3request.proofs.laws.heads_agree.Goals as goal

pub returns : goal.returns
returns c = heads_agree
