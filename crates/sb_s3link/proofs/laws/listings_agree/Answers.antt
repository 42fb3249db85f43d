use Rattle.sb_s3link.proofs.Agree.{listings_agree}
use Rattle.sb_s3link.proofs.laws.listings_agree.Goals as goal

pub returns : goal.returns
returns c = listings_agree
