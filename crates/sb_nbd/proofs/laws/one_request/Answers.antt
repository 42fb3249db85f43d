use Rattle.sb_nbd.proofs.OneForm.{one_request}
use Rattle.sb_nbd.proofs.laws.one_request.Goals as goal

pub returns : goal.returns
returns c = one_request
