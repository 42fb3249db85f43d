use Rattle.sb_nbd.proofs.Cuts.{no_cut}
use Rattle.sb_nbd.proofs.laws.no_cut_request.Goals as goal

pub returns : goal.returns
returns c = no_cut
