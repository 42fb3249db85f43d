use Rattle.sb_nbd.proofs.Cuts.{no_cut_option}
use Rattle.sb_nbd.proofs.laws.no_cut_option.Goals as goal

pub returns : goal.returns
returns c = no_cut_option
