use Rattle.sb_nbd.proofs.OneForm.{one_option}
use Rattle.sb_nbd.proofs.laws.one_option.Goals as goal

pub returns : goal.returns
returns c = one_option
