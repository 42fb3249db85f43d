use Rattle.sb_laws.proofs.Passes.{one_pass_is_all}
use Rattle.sb_laws.proofs.laws.one_pass_is_all.Goals as goal

pub returns : goal.returns
returns c = one_pass_is_all
