use Rattle.sb_laws.proofs.Joins.{other_pass_is_unticked}
use Rattle.sb_laws.proofs.laws.other_pass_is_unticked.Goals as goal

pub returns : goal.returns
returns c = other_pass_is_unticked
