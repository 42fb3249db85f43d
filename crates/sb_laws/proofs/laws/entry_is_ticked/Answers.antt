use Rattle.sb_laws.proofs.Joins.{entry_is_ticked}
use Rattle.sb_laws.proofs.laws.entry_is_ticked.Goals as goal

pub returns : goal.returns
returns c = entry_is_ticked
