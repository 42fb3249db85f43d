use Rattle.sb_core.specs.Leads.{get_undone}
use Rattle.sb_core.proofs.laws.get_undone.Goals as goal

pub returns : goal.returns
returns c = get_undone
