use Rattle.sb_laws.proofs.Table.{states_go_by_table}
use Rattle.sb_laws.proofs.laws.states_go_by_table.Goals as goal

pub returns : goal.returns
returns c = states_go_by_table
