use Rattle.sb_names.proofs.NameLemmas.{names_differ}
use Rattle.sb_names.proofs.laws.names_differ.Goals as goal

pub returns : goal.returns
returns c = names_differ
