use Rattle.sb_dirstore.proofs.NameLemmas.{token_is_object}
use Rattle.sb_dirstore.proofs.laws.token_is_object.Goals as goal

pub returns : goal.returns
returns c = token_is_object
