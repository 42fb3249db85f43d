use Rattle.sb_names.proofs.NameLemmas.{token_is_no_block}
use Rattle.sb_names.proofs.laws.token_is_no_block.Goals as goal

pub returns : goal.returns
returns c = token_is_no_block
