use Rattle.sb_blocks.proofs.LawLemmas.{sets_one}
use Rattle.sb_blocks.proofs.laws.sets_one.Goals as goal

pub returns : goal.returns
returns c = sets_one
