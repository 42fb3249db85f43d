use Rattle.sb_blocks.proofs.LawLemmas.{counts_held}
use Rattle.sb_blocks.proofs.laws.counts_held.Goals as goal

pub returns : goal.returns
returns c = counts_held
