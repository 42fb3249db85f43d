use Rattle.sb_blocks.proofs.LawLemmas.{counts_passing}
use Rattle.sb_blocks.proofs.laws.counts_passing.Goals as goal

pub returns : goal.returns
returns c = counts_passing
