use Rattle.sb_blocks.proofs.LawLemmas.{counts_each}
use Rattle.sb_blocks.proofs.laws.counts_each.Goals as goal

pub returns : goal.returns
returns c = counts_each
