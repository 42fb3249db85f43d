use Rattle.sb_blocks.proofs.LawLemmas.{free_for_each}
use Rattle.sb_blocks.proofs.laws.free_for_each.Goals as goal

pub returns : goal.returns
returns c = free_for_each
