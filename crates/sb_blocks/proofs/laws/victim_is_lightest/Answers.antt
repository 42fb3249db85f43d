use Rattle.sb_blocks.proofs.VictimLemmas.{victim_is_lightest}
use Rattle.sb_blocks.proofs.laws.victim_is_lightest.Goals as goal

pub returns : goal.returns
returns c = victim_is_lightest
