use Rattle.sb_blocks.proofs.LawLemmas.{removes_one}
use Rattle.sb_blocks.proofs.laws.removes_one.Goals as goal

pub returns : goal.returns
returns c = removes_one
