use Rattle.std.proofs.Common.{sym}
use Rattle.sb_blocks.specs.ZeroLaws.{all_zeros}
use Rattle.sb_core.proofs.bytes.Bytes.are_zeros.Goals as goal

pub returns-in-Zeros : goal.returns-in-Zeros
returns-in-Zeros c = rw c.in-Zeros.is (sym (all_zeros c.args.part.length))
