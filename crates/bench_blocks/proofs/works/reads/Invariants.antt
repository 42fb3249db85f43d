use Rattle.std.proofs.Common.{◌≡◌}
use Rattle.bench_blocks.proofs.works.reads.Given as goal

abbrev pub invariant-loop-round : goal.invariant-loop-round
invariant-loop-round l = l.blocks.geometry ≡ l.fn.blocks.geometry
