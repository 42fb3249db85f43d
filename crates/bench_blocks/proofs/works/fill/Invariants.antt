use Rattle.std.proofs.Common.{◌≡◌}
use Rattle.bench_blocks.proofs.works.fill.Given as goal

abbrev pub invariant-loop-block : goal.invariant-loop-block
invariant-loop-block l = l.blocks.geometry ≡ l.fn.blocks.geometry
