use Rattle.std.proofs.Common.{length, take, ◌-◌, ◌≡◌, ◌≤◌}
use Rattle.sb_world.specs.Streams.{Takes}
use Rattle.sb_nbd.proofs.filling.fill.Given as goal

-- what came so far
abbrev pub invariant-loop-n : goal.invariant-loop-n
invariant-loop-n g l = record {
  within : l.n ≤ length l.out;
  length : length l.out ≡ length l.fn.out;
  taken : Takes (g.R.Source.left l.fn.source) (g.R.Source.left l.source) (take l.n l.out);
  later : g.R.Source.faults l.fn.source ≤ g.R.Source.faults l.source;
}

abbrev pub decreases-loop-n : goal.decreases-loop-n
decreases-loop-n g l = length l.out - l.n
