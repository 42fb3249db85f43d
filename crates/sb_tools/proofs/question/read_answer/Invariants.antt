use Rattle.std.proofs.Common.{◌≡◌, ℕ, ◌<◌, ◌≤◌, take, length, get_or}
use Rattle.sb_world.specs.Streams.{Takes}
use Rattle.sb_tools.proofs.question.read_answer.Given as goal

-- the bytes so far were taken, and none of them ends a line
abbrev pub invariant-bytes : goal.invariant-bytes
invariant-bytes g l = record {
  took : Takes (g.R.Source.left l.fn.source) (g.R.Source.left l.source) (take l.size l.room);
  line : (k : ℕ) → k < l.size → get_or l.room k 0 ≡ 10 → ⊥;
  later : g.R.Source.faults l.fn.source ≤ g.R.Source.faults l.source;
}
