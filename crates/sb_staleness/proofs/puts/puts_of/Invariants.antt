use Rattle.std.proofs.Common.{◌≡◌}
use Rattle.sb_history.specs.Puts.{puts_of}
use Rattle.sb_staleness.specs.Seen.{puts_seen}
use Rattle.sb_staleness.proofs.PastLemmas.{past_at}
use Rattle.sb_staleness.proofs.puts.puts_of.Given as goal

abbrev pub invariant-loop-place : goal.invariant-loop-place
invariant-loop-place l = puts_seen l.puts.items ≡ puts_of (past_at l.place l.past) l.block
