use Rattle.std.proofs.Common.{◌≡◌, option_map}
use Rattle.sb_history.specs.Gets.{fetch_of}
use Rattle.sb_staleness.specs.Seen.{begin_seen}
use Rattle.sb_staleness.proofs.PastLemmas.{past_at}
use Rattle.sb_staleness.proofs.begin.open_begin.Given as goal

abbrev pub invariant-loop-place : goal.invariant-loop-place
invariant-loop-place l = l.begin ≡ option_map begin_seen (fetch_of (past_at l.place l.past) l.block)
