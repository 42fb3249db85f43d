use Rattle.sb_history.specs.Visibility.{IsStaleWithin}
use Rattle.sb_staleness.specs.Seen.{delays_seen}
use Rattle.sb_staleness.specs.Starts.{start_of}
use Rattle.sb_staleness.proofs.PastLemmas.{past_at}
use Rattle.sb_staleness.proofs.staleness.is_stale_within.Given as goal

abbrev pub invariant-loop-place : goal.invariant-loop-place
invariant-loop-place l =
    IsStaleWithin l.disk.block_size (start_of l.disk.block_size l.disk.bytes.now) (delays_seen l.delays)
    (past_at l.place l.history)
