use Rattle.std.proofs.Common.{◌≡◌, true, arith}
use Rattle.sb_staleness.specs.Seen.{delays_seen}
use Rattle.sb_staleness.specs.Starts.{start_of}
use Rattle.sb_staleness.proofs.PastLemmas.{within_at}
use Rattle.sb_staleness.proofs.staleness.is_stale_within.Goals as goal

-- had all entries been within, this one would have been
pub returns-then-not-branch : goal.returns-then-not-branch
returns-then-not-branch c =
    let start = start_of c.args.block_size c.args.image.now in (
      λ is. cc,
      λ all.
          let at = within_at c.args.block_size start (delays_seen c.args.delays) c.args.history.now c.loop-place.place
          c.index-history-place.result c.loop-place-test.true all in
          let within : c.in_ok-answers_within.field-0 ≡ true = c.in_ok-answers_within.ensures.1 at in
          grind (arith, within, c.if-not-branch.true),
    )
