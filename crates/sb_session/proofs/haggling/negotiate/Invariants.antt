use Rattle.std.proofs.Common.{◌≡◌, ◌≤◌, length}
use Rattle.sb_session.specs.Streams.{streams_at}
use Rattle.sb_session.specs.Haggling.{Negotiates}
use Rattle.sb_session.proofs.haggling.negotiate.Given as goal

-- the options so far were answered, and each led to another
abbrev pub invariant-options : goal.invariant-options
invariant-options g l = record {
  so_far : Negotiates l.fn.export l.fn.flags (streams_at (g.R.Source.left l.fn.source) (g.S.Sink.held l.fn.sink))
      (streams_at (g.R.Source.left l.source) (g.S.Sink.held l.sink)) l.count;
  source : g.R.Source.faults l.fn.source ≤ g.R.Source.faults l.source;
  sink : g.S.Sink.faults l.fn.sink ≤ g.S.Sink.faults l.sink;
  length : length l.room ≡ length l.fn.room;
}
