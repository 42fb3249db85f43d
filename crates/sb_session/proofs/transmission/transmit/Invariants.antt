use Rattle.std.proofs.Common.{◌≡◌, ◌≤◌, length}
use Rattle.sb_session.specs.Streams.{streams_at}
use Rattle.sb_session.specs.Turns.{Serves}
use Rattle.sb_session.proofs.transmission.transmit.Given as goal

-- the requests so far were answered
abbrev pub invariant-loop-count : goal.invariant-loop-count
invariant-loop-count g l = record {
  ready : g.D.Calls.ready l.disk l.desk;
  served : Serves l.fn.read_only (g.D.Calls.base l.fn.disk) (streams_at (g.R.Source.left l.fn.source) (g.S.Sink.held l.fn.sink))
      (streams_at (g.R.Source.left l.source) (g.S.Sink.held l.sink))
      (g.D.Calls.did l.fn.disk l.fn.desk l.disk l.desk) l._count;
  source : g.R.Source.faults l.fn.source ≤ g.R.Source.faults l.source;
  sink : g.S.Sink.faults l.fn.sink ≤ g.S.Sink.faults l.sink;
  base : g.D.Calls.base l.disk ≡ g.D.Calls.base l.fn.disk;
  length : length l.room ≡ length l.fn.room;
}
