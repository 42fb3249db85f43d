use Rattle.sb_server.specs.Tellings.{telling}
use Rattle.sb_server.specs.Clients.{ClientSoFar}
use Rattle.sb_server.proofs.client.serve_client.Given as goal

-- what the client did so far
abbrev pub invariant-connections : goal.invariant-connections
invariant-connections g l =
    ClientSoFar (telling g.N.Listener g.L.Link g.C.Clock g.N.Source.Source g.N.Sink.Sink) l.disk l.read_only
    l.fn.pass l.pass l.fn.client l.client
