use Rattle.std.proofs.Common.{sym}
use Rattle.sb_server.specs.Tellings.{telling}
use Rattle.sb_server.proofs.Crowds.{caller_served}
use Rattle.sb_server.proofs.crowd.serve_caller.Goals as goal

pub returns : goal.returns
returns g c =
    caller_served (telling g.N.Listener g.L.Link g.C.Clock g.N.Source.Source g.N.Sink.Sink) c.args.disk.now
    c.args.read_only c.in-Some.pass c.serve_client-client.new.pass c.args.client.now c.serve_client-client.new.client
    c.serve_client-client.result (sym c.in-Some.ensures.value) c.serve_client-client.ensures
