use Rattle.sb_server.specs.Tellings.{telling}
use Rattle.sb_server.specs.Clients.{CallerServed}
use Rattle.sb_crew.specs.Desks.{HasRoom}
use Rattle.sb_crew.specs.SharedDisks.{fixed_of_disk}
use Rattle.sb_server.specs.declared.client.Client.{Client}
use Rattle.sb_server.proofs.Calling.{paired, have_each}
use Rattle.sb_server.proofs.Crowds.{clients_have, crowd_did}
use Rattle.sb_server.proofs.crowd.serve_clients.Goals as goal

pub all_serve-requires-clause-ready : goal.all_serve-requires-clause-ready
all_serve-requires-clause-ready g c κs lives =
    let got = c.give_passes.ensures in
    have_each c.args.disk.now (λ (client : Client g.row.N.Denot g.row.L.Denot g.row.C.Denot).
    HasRoom (fixed_of_disk c.args.disk.now).geometry client.desk) c.args.clients.now c.give_passes.new.callers got.passes got.same got.have c.requires.desks

pub take_passes-requires-clause-have : goal.take_passes-requires-clause-have
take_passes-requires-clause-have g c =
    let tells = telling g.N.Listener g.L.Link g.C.Clock g.N.Source.Source g.N.Sink.Sink in
    let disk = c.args.disk.now in
    let read_only = c.args.read_only in
    let mids = c.give_passes.new.callers in
    let ends = c.all_serve.new.clients in
    clients_have tells disk read_only mids ends
    (paired (CallerServed tells disk read_only) mids ends c.all_serve.auto.clients c.all_serve.ensures)

pub returns : goal.returns
returns g c =
    let tells = telling g.N.Listener g.L.Link g.C.Clock g.N.Source.Source g.N.Sink.Sink in
    let disk = c.args.disk.now in
    let read_only = c.args.read_only in
    let mids = c.give_passes.new.callers in
    let ends = c.all_serve.new.clients in
    crowd_did tells disk read_only c.args.pass.now c.give_passes.new.pass c.take_passes.new.pass c.args.clients.now mids ends
    c.take_passes.new.callers c.give_passes.ensures
    (paired (CallerServed tells disk read_only) mids ends c.all_serve.auto.clients c.all_serve.ensures) c.take_passes.ensures
