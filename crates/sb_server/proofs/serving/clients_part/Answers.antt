use Rattle.std.proofs.Common.{List, length, drop, refl, sym, ◌∙◌, subst}
use Rattle.sb_server.specs.declared.caller.Caller.{Caller}
use Rattle.sb_server.specs.declared.client.Client.{Client}
use Rattle.sb_server.specs.Tellings.{telling}
use Rattle.sb_server.specs.Clients.{CrowdDid}
use Rattle.sb_server.proofs.Calling.{slice_back}
use Rattle.sb_server.proofs.serving.clients_part.Goals as goal

pub returns-clause-did : goal.returns-clause-did
returns-clause-did g c =
    let X = List (Caller (Client g.row.N.Denot g.row.L.Denot g.row.C.Denot)) in
    let tells = telling g.N.Listener g.L.Link g.C.Clock g.N.Source.Source g.N.Sink.Sink in
    let olds : X = c.args.clients.items in
    let news : X = c.serve_clients.new.clients in
    let back = slice_back news (drop (length news) olds) c.args.clients.len
    (c.serve_clients.auto.clients ∙ c.as_mut_slice.ensures.len) in
    let Did = λ (first second : X).
    CrowdDid tells c.args.disk.now c.args.read_only c.args.pass c.serve_clients.new.pass first second in
    let did = c.close.ensures.did in
    record {
      last = c.serve_clients.new.pass;
      crowd = subst (λ (second : X). Did olds second) (sym back)
          (subst (λ (first : X). Did first news) c.as_mut_slice.ensures.value c.serve_clients.ensures);
      exact = c.outside_a_turn.ensures.joined;
      own = c.outside_a_turn.ensures.own;
      reading = did.0;
      now = did.1;
      closes = did.2;
      same_link = refl;
      room = c.requires.room;
    }
