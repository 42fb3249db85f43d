use Rattle.std.proofs.Common.{refl, sym, ap, ◌∙◌, ◌≡◌}
use Rattle.sb_core.specs.declared.standing.Fixed.{Fixed}
use Rattle.sb_server.specs.Servers.{first_fault, serve_end}
use Rattle.sb_server.proofs.Mounting.{clients_fit, workers_fit, handed_since}
use Rattle.sb_server.proofs.server.serve_link.Goals as goal

pub serve_all-all-requires-clause-clients : goal.serve_all-all-requires-clause-clients
serve_all-all-requires-clause-clients g c κs within =
    clients_fit g.W.Listener.Listener g.W.Link.Link c.args.mount.now.geometry c.in-Ok-make_disk.disk _ _
    (ap (λ (fixed : Fixed). fixed.geometry) c.in-Ok-make_disk.ensures.fixed) c.requires.crew.clients

pub serve_all-all-requires-clause-workers : goal.serve_all-all-requires-clause-workers
serve_all-all-requires-clause-workers g c κs within =
    workers_fit g.W.Link.Link c.args.mount.now.geometry c.in-Ok-make_disk.disk _ _ _
    (ap (λ (fixed : Fixed). fixed.geometry) c.in-Ok-make_disk.ensures.fixed) c.requires.crew.workers

pub returns-in-Ok-make_disk : goal.returns-in-Ok-make_disk
returns-in-Ok-make_disk g c =
    let handed = handed_since _ _ _ _ (c.gate-gate.ensures ∙ c.serving.ensures) c.hand_over.ensures in
    record {
      disk = c.in-Ok-make_disk.disk;
      all = record {
        pass = c.in-Ok-make_disk.pass;
        clients = c.args.crew.clients;
        workers = c.args.crew.workers;
        desk = c.in-Ok.desk;
      };
      all' = c.serve_all-all.result.0;
      clients_are = refl;
      workers_are = refl;
      desk_is = rw (c.in-Ok.ensures.made.0, c.in-Ok.ensures.made.1) refl;
      desk_is' = rw (c.into_parts-link.ensures) refl;
      flushed = c.serve_all-all.result.1;
      served = record {
        new = c.in-Ok-make_disk.ensures;
        served = c.serve_all-all.ensures.served;
        flush = c.serve_all-all.ensures.flush;
        safe = c.serve_all-all.ensures.safe;
      };
      pass_is = refl;
      result_is = c.serve_end-result.ensures
          ∙ ap (λ ended. serve_end ended c.serve_all-all.result.1) c.first_fault.ensures
          ∙ ap (λ clients. serve_end (first_fault clients) c.serve_all-all.result.1) c.deref.ensures.value;
      heard = handed.0;
      others = handed.1;
    }
