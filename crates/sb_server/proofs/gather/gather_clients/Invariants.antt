use Rattle.std.proofs.Common.{Ok}
use Rattle.sb_server.specs.Gatherings.{client_asks, AsksFor, AreClientsAnew}
use Rattle.sb_server.proofs.gather.gather_clients.Given as goal

-- so many were made
abbrev pub invariant-loop-made : goal.invariant-loop-made
invariant-loop-made g l = record {
  asks : AsksFor (client_asks l.fn.store l.fn.address l.fn.limit l._made)
      (g.W.World.view l.fn.world) (g.W.World.view l.world) (Ok (tt {0}));
  anew : AreClientsAnew g.W.Listener.Listener g.W.Link.Link l.fn.geometry l._made l.clients.items;
}
