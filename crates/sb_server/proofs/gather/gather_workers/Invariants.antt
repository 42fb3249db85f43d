use Rattle.std.proofs.Common.{Ok}
use Rattle.sb_server.specs.Gatherings.{worker_asks, AsksFor, AreWorkersAnew}
use Rattle.sb_server.proofs.gather.gather_workers.Given as goal

-- so many were made
abbrev pub invariant-loop-number : goal.invariant-loop-number
invariant-loop-number g l = record {
  asks : AsksFor (worker_asks l.fn.store l.number) (g.W.World.view l.fn.world) (g.W.World.view l.world) (Ok (tt {0}));
  anew : AreWorkersAnew g.W.Link.Link l.fn.geometry 0 l.number l.workers.items;
}
