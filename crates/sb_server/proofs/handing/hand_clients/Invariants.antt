use Rattle.std.proofs.Common.{◌≡◌, ◌++◌}
use Rattle.std.specs.Vec.Iter.{into_iter_items}
use Rattle.sb_server.specs.Handings.{heard_of_clients, HandsOver}
use Rattle.sb_server.proofs.handing.hand_clients.Given as goal

-- those so far have handed over what is theirs
abbrev pub invariant-loop-client : goal.invariant-loop-client
invariant-loop-client g l = record {
  handed : HandsOver (g.W.World.view l.fn.world) (g.W.World.view l.world) (heard_of_clients l.yielded);
  others : l.fn.clients.items ≡ l.yielded ++ into_iter_items l.client-iterator;
}
