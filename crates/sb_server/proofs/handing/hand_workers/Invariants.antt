use Rattle.std.proofs.Common.{◌≡◌, ◌++◌}
use Rattle.std.specs.Vec.Iter.{into_iter_items}
use Rattle.sb_server.specs.Handings.{heard_of_workers, HandsOver}
use Rattle.sb_server.proofs.handing.hand_workers.Given as goal

-- those so far have handed over what is theirs
abbrev pub invariant-loop-worker : goal.invariant-loop-worker
invariant-loop-worker g l = record {
  handed : HandsOver (g.W.World.view l.fn.world) (g.W.World.view l.world) (heard_of_workers l.yielded);
  others : l.fn.workers.items ≡ l.yielded ++ into_iter_items l.worker-iterator;
}
