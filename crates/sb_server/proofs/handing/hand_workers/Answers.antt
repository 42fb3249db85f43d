use Rattle.std.proofs.Common.{List, ◌≡◌, subst, rules, arith}
use Rattle.std.proofs.lemmas.Grind.{common_steps}
use Rattle.sb_server.specs.declared.caller.Caller.{Caller}
use Rattle.sb_server.specs.declared.worker.Worker.{Worker}
use Rattle.sb_server.specs.Handings.{heard_of_workers, HandsOver}
use Rattle.sb_server.proofs.Heard.{worker_hands}
use Rattle.sb_server.proofs.handing.hand_workers.Goals as goal

pub loop-worker-preserved : goal.loop-worker-preserved
loop-worker-preserved g c = record {
  handed = worker_hands _ _ _ c.loop-worker.yielded c.in-Some.worker c.into_tools-desk.result c.into_parts.result
      c.loop-worker.invariant.handed c.into_tools-desk.ensures c.into_parts.ensures c.hang_up.ensures;
  others = first_of (search rules, grind (arith, common_steps));
}

pub returns : goal.returns
returns g c =
    let whole : c.loop-worker.yielded ≡ c.args.workers.items = first_of (search rules, grind (arith, common_steps)) in
    subst (λ (l : List (Caller (Worker g.row.W-Link.Denot g.row.W-Clock.Denot))). HandsOver (g.W.World.view c.args.world.now)
    (g.W.World.view c.loop-worker.world) (heard_of_workers l)) whole c.loop-worker.invariant.handed
