use Rattle.std.proofs.Common.{List, ◌≡◌, subst, rules, arith}
use Rattle.std.proofs.lemmas.Grind.{common_steps}
use Rattle.sb_server.specs.declared.caller.Caller.{Caller}
use Rattle.sb_server.specs.declared.client.Client.{Client}
use Rattle.sb_server.specs.Handings.{heard_of_clients, HandsOver}
use Rattle.sb_server.proofs.Heard.{client_hands}
use Rattle.sb_server.proofs.handing.hand_clients.Goals as goal

pub loop-client-preserved : goal.loop-client-preserved
loop-client-preserved g c = record {
  handed = client_hands _ _ _ c.loop-client.yielded c.in-Some.client c.into_tools-listener.result c.into_parts.result
      c.loop-client.invariant.handed c.into_tools-listener.ensures c.into_parts.ensures c.hang_up.ensures;
  others = first_of (search rules, grind (arith, common_steps));
}

pub returns : goal.returns
returns g c =
    let whole : c.loop-client.yielded ≡ c.args.clients.items = first_of (search rules, grind (arith, common_steps)) in
    subst (λ (l : List (Caller (Client g.row.W-Listener.Denot g.row.W-Link.Denot g.row.W-Clock.Denot))). HandsOver (g.W.World.view c.args.world.now)
    (g.W.World.view c.loop-client.world) (heard_of_clients l)) whole c.loop-client.invariant.handed
