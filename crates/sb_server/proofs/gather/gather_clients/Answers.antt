use Rattle.std.proofs.Common.{ℕ, ◌≡◌, subst, Ok, rules, arith}
use Rattle.std.proofs.lemmas.Grind.{common_steps}
use Rattle.sb_world.specs.declared.world.MakeFault.TheVariants as fault
use Rattle.sb_server.specs.Gatherings.{client_asks, AsksFor, AreClientsAnew}
use Rattle.sb_server.proofs.Asking.{asks_made, asks_in_vain, more_clients, clients_failed, clients_more}
use Rattle.sb_server.proofs.gather.gather_clients.Goals as goal

pub returns-in-Err-push-clause-asks : goal.returns-in-Err-push-clause-asks
returns-in-Err-push-clause-asks g c =
    clients_failed (Unit {0}) _ _ _ _ c.args.store.now c.args.address.now c.args.limit c.loop-made._made c.args.count
    fault.Memory c.loop-made-test.true c.loop-made.invariant.asks
    (asks_in_vain _ (Unit {0}) _ _ _ c.in-Ok.client c.in-Ok.ensures.asks)

pub returns-in-Err-clause-asks : goal.returns-in-Err-clause-asks
returns-in-Err-clause-asks g c =
    clients_failed _ _ _ _ _ c.args.store.now c.args.address.now c.args.limit c.loop-made._made c.args.count
    c.in-Err.fault c.loop-made-test.true c.loop-made.invariant.asks c.in-Err.ensures.asks

pub loop-made-preserved : goal.loop-made-preserved
loop-made-preserved g c = record {
  asks = more_clients _ _ _ _ c.args.store.now c.args.address.now c.args.limit c.loop-made._made c.in-Ok.client
      c.loop-made.invariant.asks c.in-Ok.ensures.asks;
  anew = clients_more g.W.Listener.Listener g.W.Link.Link c.args.geometry.now c.loop-made._made
      c.loop-made.clients.items c.push.new.self.items c.new.result c.in-Ok.client c.loop-made.invariant.anew
      c.in-Ok.ensures.anew c.new.ensures c.in-Ok-push.ensures.items;
}

pub returns-clause-asks : goal.returns-clause-asks
returns-clause-asks g c =
    let whole : c.loop-made._made ≡ c.args.count = first_of (search rules, grind (arith, common_steps)) in
    asks_made (Unit {0}) _ _ _ _ (tt {0}) _
    (subst (λ (n : ℕ). AsksFor (client_asks c.args.store.now c.args.address.now c.args.limit n)
    (g.W.World.view c.args.world.now) (g.W.World.view c.loop-made.world) (Ok (tt {0}))) whole
    c.loop-made.invariant.asks)

pub returns-clause-anew : goal.returns-clause-anew
returns-clause-anew g c =
    let whole : c.loop-made._made ≡ c.args.count = first_of (search rules, grind (arith, common_steps)) in
    subst (λ (n : ℕ). AreClientsAnew g.W.Listener.Listener g.W.Link.Link c.args.geometry.now n
    c.loop-made.clients.items) whole c.loop-made.invariant.anew
