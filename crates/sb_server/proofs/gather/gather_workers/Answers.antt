use Rattle.std.proofs.Common.{ℕ, ◌≡◌, refl, subst, Ok, rules, arith}
use Rattle.std.proofs.lemmas.Grind.{common_steps}
use Rattle.sb_world.specs.declared.world.MakeFault.TheVariants as fault
use Rattle.sb_server.specs.Gatherings.{worker_asks, AsksFor, AreWorkersAnew}
use Rattle.sb_server.proofs.Asking.{asks_made, asks_in_vain, more_workers, workers_failed, workers_more}
use Rattle.sb_server.proofs.gather.gather_workers.Goals as goal

pub returns-in-Err-push-clause-asks : goal.returns-in-Err-push-clause-asks
returns-in-Err-push-clause-asks g c =
    workers_failed (Unit {0}) _ _ _ _ c.args.store.now c.loop-number.number c.args.count
    fault.Memory c.loop-number-test.true c.loop-number.invariant.asks
    (asks_in_vain _ (Unit {0}) _ _ _ c.in-Ok.desk c.in-Ok.ensures.asks)

pub returns-in-Err-clause-asks : goal.returns-in-Err-clause-asks
returns-in-Err-clause-asks g c =
    workers_failed _ _ _ _ _ c.args.store.now c.loop-number.number c.args.count
    c.in-Err.fault c.loop-number-test.true c.loop-number.invariant.asks c.in-Err.ensures.asks

pub loop-number-preserved : goal.loop-number-preserved
loop-number-preserved g c = record {
  asks = more_workers _ _ _ _ c.args.store.now c.loop-number.number c.in-Ok.desk
      c.loop-number.invariant.asks c.in-Ok.ensures.asks;
  anew = workers_more g.W.Link.Link c.args.geometry.now c.loop-number.number
      c.loop-number.workers.items c.push.new.self.items c.new.result
      (record { desk = c.in-Ok.desk; number = c.loop-number.number }) c.loop-number.invariant.anew
      c.in-Ok.ensures.anew refl c.new.ensures c.in-Ok-push.ensures.items;
}

pub returns-clause-asks : goal.returns-clause-asks
returns-clause-asks g c =
    let whole : c.loop-number.number ≡ c.args.count = first_of (search rules, grind (arith, common_steps)) in
    asks_made (Unit {0}) _ _ _ _ (tt {0}) _
    (subst (λ (n : ℕ). AsksFor (worker_asks c.args.store.now n)
    (g.W.World.view c.args.world.now) (g.W.World.view c.loop-number.world) (Ok (tt {0}))) whole
    c.loop-number.invariant.asks)

pub returns-clause-anew : goal.returns-clause-anew
returns-clause-anew g c =
    let whole : c.loop-number.number ≡ c.args.count = first_of (search rules, grind (arith, common_steps)) in
    subst (λ (n : ℕ). AreWorkersAnew g.W.Link.Link c.args.geometry.now 0 n
    c.loop-number.workers.items) whole c.loop-number.invariant.anew
