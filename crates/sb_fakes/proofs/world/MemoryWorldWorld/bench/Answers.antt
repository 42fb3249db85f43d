use Rattle.std.proofs.Common.{refl, sym, subst, arith}
use Rattle.std.proofs.lemmas.Grind.{common_steps}
use Rattle.sb_world.specs.Told.{IsUnused}
use Rattle.sb_fakes.specs.Fresh.{AreUnused}
use Rattle.sb_fakes.proofs.FreshLemmas.{left_so, front_unused}
use Rattle.sb_fakes.proofs.world.MemoryWorldWorld.bench.Goals as goal

pub invariant_of-self-in-Ok : goal.invariant_of-self-in-Ok
invariant_of-self-in-Ok g c = record {
  unused = left_so (λ link. IsUnused (g.L.Link.log link) (g.L.Link.faults link)) c.links_of-count.result
      c.args.self.now.links.items c.take_front.new.items.items c.in-Ok.ensures.1 c.args.self.now.unused;
  untouched = c.args.self.now.untouched;
}

pub invariant_of-self-in-Err : goal.invariant_of-self-in-Err
invariant_of-self-in-Err g c = record {
  unused = left_so (λ link. IsUnused (g.L.Link.log link) (g.L.Link.faults link)) 0 c.args.self.now.links.items
      c.take_front.new.items.items c.in-Err.ensures c.args.self.now.unused;
  untouched = c.args.self.now.untouched;
}

pub returns-in-Ok-clause-makes : goal.returns-in-Ok-clause-makes
returns-in-Ok-clause-makes g c = record {
  linked = grind (arith, common_steps);
  next_is = grind (arith, common_steps);
  asked = c.keep_ask.ensures;
  counted = grind (arith, common_steps);
  same_tells = refl;
  same_last = refl;
  same_said = refl;
  same_heard = refl;
}

pub returns-in-Ok-clause-unused : goal.returns-in-Ok-clause-unused
returns-in-Ok-clause-unused g c = subst (AreUnused g.L.Link.log g.L.Link.faults) (sym c.in-Ok.ensures.0)
    (front_unused g.L.Link.log g.L.Link.faults c.links_of-count.result c.args.self.now.links.items
    c.args.self.now.unused)
