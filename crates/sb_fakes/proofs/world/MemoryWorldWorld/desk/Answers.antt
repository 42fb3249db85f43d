use Rattle.sb_world.specs.Told.{IsUnused}
use Rattle.sb_fakes.proofs.FreshLemmas.{left_so, first_so, unused}
use Rattle.sb_fakes.proofs.world.MemoryWorldWorld.desk.Goals as goal

pub invariant_of-self-2 : goal.invariant_of-self-2
invariant_of-self-2 g c = record {
  unused = left_so (λ link. IsUnused (g.L.Link.log link) (g.L.Link.faults link)) 1 c.args.self.now.links.items
      c.take_first.new.items.items c.take_first.ensures.others c.args.self.now.unused;
  untouched = c.args.self.now.untouched;
}

pub returns-clause-unused : goal.returns-clause-unused
returns-clause-unused g c = unused (g.L.Link.log c.take_first.result) (g.L.Link.faults c.take_first.result)
    (first_so (λ link. IsUnused (g.L.Link.log link) (g.L.Link.faults link)) c.args.self.now.links.items
    c.take_first.result c.take_first.ensures.first c.args.self.now.unused)
