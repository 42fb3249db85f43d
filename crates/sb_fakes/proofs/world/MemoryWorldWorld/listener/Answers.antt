use Rattle.sb_fakes.specs.Fresh.{IsUntouched}
use Rattle.sb_fakes.proofs.FreshLemmas.{left_so, first_so, untouched}
use Rattle.sb_fakes.proofs.world.MemoryWorldWorld.listener.Goals as goal

pub invariant_of-self-2 : goal.invariant_of-self-2
invariant_of-self-2 g c = record {
  unused = c.args.self.now.unused;
  untouched = left_so IsUntouched 1 c.args.self.now.listeners.items c.take_first.new.items.items
      c.take_first.ensures.others c.args.self.now.untouched;
}

pub returns-clause-anew : goal.returns-clause-anew
returns-clause-anew g c = untouched c.take_first.result (first_so IsUntouched c.args.self.now.listeners.items
    c.take_first.result c.take_first.ensures.first c.args.self.now.untouched)
