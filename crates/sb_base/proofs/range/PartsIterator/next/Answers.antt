use Rattle.std.proofs.Common.{rules, ◌<◌, ◌∙◌, sym, arith}
use Rattle.sb_base.proofs.PartLemmas.{parts_of-first}
use Rattle.sb_base.proofs.range.PartsIterator.next.Goals as goal

pub returns-clause-steps : goal.returns-clause-steps
returns-clause-steps c =
    let more : c.self.inside.at < c.self.inside.end = omega (arith, c.self.invariant.ordered) in
    sym c.self.view_is ∙ parts_of-first c.self.inside.block_size c.self.inside.at c.self.inside.end
    c.min-length.result c.self.invariant.some more c.min-length.ensures

pub returns-clause-goes : goal.returns-clause-goes
returns-clause-goes c = rw (returns-clause-steps c) (search rules)
