use Rattle.std.proofs.Common.{◌∙◌, ap, length}
use Rattle.std.specs.List.{filter}
use Rattle.sb_blocks.specs.Cached.{is_dirty, passes}
use Rattle.test_blocks.proofs.SlotLemmas.{passing}
use Rattle.test_blocks.proofs.plain.PlainTable.dirty.Goals as goal

pub returns : goal.returns
returns c =
    c.count_dirty.ensures.count ∙ ap (λ slots. length (filter (passes is_dirty) slots)) c.deref.ensures.value
    ∙ passing c.self.inside.geometry c.self.inside.room c.self.inside.slots.items c.args.self.now c.self.view_is
    c.self.invariant is_dirty
