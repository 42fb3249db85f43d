use Rattle.std.proofs.Common.{◌∙◌, ap, length, is_some}
use Rattle.std.specs.List.{filter}
use Rattle.test_blocks.proofs.SlotLemmas.{counted}
use Rattle.test_blocks.proofs.plain.Plain.held.Goals as goal

pub returns : goal.returns
returns c =
    c.count_held.ensures.count ∙ ap (λ slots. length (filter is_some slots)) c.deref.ensures.value
    ∙ counted c.self.inside.geometry c.self.inside.room c.self.inside.slots.items c.args.self.now c.self.view_is
    c.self.invariant
