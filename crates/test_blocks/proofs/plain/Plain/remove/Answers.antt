use Rattle.test_blocks.proofs.SlotLemmas.{on_slots, gone_shaped, gone_view}
use Rattle.test_blocks.proofs.plain.Plain.remove.Goals as goal

pub invariant_of-self : goal.invariant_of-self
invariant_of-self c = gone_shaped c.self.inside.geometry c.self.inside.room c.self.inside.slots.items c.args.self.now c.self.view_is
    c.self.invariant c.args.block (on_slots c.self.inside.geometry c.self.inside.room c.self.inside.slots.items c.args.self.now c.self.view_is
    c.self.invariant c.args.block c.requires.on_disk)

pub returns : goal.returns
returns c = gone_view c.self.inside.geometry c.self.inside.room c.self.inside.slots.items c.args.self.now c.self.view_is
    c.self.invariant c.args.block (on_slots c.self.inside.geometry c.self.inside.room c.self.inside.slots.items c.args.self.now c.self.view_is
    c.self.invariant c.args.block c.requires.on_disk)
