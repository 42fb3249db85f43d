use Rattle.test_blocks.proofs.SlotLemmas.{on_slots, fresh_shaped, set_view}
use Rattle.test_blocks.proofs.plain.Plain.insert.Goals as goal

pub invariant_of-self : goal.invariant_of-self
invariant_of-self c =
    fresh_shaped c.self.inside.geometry c.self.inside.room c.self.inside.slots.items c.args.self.now c.self.view_is
    c.self.invariant c.args.block c.args.slot (on_slots c.self.inside.geometry c.self.inside.room c.self.inside.slots.items c.args.self.now c.self.view_is
    c.self.invariant c.args.block c.requires.on_disk) c.requires.missing
    c.requires.free c.requires.sized

pub returns : goal.returns
returns c = set_view c.self.inside.geometry c.self.inside.room c.self.inside.slots.items c.args.self.now c.self.view_is
    c.self.invariant c.args.block c.args.slot (on_slots c.self.inside.geometry c.self.inside.room c.self.inside.slots.items c.args.self.now c.self.view_is
    c.self.invariant c.args.block c.requires.on_disk)
