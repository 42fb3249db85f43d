use Rattle.std.proofs.Common.{◌∙◌, ap, length, arith, ◌≤◌, ◌+◌}
use Rattle.std.specs.FinMap.{get}
use Rattle.sb_blocks.specs.declared.cached.Cached.{Cached}
use Rattle.sb_blocks.specs.Caches.{with_entry}
use Rattle.test_blocks.proofs.SlotLemmas.{on_slots, found, body_sized, set_shaped, set_view, never_some}
use Rattle.sb_blocks.specs.EntryLaws.{after_held, overlay_length}
use Rattle.test_blocks.proofs.plain.Plain.write_held.Goals as goal

pub write-requires : goal.write-requires
write-requires c =
    let on = on_slots c.self.inside.geometry c.self.inside.room c.self.inside.slots.items c.args.self.now c.self.view_is
    c.self.invariant c.args.part.block c.requires.part.block in
    let held = found c.self.inside.geometry c.self.inside.room c.self.inside.slots.items c.args.self.now c.self.view_is
    c.self.invariant c.args.part.block c.index_mut.result.now c.index_mut.result.now on c.index_mut.ensures.value ∙ c.in-Some.is in
    let sized = body_sized c.self.inside.geometry c.self.inside.room c.self.inside.slots.items c.args.self.now c.self.view_is
    c.self.invariant c.args.part.block c.in-Some.slot held in
    omega (arith, c.requires.part.within, c.requires.bytes, sized)

pub unreachable-requires : goal.unreachable-requires
unreachable-requires c =
    let on = on_slots c.self.inside.geometry c.self.inside.room c.self.inside.slots.items c.args.self.now c.self.view_is
    c.self.invariant c.args.part.block c.requires.part.block in
    let none = found c.self.inside.geometry c.self.inside.room c.self.inside.slots.items c.args.self.now c.self.view_is
    c.self.invariant c.args.part.block c.index_mut.result.now c.index_mut.result.now on c.index_mut.ensures.value ∙ c.in-None.is in
    never_some (get c.args.self.now.cached c.args.part.block) none c.requires.held

pub invariant_of-self : goal.invariant_of-self
invariant_of-self c =
    let on = on_slots c.self.inside.geometry c.self.inside.room c.self.inside.slots.items c.args.self.now c.self.view_is
    c.self.invariant c.args.part.block c.requires.part.block in
    let held = found c.self.inside.geometry c.self.inside.room c.self.inside.slots.items c.args.self.now c.self.view_is
    c.self.invariant c.args.part.block c.index_mut.result.now c.index_mut.result.now on c.index_mut.ensures.value ∙ c.in-Some.is in
    let sized = body_sized c.self.inside.geometry c.self.inside.room c.self.inside.slots.items c.args.self.now c.self.view_is
    c.self.invariant c.args.part.block c.in-Some.slot held in
    let within : c.args.part.offset + length c.args.bytes.now ≤ length c.in-Some.slot.body =
    omega (arith, c.requires.part.within, c.requires.bytes, sized) in
    set_shaped c.self.inside.geometry c.self.inside.room c.self.inside.slots.items c.args.self.now c.self.view_is
    c.self.invariant c.args.part.block c.in-Some.slot c.write.new.self on held
    (ap (λ (e : Cached). length e.body) c.write.ensures
    ∙ overlay_length c.in-Some.slot.body c.args.bytes.now c.args.part.offset within)

pub returns : goal.returns
returns c =
    let on = on_slots c.self.inside.geometry c.self.inside.room c.self.inside.slots.items c.args.self.now c.self.view_is
    c.self.invariant c.args.part.block c.requires.part.block in
    let held = found c.self.inside.geometry c.self.inside.room c.self.inside.slots.items c.args.self.now c.self.view_is
    c.self.invariant c.args.part.block c.index_mut.result.now c.index_mut.result.now on c.index_mut.ensures.value ∙ c.in-Some.is in
    after_held c.args.self.now _ c.args.known_zero c.args.now c.args.place c.args.epoch c.args.part c.args.bytes.now
    (get c.args.self.now.cached c.args.part.block) c.in-Some.slot held
    (set_view c.self.inside.geometry c.self.inside.room c.self.inside.slots.items c.args.self.now c.self.view_is
    c.self.invariant c.args.part.block c.write.new.self on ∙ ap (with_entry c.args.self.now c.args.part.block) c.write.ensures)
