use Rattle.std.proofs.Common.{◌∙◌, ap, length}
use Rattle.std.specs.FinMap.{get}
use Rattle.sb_blocks.specs.declared.cached.Cached.{Cached}
use Rattle.sb_blocks.specs.Moves.{put_ended}
use Rattle.sb_blocks.specs.Caches.{with_entry}
use Rattle.test_blocks.proofs.SlotLemmas.{on_slots, found, set_shaped, set_view}
use Rattle.sb_blocks.specs.EntryLaws.{changes, never_put}
use Rattle.test_blocks.proofs.plain.PlainTable.end_write.Goals as goal

pub unreachable-requires : goal.unreachable-requires
unreachable-requires c =
    let on = on_slots c.self.inside.geometry c.self.inside.room c.self.inside.slots.items c.args.self.now c.self.view_is
    c.self.invariant c.args.block c.requires.on_disk in
    let none = found c.self.inside.geometry c.self.inside.room c.self.inside.slots.items c.args.self.now c.self.view_is
    c.self.invariant c.args.block c.index_mut.result.now c.index_mut.result.now on c.index_mut.ensures.value ∙ c.in-None.is in
    never_put (get c.args.self.now.cached c.args.block) none c.requires.open

pub invariant_of-self : goal.invariant_of-self
invariant_of-self c =
    let on = on_slots c.self.inside.geometry c.self.inside.room c.self.inside.slots.items c.args.self.now c.self.view_is
    c.self.invariant c.args.block c.requires.on_disk in
    let held = found c.self.inside.geometry c.self.inside.room c.self.inside.slots.items c.args.self.now c.self.view_is
    c.self.invariant c.args.block c.index_mut.result.now c.index_mut.result.now on c.index_mut.ensures.value ∙ c.in-Some.is in
    set_shaped c.self.inside.geometry c.self.inside.room c.self.inside.slots.items c.args.self.now c.self.view_is
    c.self.invariant c.args.block c.in-Some.slot c.end_put.new.self on held (ap (λ (e : Cached). length e.body) c.end_put.ensures)

pub returns : goal.returns
returns c =
    let on = on_slots c.self.inside.geometry c.self.inside.room c.self.inside.slots.items c.args.self.now c.self.view_is
    c.self.invariant c.args.block c.requires.on_disk in
    let held = found c.self.inside.geometry c.self.inside.room c.self.inside.slots.items c.args.self.now c.self.view_is
    c.self.invariant c.args.block c.index_mut.result.now c.index_mut.result.now on c.index_mut.ensures.value ∙ c.in-Some.is in
    changes c.args.self.now _ c.args.block (put_ended c.args.ok c.args.now) (get c.args.self.now.cached c.args.block) c.in-Some.slot held
    (set_view c.self.inside.geometry c.self.inside.room c.self.inside.slots.items c.args.self.now c.self.view_is
    c.self.invariant c.args.block c.end_put.new.self on ∙ ap (with_entry c.args.self.now c.args.block) c.end_put.ensures)
