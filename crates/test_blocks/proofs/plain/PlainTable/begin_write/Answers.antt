use Rattle.std.proofs.Common.{◌∙◌, ap, sym, length}
use Rattle.std.specs.FinMap.{get}
use Rattle.sb_blocks.specs.declared.cached.Cached.{Cached}
use Rattle.sb_blocks.specs.Moves.{put_begun}
use Rattle.sb_blocks.specs.Cached.{is_dirty}
use Rattle.sb_blocks.specs.Caches.{with_entry}
use Rattle.test_blocks.proofs.SlotLemmas.{on_slots, found, body_sized, set_shaped, set_view}
use Rattle.sb_blocks.specs.EntryLaws.{copies, changes, never_none}
use Rattle.test_blocks.proofs.plain.PlainTable.begin_write.Goals as goal

pub unreachable-requires : goal.unreachable-requires
unreachable-requires c =
    let on = on_slots c.self.inside.geometry c.self.inside.room c.self.inside.slots.items c.args.self.now c.self.view_is
    c.self.invariant c.args.block c.requires.on_disk in
    let none = found c.self.inside.geometry c.self.inside.room c.self.inside.slots.items c.args.self.now c.self.view_is
    c.self.invariant c.args.block c.index_mut.result.now c.index_mut.result.now on c.index_mut.ensures.value ∙ c.in-None.is in
    never_none is_dirty (get c.args.self.now.cached c.args.block) none c.requires.dirty

pub invariant_of-self : goal.invariant_of-self
invariant_of-self c =
    let on = on_slots c.self.inside.geometry c.self.inside.room c.self.inside.slots.items c.args.self.now c.self.view_is
    c.self.invariant c.args.block c.requires.on_disk in
    let held = found c.self.inside.geometry c.self.inside.room c.self.inside.slots.items c.args.self.now c.self.view_is
    c.self.invariant c.args.block c.index_mut.result.now c.index_mut.result.now on c.index_mut.ensures.value ∙ c.in-Some.is in
    set_shaped c.self.inside.geometry c.self.inside.room c.self.inside.slots.items c.args.self.now c.self.view_is
    c.self.invariant c.args.block c.in-Some.slot c.begin_put.new.self on held (ap (λ (e : Cached). length e.body) c.begin_put.ensures)

pub returns-clause-begun : goal.returns-clause-begun
returns-clause-begun c =
    let on = on_slots c.self.inside.geometry c.self.inside.room c.self.inside.slots.items c.args.self.now c.self.view_is
    c.self.invariant c.args.block c.requires.on_disk in
    let held = found c.self.inside.geometry c.self.inside.room c.self.inside.slots.items c.args.self.now c.self.view_is
    c.self.invariant c.args.block c.index_mut.result.now c.index_mut.result.now on c.index_mut.ensures.value ∙ c.in-Some.is in
    changes c.args.self.now _ c.args.block (put_begun c.args.pass) (get c.args.self.now.cached c.args.block) c.in-Some.slot held
    (set_view c.self.inside.geometry c.self.inside.room c.self.inside.slots.items c.args.self.now c.self.view_is
    c.self.invariant c.args.block c.begin_put.new.self on ∙ ap (with_entry c.args.self.now c.args.block) c.begin_put.ensures)

pub read-requires : goal.read-requires
read-requires c =
    let on = on_slots c.self.inside.geometry c.self.inside.room c.self.inside.slots.items c.args.self.now c.self.view_is
    c.self.invariant c.args.block c.requires.on_disk in
    let held = found c.self.inside.geometry c.self.inside.room c.self.inside.slots.items c.args.self.now c.self.view_is
    c.self.invariant c.args.block c.index_mut.result.now c.index_mut.result.now on c.index_mut.ensures.value ∙ c.in-Some.is in
    c.requires.out ∙ sym (ap (λ (e : Cached). length e.body) c.begin_put.ensures ∙ body_sized c.self.inside.geometry c.self.inside.room c.self.inside.slots.items c.args.self.now c.self.view_is
    c.self.invariant c.args.block c.in-Some.slot held)

pub returns-clause-copied : goal.returns-clause-copied
returns-clause-copied c =
    let on = on_slots c.self.inside.geometry c.self.inside.room c.self.inside.slots.items c.args.self.now c.self.view_is
    c.self.invariant c.args.block c.requires.on_disk in
    let held = found c.self.inside.geometry c.self.inside.room c.self.inside.slots.items c.args.self.now c.self.view_is
    c.self.invariant c.args.block c.index_mut.result.now c.index_mut.result.now on c.index_mut.ensures.value ∙ c.in-Some.is in
    copies (get c.args.self.now.cached c.args.block) c.in-Some.slot c.read.new.out held c.requires.dirty
    (c.read.ensures ∙ ap (λ (e : Cached). e.body) c.begin_put.ensures)
