use Rattle.std.proofs.Common.{◌∙◌, ap, sym, subst, length, None}
use Rattle.std.specs.FinMap.{get}
use Rattle.sb_base.specs.Lines.{shown_of}
use Rattle.sb_history.specs.Cache.{answer_content}
use Rattle.sb_blocks.specs.declared.cached.Cached.{Cached}
use Rattle.sb_blocks.specs.Moves.{taken, ShowsContent}
use Rattle.sb_blocks.specs.Caches.{with_entry}
use Rattle.test_blocks.proofs.SlotLemmas.{on_slots, found, body_sized, set_shaped, set_view}
use Rattle.sb_blocks.specs.EntryLaws.{never_get}
use Rattle.sb_blocks.specs.EntryLaws.{taken_length}
use Rattle.test_blocks.proofs.plain.PlainTable.end_read.Goals as goal

pub take-requires : goal.take-requires
take-requires c =
    let on = on_slots c.self.inside.geometry c.self.inside.room c.self.inside.slots.items c.args.self.now c.self.view_is
    c.self.invariant c.args.block c.requires.on_disk in
    let held = found c.self.inside.geometry c.self.inside.room c.self.inside.slots.items c.args.self.now c.self.view_is
    c.self.invariant c.args.block c.index_mut.result.now c.index_mut.result.now on c.index_mut.ensures.value ∙ c.in-Some.is in
    subst (λ size. ShowsContent size (shown_of c.args.answer)) (sym (body_sized c.self.inside.geometry c.self.inside.room c.self.inside.slots.items c.args.self.now c.self.view_is
    c.self.invariant c.args.block c.in-Some.slot held))
    (c.requires.content c.if-not-take.false)

pub unreachable-requires : goal.unreachable-requires
unreachable-requires c =
    let on = on_slots c.self.inside.geometry c.self.inside.room c.self.inside.slots.items c.args.self.now c.self.view_is
    c.self.invariant c.args.block c.requires.on_disk in
    let none = found c.self.inside.geometry c.self.inside.room c.self.inside.slots.items c.args.self.now c.self.view_is
    c.self.invariant c.args.block c.index_mut.result.now c.index_mut.result.now on c.index_mut.ensures.value ∙ c.in-None.is in
    never_get (get c.args.self.now.cached c.args.block) none c.requires.open

pub invariant_of-self : goal.invariant_of-self
invariant_of-self c =
    let on = on_slots c.self.inside.geometry c.self.inside.room c.self.inside.slots.items c.args.self.now c.self.view_is
    c.self.invariant c.args.block c.requires.on_disk in
    let held = found c.self.inside.geometry c.self.inside.room c.self.inside.slots.items c.args.self.now c.self.view_is
    c.self.invariant c.args.block c.index_mut.result.now c.index_mut.result.now on c.index_mut.ensures.value ∙ c.in-Some.is in
    let shows = subst (λ size. ShowsContent size (shown_of c.args.answer)) (sym (body_sized c.self.inside.geometry c.self.inside.room c.self.inside.slots.items c.args.self.now c.self.view_is
    c.self.invariant c.args.block c.in-Some.slot held))
    (c.requires.content c.if-not-take.false) in
    set_shaped c.self.inside.geometry c.self.inside.room c.self.inside.slots.items c.args.self.now c.self.view_is
    c.self.invariant c.args.block c.in-Some.slot c.take.new.self on held
    (ap (λ (e : Cached). length e.body) c.take.ensures ∙ taken_length (length c.in-Some.slot.body) (shown_of c.args.answer) shows)

pub returns : goal.returns
returns c =
    let on = on_slots c.self.inside.geometry c.self.inside.room c.self.inside.slots.items c.args.self.now c.self.view_is
    c.self.invariant c.args.block c.requires.on_disk in
    let held = found c.self.inside.geometry c.self.inside.room c.self.inside.slots.items c.args.self.now c.self.view_is
    c.self.invariant c.args.block c.index_mut.result.now c.index_mut.result.now on c.index_mut.ensures.value ∙ c.in-Some.is in
    rw c.if-not-take.false
    (set_view c.self.inside.geometry c.self.inside.room c.self.inside.slots.items c.args.self.now c.self.view_is
    c.self.invariant c.args.block c.take.new.self on ∙ ap (with_entry c.args.self.now c.args.block) (c.take.ensures
    ∙ ap (λ size. taken c.args.now c.args.place (answer_content size None (shown_of c.args.answer)))
    (body_sized c.self.inside.geometry c.self.inside.room c.self.inside.slots.items c.args.self.now c.self.view_is
    c.self.invariant c.args.block c.in-Some.slot held)))
