use Rattle.std.proofs.Common.{◌∙◌, arith, length, ◌<◌}
use Rattle.test_blocks.proofs.SlotLemmas.{found, none_beyond, body_sized}
use Rattle.test_blocks.proofs.plain.Plain.slot.Goals as goal

pub returns-then-block-self-clause-entry : goal.returns-then-block-self-clause-entry
returns-then-block-self-clause-entry c = none_beyond c.self.inside.geometry c.self.inside.room c.self.inside.slots.items c.args.self.now c.self.view_is
    c.self.invariant c.args.block c.if-block-self.true

pub returns-in-Some-clause-sized : goal.returns-in-Some-clause-sized
returns-in-Some-clause-sized c =
    let on : c.args.block < length c.self.inside.slots.items = omega (arith, c.if-block-self.false, c.self.invariant.each) in
    body_sized c.self.inside.geometry c.self.inside.room c.self.inside.slots.items c.args.self.now c.self.view_is
    c.self.invariant c.args.block c.in-Some.slot
    (found c.self.inside.geometry c.self.inside.room c.self.inside.slots.items c.args.self.now c.self.view_is
    c.self.invariant c.args.block c.index.result.now c.index.result.now on c.index.ensures ∙ c.in-Some.is)

pub returns-in-Some-clause-entry : goal.returns-in-Some-clause-entry
returns-in-Some-clause-entry c =
    let on : c.args.block < length c.self.inside.slots.items = omega (arith, c.if-block-self.false, c.self.invariant.each) in
    found c.self.inside.geometry c.self.inside.room c.self.inside.slots.items c.args.self.now c.self.view_is
    c.self.invariant c.args.block c.index.result.now c.index.result.now on c.index.ensures ∙ c.in-Some.is

pub returns-in-None-clause-entry : goal.returns-in-None-clause-entry
returns-in-None-clause-entry c =
    let on : c.args.block < length c.self.inside.slots.items = omega (arith, c.if-block-self.false, c.self.invariant.each) in
    found c.self.inside.geometry c.self.inside.room c.self.inside.slots.items c.args.self.now c.self.view_is
    c.self.invariant c.args.block c.index.result.now c.index.result.now on c.index.ensures ∙ c.in-None.is
