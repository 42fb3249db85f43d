use Rattle.std.proofs.Common.{rules, arith, refl, sym, subst, ap, ◌∙◌, ◌≤◌, ◌+◌, ◌-◌, ◌++◌, ◌∷◌, [], length}
use Rattle.std.proofs.Common.{append_assoc, Err}
use Rattle.std.proofs.lemmas.Slice.{overwrites}
use borrow.Rule.Slice.PartMut.{put_mid}
use Rattle.sb_base.specs.declared.geometry.Geometry.{Geometry}
use Rattle.sb_base.specs.Ranges.{parts_of}
use Rattle.sb_session.specs.Answers.{ReadsRange}
use Rattle.sb_session.proofs.Reading.{reads_none, reads_more, reads_stop, part_within, length_more, length_piece}
use Rattle.sb_session.proofs.range.read_range.Goals as goal

pub loop-part-init : goal.loop-part-init
loop-part-init g c =
    let to = c.args.offset + c.args.count in
    record {
      ready = c.requires.ready;
      told = reads_none (g.D.Calls.base c.args.disk.now) _ c.args.room.now
          (g.D.Calls.did_nothing c.args.disk.now c.args.desk.now);
      split = c.into_iter-part-iterator.ensures.into_iter_gives ∙ c.parts-part-items.ensures.parts
          ∙ ap (λ (geometry : Geometry). parts_of geometry.block_size c.args.offset to) c.geometry-geometry.ensures;
      at = refl;
      base = refl;
      length = refl;
    }

pub loop-part-preserved : goal.loop-part-preserved
loop-part-preserved g c =
    let before = c.loop-part.invariant in
    let more = c.in-Ok.ensures in
    let part = c.in-Some.part in
    let yielded = c.loop-part.yielded in
    let to = c.args.offset + c.args.count in
    let split = ap (λ parts. yielded ++ parts) (sym c.in-Some.ensures.steps) ∙ before.split in
    let all = split ∙ ap (λ (geometry : Geometry). parts_of geometry.block_size c.args.offset to)
    (sym c.geometry-geometry.ensures) ∙ sym c.parts-part-items.ensures.parts in
    let fits = part_within yielded c.next.new.self c.parts-part-items.result part c.loop-part.at
    c.args.count all c.parts-part-items.ensures.whole before.at in
    let within : c.loop-part.at + part.length ≤ length c.loop-part.room =
    omega (arith, fits, before.length, c.requires.room) in
    let len = more.length ∙ length_piece c.loop-part.at part.length c.loop-part.room within in
    record {
      ready = more.ready;
      told = reads_more (g.D.Calls.base c.args.disk.now) _ _ _
          (g.D.Calls.did_both c.args.disk.now c.args.desk.now c.loop-part.disk
          c.loop-part.desk c.read.new.self c.read.new.desk) yielded part c.loop-part.at _ c.loop-part.room
          c.read.new.out len within before.told (rw before.base at more.did);
      split = append_assoc yielded (part ∷ []) c.next.new.self ∙ split;
      at = length_more yielded part c.loop-part.at before.at;
      base = more.base ∙ before.base;
      length = search (rules, overwrites, len, within, before.length);
    }

pub returns-in-Err-clause-told : goal.returns-in-Err-clause-told
returns-in-Err-clause-told g c =
    let before = c.loop-part.invariant in
    let yielded = c.loop-part.yielded in
    let did = g.D.Calls.did c.args.disk.now c.args.desk.now c.read.new.self c.read.new.desk in
    let split = ap (λ parts. yielded ++ parts) (sym c.in-Some.ensures.steps) ∙ before.split in
    let room = put_mid c.loop-part.at (c.loop-part.at + c.in-Some.part.length - c.loop-part.at)
    c.loop-part.room c.read.new.out in
    let stops = reads_stop (g.D.Calls.base c.args.disk.now) _ _ did
    (g.D.Calls.did_both c.args.disk.now c.args.desk.now c.loop-part.disk
    c.loop-part.desk c.read.new.self c.read.new.desk) yielded c.next.new.self c.in-Some.part
    c.loop-part.at c.args.count c.loop-part.room room c.read.new.out c.in-Err.fault before.told
    (rw before.base at c.in-Err.ensures.did) in
    subst (λ parts. ReadsRange (g.D.Calls.base c.args.disk.now) did parts c.args.count room (Err c.in-Err.fault))
    split stops
