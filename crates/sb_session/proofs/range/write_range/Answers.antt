use Rattle.std.proofs.Common.{refl, sym, subst, ap, ◌∙◌, ◌+◌, ◌++◌, ◌∷◌, [], length, append_assoc, Err}
use Rattle.sb_base.specs.declared.geometry.Geometry.{Geometry}
use Rattle.sb_base.specs.Ranges.{parts_of}
use Rattle.sb_session.specs.Answers.{WritesRange}
use Rattle.sb_session.specs.Goals.{writes_of}
use Rattle.sb_session.proofs.Reading.{length_more}
use Rattle.sb_session.proofs.Writing.{writes_none, writes_more, writes_stop}
use Rattle.sb_session.proofs.range.write_range.Goals as goal

pub loop-part-init : goal.loop-part-init
loop-part-init g c =
    let to = c.args.offset + length c.args.payload.now in
    record {
      ready = c.requires.ready;
      told = writes_none (g.D.Calls.base c.args.disk.now) _ c.args.payload.now
          (g.D.Calls.did_nothing c.args.disk.now c.args.desk.now);
      split = c.into_iter-part-iterator.ensures.into_iter_gives ∙ c.parts-part-items.ensures.parts
          ∙ ap (λ (geometry : Geometry). parts_of geometry.block_size c.args.offset to) c.geometry-geometry.ensures;
      at = refl;
      base = refl;
    }

pub loop-part-preserved : goal.loop-part-preserved
loop-part-preserved g c =
    let before = c.loop-part.invariant in
    let more = c.in-Ok.ensures in
    let part = c.in-Some.part in
    let yielded = c.loop-part.yielded in
    let split = ap (λ parts. yielded ++ parts) (sym c.in-Some.ensures.steps) ∙ before.split in
    record {
      ready = more.ready;
      told = writes_more (g.D.Calls.base c.args.disk.now) _ _ _
          (g.D.Calls.did_both c.args.disk.now c.args.desk.now c.loop-part.disk
          c.loop-part.desk c.write.new.self c.write.new.desk)
          yielded part c.loop-part.at c.args.payload.now before.at before.told (rw before.base at more.did);
      split = append_assoc yielded (part ∷ []) c.next.new.self ∙ split;
      at = length_more yielded part c.loop-part.at before.at;
      base = more.base ∙ before.base;
    }

pub returns-in-Err-clause-told : goal.returns-in-Err-clause-told
returns-in-Err-clause-told g c =
    let before = c.loop-part.invariant in
    let yielded = c.loop-part.yielded in
    let did = g.D.Calls.did c.args.disk.now c.args.desk.now c.write.new.self c.write.new.desk in
    let split = ap (λ parts. yielded ++ parts) (sym c.in-Some.ensures.steps) ∙ before.split in
    let stops = writes_stop (g.D.Calls.base c.args.disk.now) _ _ did
    (g.D.Calls.did_both c.args.disk.now c.args.desk.now c.loop-part.disk
    c.loop-part.desk c.write.new.self c.write.new.desk)
    yielded c.next.new.self c.in-Some.part c.loop-part.at c.args.payload.now c.in-Err.fault before.at before.told
    (rw before.base at c.in-Err.ensures.did) in
    subst (λ parts. WritesRange (g.D.Calls.base c.args.disk.now) did parts (writes_of parts c.args.payload.now) (Err c.in-Err.fault))
    split stops
