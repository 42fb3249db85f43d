use Rattle.std.proofs.Common.{refl, sym, subst, ap, ◌∙◌, ◌+◌, ◌++◌, ◌∷◌, [], Ok, Err, append_assoc, rules}
use Rattle.std.specs.List.{filter}
use Rattle.sb_base.specs.declared.geometry.Geometry.{Geometry}
use Rattle.sb_base.specs.Ranges.{parts_of}
use Rattle.sb_session.specs.Goals.{is_zeroed, zeros_of}
use Rattle.sb_session.specs.Answers.{WritesRange}
use Rattle.sb_session.proofs.Writing.{zeros_none, zeros_more, zeros_stop, one_kept}
use Rattle.sb_session.proofs.zeroing.zero_range.Goals as goal

pub loop-part-init : goal.loop-part-init
loop-part-init g c =
    let to = c.args.offset + c.args.count in
    record {
      ready = c.requires.ready;
      told = zeros_none (g.D.Calls.base c.args.disk.now) _ (g.D.Calls.did_nothing c.args.disk.now c.args.desk.now);
      split = c.into_iter-part-iterator.ensures.into_iter_gives ∙ c.parts-part-items.ensures.parts
          ∙ ap (λ (geometry : Geometry). parts_of geometry.block_size c.args.offset to) c.geometry-geometry.ensures;
      base = refl;
    }

pub loop-part-preserved-in-Ok : goal.loop-part-preserved-in-Ok
loop-part-preserved-in-Ok g c =
    let before = c.loop-part.invariant in
    let more = c.in-Ok.ensures in
    let part = c.in-Some.part in
    let yielded = c.loop-part.yielded in
    let base = g.D.Calls.base c.args.disk.now in
    let keeps = is_zeroed c.args.zeroing base.geometry.block_size in
    let did = g.D.Calls.did c.args.disk.now c.args.desk.now c.zero.new.self c.zero.new.desk in
    let split = ap (λ parts. yielded ++ parts) (sym c.in-Some.ensures.steps) ∙ before.split in
    let told = zeros_more base _ _ did
    (g.D.Calls.did_both c.args.disk.now c.args.desk.now c.loop-part.disk c.loop-part.desk c.zero.new.self c.zero.new.desk)
    (filter keeps yielded) part before.told (rw before.base at more.did) in
    record {
      ready = more.ready;
      told = subst (λ parts. WritesRange base did parts (zeros_of parts) (Ok tt))
          (one_kept keeps yielded [] part (search rules)) told;
      split = append_assoc yielded (part ∷ []) c.next.new.self ∙ split;
      base = more.base ∙ before.base;
    }

pub returns-in-Err-clause-told : goal.returns-in-Err-clause-told
returns-in-Err-clause-told g c =
    let before = c.loop-part.invariant in
    let part = c.in-Some.part in
    let yielded = c.loop-part.yielded in
    let left = c.next.new.self in
    let base = g.D.Calls.base c.args.disk.now in
    let keeps = is_zeroed c.args.zeroing base.geometry.block_size in
    let did = g.D.Calls.did c.args.disk.now c.args.desk.now c.zero.new.self c.zero.new.desk in
    let split = ap (λ parts. yielded ++ parts) (sym c.in-Some.ensures.steps) ∙ before.split in
    let stops = zeros_stop base _ _ did
    (g.D.Calls.did_both c.args.disk.now c.args.desk.now c.loop-part.disk c.loop-part.desk c.zero.new.self c.zero.new.desk)
    (filter keeps yielded) (filter keeps left) part c.in-Err.fault before.told (rw before.base at c.in-Err.ensures.did) in
    subst (λ parts. WritesRange base did parts (zeros_of parts) (Err c.in-Err.fault))
    (one_kept keeps yielded left part (search rules) ∙ ap (filter keeps) split) stops
