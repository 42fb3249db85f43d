use Rattle.std.proofs.Common.{◌∙◌, refl, sym, ap, subst, inl, [], ◌∷◌, arith}
use Rattle.std.proofs.lemmas.Result.{err_from_is_err_and}
use Rattle.sb_base.specs.declared.geometry.Geometry.{Geometry}
use Rattle.sb_base.specs.declared.entry.EntryKind.TheVariants as kind
use Rattle.sb_base.specs.Ranges.{IsPart}
use Rattle.sb_core.specs.Writing.{write_entry}
use Rattle.sb_crew.proofs.Asking.{begun_entry, ahead}
use Rattle.sb_crew.proofs.Measures.{less_behind_get, idle_stays}
use Rattle.sb_crew.proofs.Rooms.{slice_back}
use Rattle.sb_crew.proofs.Turning.{any_lasts, starts, after_drop, after_wait, after_get, after_put, ends_with}
use Rattle.sb_crew.proofs.Turning.{wait_fails, get_fails, put_fails}
use Rattle.sb_crew.specs.Contents.{content_of}
use Rattle.sb_crew.specs.Outcomes.{WriteDone}
use Rattle.sb_crew.proofs.alone.Alone.write_part.Goals as goal

pub turns-init : goal.turns-init
turns-init g c = record {
  so_far = starts c.now-now.ensures.told;
  ready = record {
    idle = c.requires.ready.idle;
    current = c.requires.ready.current;
    whole_room = c.requires.ready.whole_room;
  };
  part = c.requires.part;
  latest = record { is = c.now-now.ensures.latest; limit = c.now-now.ensures.limit };
}

pub returns-in-Done-clause-did : goal.returns-in-Done-clause-did
returns-in-Done-clause-did g c =
    let ended = ends_with c.turns.invariant.so_far c.ask.new.self.reading
    (kind.Write c.args.part (content_of c.args.content c.args.part))
    (ap (write_entry 1 c.ask.new.self.reading c.args.part (content_of c.args.content c.args.part) c.ask.new.room)
    c.in-Done.is) refl refl (λ fails. fails) (λ past. refl) c.ask.ensures.event in
    record {
      deed = ended.deed;
      done = ended.done;
      ends = ended.ends.0;
      asks = ended.asks;
    }

pub wait-requires : goal.wait-requires
wait-requires g c =
    ahead c.turns.now c.ask.new.self.reading (c.in-Wait.ensures.leads.idle c.turns.invariant.ready.idle)
    c.ask.ensures.current c.ask.ensures.event.reading

pub returns-in_err-now-in-Wait-clause-did : goal.returns-in_err-now-in-Wait-clause-did
returns-in_err-now-in-Wait-clause-did g c =
    let ended = wait_fails c.turns.invariant.so_far (WriteDone c.args.part (content_of c.args.content c.args.part) ∷ []) c.ask.new.self.reading c.in-Wait.why
    c.in_err-now-in-Wait.field-0.0 (omega (arith))
    (ap (write_entry 1 c.ask.new.self.reading c.args.part (content_of c.args.content c.args.part) c.ask.new.room) c.in-Wait.is)
    c.ask.ensures.event c.in_err-now-in-Wait.ensures in
    let failed = err_from_is_err_and c.from_residual.result c.from_residual.ensures.1 in
    rw (failed.1, failed.2) ended

pub turns-preserved-in-Wait : goal.turns-preserved-in-Wait
turns-preserved-in-Wait g c =
    let so_far = after_wait any_lasts c.turns.invariant.so_far c.ask.new.self.reading c.in-Wait.why
    (ap (write_entry 1 c.ask.new.self.reading c.args.part (content_of c.args.content c.args.part) c.ask.new.room) c.in-Wait.is)
    c.ask.ensures.event c.in_ok-now-in-Wait.ensures in
    record {
      so_far = so_far;
      ready = record {
        idle = idle_stays c.turns.self.core c.ask.new.self.core c.in-Wait.ensures.leads.blocks c.turns.invariant.ready.idle;
        current = c.ask.ensures.current;
        whole_room = c.turns.invariant.ready.whole_room
            ∙ ap (λ (geometry : Geometry). geometry.block_size) (sym c.ask.ensures.event.base.geometry);
      };
      latest = c.in_ok-now-in-Wait.ensures.paused.next;
      part = subst (λ (geometry : Geometry). IsPart geometry c.args.part)
          (sym (so_far.done.runs.base.geometry
          ∙ sym c.turns.invariant.so_far.done.runs.base.geometry)) c.turns.invariant.part;
    }

pub returns-in_err-now-in-Get-clause-did : goal.returns-in_err-now-in-Get-clause-did
returns-in_err-now-in-Get-clause-did g c =
    let begun = c.in-Get.ensures.leads.reading ∙ sym c.ask.ensures.current in
    let ended = get_fails c.turns.invariant.so_far (WriteDone c.args.part (content_of c.args.content c.args.part) ∷ []) c.in-Get.job c.in_err-now-in-Get.field-0.0 (omega (arith))
    (ap (write_entry 1 c.ask.new.self.reading c.args.part (content_of c.args.content c.args.part) c.ask.new.room) c.in-Get.is
    ∙ begun_entry c.in-Get.job c.ask.new.self.reading begun)
    (inl (sym c.in-Get.ensures.leads.same_block)) c.ask.ensures.event c.in_err-now-in-Get.ensures.did in
    let failed = err_from_is_err_and c.from_residual-in_err-now-in-Get.result
    c.from_residual-in_err-now-in-Get.ensures.1 in
    rw (failed.1, failed.2) ended

pub turns-smaller-in-Get : goal.turns-smaller-in-Get
turns-smaller-in-Get g c =
    less_behind_get c.turns.self.core c.ask.new.self.core c.fetch.new.self.core c.args.part.block
    c.turns.now c.in_ok-now-in-Get.now _ c.in-Get.job c.in-Get.ensures.leads c.in_ok-now-in-Get.ensures.leads c.turns.invariant.latest.is
    c.in_ok-now-in-Get.ensures.next.limit

pub turns-preserved-in-Get : goal.turns-preserved-in-Get
turns-preserved-in-Get g c =
    let begun = c.in-Get.ensures.leads.reading ∙ sym c.ask.ensures.current in
    let so_far = after_get any_lasts c.turns.invariant.so_far c.in-Get.job
    (ap (write_entry 1 c.ask.new.self.reading c.args.part (content_of c.args.content c.args.part) c.ask.new.room) c.in-Get.is
    ∙ begun_entry c.in-Get.job c.ask.new.self.reading begun)
    (inl (sym c.in-Get.ensures.leads.same_block)) c.ask.ensures.event c.in_ok-now-in-Get.ensures.did in
    record {
      so_far = so_far;
      ready = c.fetch.ensures.ready;
      latest = c.in_ok-now-in-Get.ensures.next;
      part = subst (λ (geometry : Geometry). IsPart geometry c.args.part)
          (sym (so_far.done.runs.base.geometry
          ∙ sym c.turns.invariant.so_far.done.runs.base.geometry)) c.turns.invariant.part;
    }

pub turns-preserved-in-Dropped : goal.turns-preserved-in-Dropped
turns-preserved-in-Dropped g c =
    let so_far = after_drop any_lasts c.turns.invariant.so_far c.ask.new.self.reading c.in-Dropped.field-0
    (ap (write_entry 1 c.ask.new.self.reading c.args.part (content_of c.args.content c.args.part) c.ask.new.room) c.in-Dropped.is)
    c.ask.ensures.event c.now-now-in-Dropped.ensures.told in
    record {
      so_far = so_far;
      ready = record {
        idle = c.in-Dropped.ensures.leads.idle c.turns.invariant.ready.idle;
        current = c.ask.ensures.current;
        whole_room = c.turns.invariant.ready.whole_room
            ∙ ap (λ (geometry : Geometry). geometry.block_size) (sym c.ask.ensures.event.base.geometry);
      };
      latest = record { is = c.now-now-in-Dropped.ensures.latest; limit = c.now-now-in-Dropped.ensures.limit };
      part = subst (λ (geometry : Geometry). IsPart geometry c.args.part)
          (sym (so_far.done.runs.base.geometry
          ∙ sym c.turns.invariant.so_far.done.runs.base.geometry)) c.turns.invariant.part;
    }

pub returns-in_err-now-in-Put-clause-did : goal.returns-in_err-now-in-Put-clause-did
returns-in_err-now-in-Put-clause-did g c =
    let ended = put_fails c.turns.invariant.so_far (WriteDone c.args.part (content_of c.args.content c.args.part) ∷ []) c.ask.new.self.reading c.in-Put.job.block
    c.ask.new.room c.in_err-now-in-Put.field-0.0 (omega (arith))
    (ap (write_entry 1 c.ask.new.self.reading c.args.part (content_of c.args.content c.args.part) c.ask.new.room) c.in-Put.is)
    c.ask.ensures.event (rw (slice_back c.ask.new.room _ c.turns.desk.room.len (c.ask.auto.room ∙ c.as_mut_slice.ensures.len)) at c.in_err-now-in-Put.ensures.did) in
    let failed = err_from_is_err_and c.from_residual-in_err-now-in-Put.result
    c.from_residual-in_err-now-in-Put.ensures.1 in
    rw (failed.1, failed.2) ended

pub turns-preserved : goal.turns-preserved
turns-preserved g c =
    let so_far = after_put any_lasts c.turns.invariant.so_far c.ask.new.self.reading c.in-Put.job.block
    c.ask.new.room
    (ap (write_entry 1 c.ask.new.self.reading c.args.part (content_of c.args.content c.args.part) c.ask.new.room) c.in-Put.is)
    c.ask.ensures.event (rw (slice_back c.ask.new.room _ c.turns.desk.room.len (c.ask.auto.room ∙ c.as_mut_slice.ensures.len)) at c.in_ok-now-in-Put.ensures.did) in
    record {
      so_far = so_far;
      ready = c.store.ensures.ready;
      latest = c.in_ok-now-in-Put.ensures.next;
      part = subst (λ (geometry : Geometry). IsPart geometry c.args.part)
          (sym (so_far.done.runs.base.geometry
          ∙ sym c.turns.invariant.so_far.done.runs.base.geometry)) c.turns.invariant.part;
    }

pub turns-smaller : goal.turns-smaller
turns-smaller g c =
    omega (arith, c.in-Put.ensures.leads.closer c.args.part.block, c.in_ok-now-in-Put.ensures.closer c.args.part.block)
