use Rattle.std.proofs.Common.{◌∙◌, [], ◌∷◌, refl, sym, ap, arith}
use Rattle.std.proofs.lemmas.Result.{err_from_is_err_and}
use Rattle.sb_base.specs.declared.geometry.Geometry.{Geometry}
use Rattle.sb_base.specs.declared.entry.EntryKind.TheVariants as kind
use Rattle.sb_core.specs.Flushing.{flush_step_entry}
use Rattle.sb_crew.specs.Outcomes.{FlushEnded}
use Rattle.sb_crew.proofs.Measures.{idle_stays}
use Rattle.sb_crew.proofs.Asking.{ahead}
use Rattle.sb_crew.proofs.Flushing.{flush_stops}
use Rattle.sb_crew.proofs.Rooms.{slice_back}
use Rattle.sb_crew.proofs.Turning.{begun_lasts, begins_flush, after_wait, after_put, ends_with, wait_fails, put_fails}
use Rattle.sb_crew.proofs.alone.Alone.flush_writes.Goals as goal

pub turns-init : goal.turns-init
turns-init g c = record {
  so_far = begins_flush c.begin_flush-mark.new.self.reading c.begin_flush-mark.result c.now-begun.ensures.told
      c.begin_flush-mark.ensures.event c.now-now.ensures.told;
  ready = record {
    idle = c.begin_flush-mark.ensures.idle c.requires.ready.idle;
    current = c.begin_flush-mark.ensures.current;
    whole_room = c.requires.ready.whole_room
        ∙ ap (λ (geometry : Geometry). geometry.block_size) (sym c.begin_flush-mark.ensures.event.base.geometry);
  };
  latest = record { is = c.now-now.ensures.latest; limit = c.now-now.ensures.limit };
}

pub wait-requires : goal.wait-requires
wait-requires g c =
    ahead c.turns.now c.ask_flush.new.self.reading (c.in-Wait.ensures.leads.idle c.turns.invariant.ready.idle)
    c.ask_flush.ensures.current c.ask_flush.ensures.event.reading

pub turns-preserved-in-Wait : goal.turns-preserved-in-Wait
turns-preserved-in-Wait g c =
    let mark = c.begin_flush-mark.result in
    record {
      so_far = after_wait (begun_lasts mark) c.turns.invariant.so_far c.ask_flush.new.self.reading c.in-Wait.why
          (ap (flush_step_entry 1 c.ask_flush.new.self.reading mark c.ask_flush.new.room) c.in-Wait.is)
          c.ask_flush.ensures.event c.in_ok-now-in-Wait.ensures;
      ready = record {
        idle = idle_stays c.turns.self.core c.ask_flush.new.self.core c.in-Wait.ensures.leads.blocks c.turns.invariant.ready.idle;
        current = c.ask_flush.ensures.current;
        whole_room = c.turns.invariant.ready.whole_room
            ∙ ap (λ (geometry : Geometry). geometry.block_size) (sym c.ask_flush.ensures.event.base.geometry);
      };
      latest = c.in_ok-now-in-Wait.ensures.paused.next;
    }

pub turns-preserved : goal.turns-preserved
turns-preserved g c = record {
  so_far = after_put (begun_lasts c.begin_flush-mark.result) c.turns.invariant.so_far c.ask_flush.new.self.reading
      c.in-Put.job.block c.ask_flush.new.room
      (ap (flush_step_entry 1 c.ask_flush.new.self.reading c.begin_flush-mark.result c.ask_flush.new.room) c.in-Put.is)
      c.ask_flush.ensures.event (rw (slice_back c.ask_flush.new.room _ c.turns.desk.room.len (c.ask_flush.auto.room ∙ c.as_mut_slice.ensures.len)) at c.in_ok-now-in-Put.ensures.did);
  ready = c.store.ensures.ready;
  latest = c.in_ok-now-in-Put.ensures.next;
}

pub returns-in-Done-clause-did : goal.returns-in-Done-clause-did
returns-in-Done-clause-did g c =
    let mark = c.begin_flush-mark.result in
    let ended = ends_with c.turns.invariant.so_far c.ask_flush.new.self.reading (kind.FlushDone mark)
    (ap (flush_step_entry 1 c.ask_flush.new.self.reading mark c.ask_flush.new.room) c.in-Done.is)
    refl refl (λ fails. fails) (λ past. refl) c.ask_flush.ensures.event in
    record {
      deed = ended.deed;
      done = ended.done;
      ends = (mark, ended.ends.0);
      asks = ended.asks;
    }

pub returns-in_err-now-in-Wait-clause-did : goal.returns-in_err-now-in-Wait-clause-did
returns-in_err-now-in-Wait-clause-did g c =
    let mark = c.begin_flush-mark.result in
    let ended = wait_fails c.turns.invariant.so_far (FlushEnded mark ∷ []) c.ask_flush.new.self.reading c.in-Wait.why
    c.in_err-now-in-Wait.field-0.0 (omega (arith))
    (ap (flush_step_entry 1 c.ask_flush.new.self.reading mark c.ask_flush.new.room) c.in-Wait.is)
    c.ask_flush.ensures.event c.in_err-now-in-Wait.ensures in
    let failed = err_from_is_err_and c.from_residual.result c.from_residual.ensures.1 in
    rw (failed.1, failed.2) (flush_stops _ mark ended)

pub returns-in_err-now-in-Put-clause-did : goal.returns-in_err-now-in-Put-clause-did
returns-in_err-now-in-Put-clause-did g c =
    let mark = c.begin_flush-mark.result in
    let ended = put_fails c.turns.invariant.so_far (FlushEnded mark ∷ []) c.ask_flush.new.self.reading c.in-Put.job.block c.ask_flush.new.room
    c.in_err-now-in-Put.field-0.0 (omega (arith))
    (ap (flush_step_entry 1 c.ask_flush.new.self.reading mark c.ask_flush.new.room) c.in-Put.is)
    c.ask_flush.ensures.event (rw (slice_back c.ask_flush.new.room _ c.turns.desk.room.len (c.ask_flush.auto.room ∙ c.as_mut_slice.ensures.len)) at c.in_err-now-in-Put.ensures.did) in
    let failed = err_from_is_err_and c.from_residual-in_err-now-in-Put.result
    c.from_residual-in_err-now-in-Put.ensures.1 in
    rw (failed.1, failed.2) (flush_stops _ mark ended)
