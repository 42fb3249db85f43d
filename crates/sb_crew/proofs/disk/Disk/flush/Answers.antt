use Rattle.std.proofs.Common.{◌∙◌, ap, vec_len, [], ◌∷◌, refl, arith}
use Rattle.std.proofs.lemmas.Result.{err_from_is_err_and}
use Rattle.sb_base.specs.declared.entry.EntryKind.TheVariants as kind
use Rattle.sb_crew.specs.Outcomes.{FlushEnded}
use Rattle.sb_crew.proofs.Rooms.{slice_back}
use Rattle.sb_crew.proofs.Flushing.{flush_stops}
use Rattle.sb_crew.proofs.SharedTurns.{begun_behind}
use Rattle.sb_crew.proofs.SharedRuns.{flush_starts, round_waits, round_ends, round_puts, round_put_fails}
use Rattle.sb_crew.proofs.disk.Disk.flush.Goals as goal

pub turns-init : goal.turns-init
turns-init g c = record {
  so_far = flush_starts c.begin_flush-flush.ensures.turn.0 c.begin_flush-flush.result
      c.begin_flush-flush.ensures.turn.1 c.now-begun.ensures.told;
  ready = c.begin_flush-flush.ensures.ready;
  room = c.requires.room;
  begun = c.begin_flush-flush.ensures.begun;
}

pub returns-in-Done-clause-did : goal.returns-in-Done-clause-did
returns-in-Done-clause-did g c =
    let turn = c.in-Done.ensures.turn in
    let mark = c.begin_flush-flush.result in
    let ended = round_ends c.turns.invariant.so_far turn.1 c.now-now.ensures.told turn.0
    (kind.FlushDone mark) refl refl (λ past. refl) refl (λ fails. fails) in
    record {
      deed = ended.deed;
      done = ended.done;
      ends = (mark, ended.ends.0);
      asks = ended.asks;
    }

pub turns-preserved-in-Wait : goal.turns-preserved-in-Wait
turns-preserved-in-Wait g c =
    let turn = c.in-Wait.ensures.turn in
    record {
      so_far = round_waits c.turns.invariant.so_far turn.1 c.now-now.ensures.told turn.0 c.in-Wait.why refl c.wait.ensures;
      ready = c.in-Wait.ensures.ready;
      room = c.turns.invariant.room;
      begun = begun_behind c.begin_flush-flush.result turn.1 c.turns.invariant.begun;
    }

pub turns-preserved : goal.turns-preserved
turns-preserved g c =
    let turn = c.in-Put.ensures.turn in
    let mark = c.begin_flush-flush.result in
    record {
      so_far = round_puts c.turns.invariant.so_far turn.1 c.now-now.ensures.told turn.0 c.in-Put.job.block
          c.ask_flush.new.room refl (rw (slice_back c.ask_flush.new.room _ c.turns.desk.room.len (c.ask_flush.auto.room ∙ c.as_mut_slice.ensures.len)) at c.in_ok-store-in-Put.ensures.did);
      ready = c.in_ok-store-in-Put.ensures.ready;
      room = ap vec_len c.store.ensures.room ∙ c.turns.invariant.room;
      begun = begun_behind mark c.in_ok-store-in-Put.ensures.did.turn
          (begun_behind mark turn.1 c.turns.invariant.begun);
    }

pub returns-in_err-store-in-Put-clause-did : goal.returns-in_err-store-in-Put-clause-did
returns-in_err-store-in-Put-clause-did g c =
    let turn = c.in-Put.ensures.turn in
    let mark = c.begin_flush-flush.result in
    let ended = round_put_fails c.turns.invariant.so_far turn.1 c.now-now.ensures.told (FlushEnded mark ∷ []) turn.0
    c.in-Put.job.block c.ask_flush.new.room c.in_err-store-in-Put.field-0.0 (omega (arith)) refl
    (rw (slice_back c.ask_flush.new.room _ c.turns.desk.room.len (c.ask_flush.auto.room ∙ c.as_mut_slice.ensures.len)) at c.in_err-store-in-Put.ensures.did) in
    let failed = err_from_is_err_and c.from_residual.result c.from_residual.ensures.1 in
    rw (failed.1, failed.2) (flush_stops _ mark ended)
