use Rattle.std.proofs.Common.{◌∙◌, ap, vec_len, [], ◌∷◌, refl, sym, inl, arith}
use Rattle.std.proofs.lemmas.Result.{err_from_is_err_and}
use Rattle.sb_base.specs.declared.entry.EntryKind.TheVariants as kind
use Rattle.sb_crew.specs.Contents.{content_of}
use Rattle.sb_crew.specs.Outcomes.{WriteDone}
use Rattle.sb_crew.proofs.Rooms.{slice_back}
use Rattle.sb_crew.proofs.SharedTurns.{began_by}
use Rattle.sb_crew.proofs.SharedRuns.{shared_starts, round_waits, round_drops, round_ends, round_gets, round_get_fails}
use Rattle.sb_crew.proofs.SharedRuns.{round_puts, round_put_fails}
use Rattle.sb_crew.proofs.disk.Disk.write_content.Goals as goal

pub turns-init : goal.turns-init
turns-init g c = record {
  so_far = shared_starts;
  ready = c.requires.ready;
  room = c.requires.room;
}

pub returns-in-Done-clause-did : goal.returns-in-Done-clause-did
returns-in-Done-clause-did g c =
    let turn = c.in-Done.ensures.turn in
    let ended = round_ends c.turns.invariant.so_far turn.1 c.now-now.ensures.told turn.0
    (kind.Write c.args.part (content_of c.args.content c.args.part)) refl refl (λ past. refl) refl (λ fails. fails) in
    record {
      deed = ended.deed;
      done = ended.done;
      ends = ended.ends.0;
      asks = ended.asks;
    }

pub turns-preserved-in-Wait : goal.turns-preserved-in-Wait
turns-preserved-in-Wait g c =
    let turn = c.in-Wait.ensures.turn in
    record {
      so_far = round_waits c.turns.invariant.so_far turn.1 c.now-now.ensures.told turn.0 c.in-Wait.why refl c.wait.ensures;
      ready = c.in-Wait.ensures.ready;
      room = c.turns.invariant.room;
    }

pub turns-preserved-in-Continue-1 : goal.turns-preserved-in-Continue-1
turns-preserved-in-Continue-1 g c =
    let turn = c.in-Get.ensures.turn in
    let begins = c.in-Get.ensures.begins in
    record {
      so_far = round_gets c.turns.invariant.so_far turn.1 c.now-now.ensures.told c.in-Get.job
          (began_by _ turn.0 c.in-Get.job turn.1 begins.begun) (inl (sym begins.same_block))
          c.in_ok-fetch-in-Get.ensures.did;
      ready = c.in_ok-fetch-in-Get.ensures.ready;
      room = c.fetch.ensures.room ∙ c.turns.invariant.room;
    }

pub returns-in_err-fetch-in-Get-clause-did : goal.returns-in_err-fetch-in-Get-clause-did
returns-in_err-fetch-in-Get-clause-did g c =
    let turn = c.in-Get.ensures.turn in
    let begins = c.in-Get.ensures.begins in
    let ended = round_get_fails c.turns.invariant.so_far turn.1 c.now-now.ensures.told (WriteDone c.args.part (content_of c.args.content c.args.part) ∷ []) c.in-Get.job
    c.in_err-fetch-in-Get.field-0.0 (omega (arith)) (began_by _ turn.0 c.in-Get.job turn.1 begins.begun)
    (inl (sym begins.same_block)) c.in_err-fetch-in-Get.ensures.did in
    let failed = err_from_is_err_and c.from_residual.result c.from_residual.ensures.1 in
    rw (failed.1, failed.2) record {
      deed = ended.deed;
      done = ended.done;
      ends = ended.ends;
      asks = ended.asks;
    }

pub turns-preserved-in-Dropped : goal.turns-preserved-in-Dropped
turns-preserved-in-Dropped g c =
    let turn = c.in-Dropped.ensures.turn in
    record {
      so_far = round_drops c.turns.invariant.so_far turn.1 c.now-now.ensures.told turn.0 c.in-Dropped.field-0 refl;
      ready = c.in-Dropped.ensures.ready;
      room = c.turns.invariant.room;
    }

pub turns-preserved : goal.turns-preserved
turns-preserved g c =
    let turn = c.in-Put.ensures.turn in
    record {
      so_far = round_puts c.turns.invariant.so_far turn.1 c.now-now.ensures.told turn.0 c.in-Put.job.block
          c.ask_write.new.room refl (rw (slice_back c.ask_write.new.room _ c.turns.desk.room.len (c.ask_write.auto.room ∙ c.as_mut_slice.ensures.len)) at c.in_ok-store-in-Put.ensures.did);
      ready = c.in_ok-store-in-Put.ensures.ready;
      room = ap vec_len c.store.ensures.room ∙ c.turns.invariant.room;
    }

pub returns-in_err-store-in-Put-clause-did : goal.returns-in_err-store-in-Put-clause-did
returns-in_err-store-in-Put-clause-did g c =
    let turn = c.in-Put.ensures.turn in
    let ended = round_put_fails c.turns.invariant.so_far turn.1 c.now-now.ensures.told (WriteDone c.args.part (content_of c.args.content c.args.part) ∷ []) turn.0
    c.in-Put.job.block c.ask_write.new.room c.in_err-store-in-Put.field-0.0 (omega (arith)) refl
    (rw (slice_back c.ask_write.new.room _ c.turns.desk.room.len (c.ask_write.auto.room ∙ c.as_mut_slice.ensures.len)) at c.in_err-store-in-Put.ensures.did) in
    let failed = err_from_is_err_and c.from_residual-in_err-store-in-Put.result
    c.from_residual-in_err-store-in-Put.ensures.1 in
    rw (failed.1, failed.2) record {
      deed = ended.deed;
      done = ended.done;
      ends = ended.ends;
      asks = ended.asks;
    }
