use Rattle.std.proofs.Common.{ap, vec_len, ◌∙◌, refl}
use Rattle.sb_crew.proofs.Rooms.{slice_back}
use Rattle.sb_crew.proofs.WorkRuns.{work_starts, work_sleeps, work_drops, work_puts, work_stops}
use Rattle.sb_crew.proofs.disk.Disk.work.Goals as goal

pub turns-init : goal.turns-init
turns-init g c = record {
  so_far = work_starts;
  ready = c.requires.ready;
  room = c.requires.room;
}

pub returns-in-Closed-clause-did : goal.returns-in-Closed-clause-did
returns-in-Closed-clause-did g c =
    let turn = c.in-Closed.ensures.turn in
    work_stops c.turns.invariant.so_far turn.1 c.now-now.ensures.told turn.0 refl c.in-Closed.ensures.closed

pub turns-preserved-in-Put : goal.turns-preserved-in-Put
turns-preserved-in-Put g c =
    let turn = c.in-Put.ensures.turn in
    record {
      so_far = work_puts c.turns.invariant.so_far turn.1 c.now-now.ensures.told turn.0 c.in-Put.job.block
          c.ask_job.new.room refl c.put_off.ensures.did.0
          (rw (slice_back c.ask_job.new.room _ c.turns.desk.room.len (c.ask_job.auto.room ∙ c.as_mut_slice.ensures.len))
          at c.put_off.ensures.did.1);
      ready = c.put_off.ensures.ready;
      room = ap vec_len c.put_off.ensures.room ∙ c.turns.invariant.room;
    }

pub turns-preserved-in-Dropped : goal.turns-preserved-in-Dropped
turns-preserved-in-Dropped g c =
    let turn = c.in-Dropped.ensures.turn in
    record {
      so_far = work_drops c.turns.invariant.so_far turn.1 c.now-now.ensures.told turn.0 c.in-Dropped.field-0 refl;
      ready = c.in-Dropped.ensures.ready;
      room = c.turns.invariant.room;
    }

pub turns-preserved : goal.turns-preserved
turns-preserved g c =
    let turn = c.in-Sleep.ensures.turn in
    record {
      so_far = work_sleeps c.turns.invariant.so_far turn.1 c.now-now.ensures.told turn.0 c.in-Sleep.until refl;
      ready = c.in-Sleep.ensures.ready;
      room = c.turns.invariant.room;
    }
