use Rattle.sb_crew.proofs.Requesting.{stored, store_failed}
use Rattle.sb_crew.proofs.alone.Alone.store.Goals as goal

pub returns-in-Err-clause-did : goal.returns-in-Err-clause-did
returns-in-Err-clause-did g c =
    rw (← c.as_slice-room.ensures.value) (store_failed c.args.job.block c.as_slice-room.result.now c.in-Err.fault c.fault_for.result c.now-now.result
    c.end_store.new.self.reading (rw c.block-block.ensures at c.in-Err.ensures.told) c.in-Err.ensures.cause
    c.now-now.ensures.told
    (rw c.in-Err.is at c.end_store.ensures.event) c.fault_for.ensures)

pub returns-in-Ok-clause-did : goal.returns-in-Ok-clause-did
returns-in-Ok-clause-did g c =
    rw (← c.as_slice-room.ensures.value) (stored c.args.job.block c.as_slice-room.result.now c.now-now.result
    c.end_store.new.self.reading c.now.result (rw c.block-block.ensures at c.in-Ok.ensures.told) c.in-Ok.ensures.cause
    c.now-now.ensures.told (rw c.in-Ok.is at c.end_store.ensures.event) c.now.ensures.told)
