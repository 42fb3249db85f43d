use Rattle.std.proofs.Common.{rules}
use Rattle.sb_crew.proofs.SharedRequests.{pass_stores}
use Rattle.sb_crew.proofs.disk.Disk.put_off.Goals as goal

pub returns-in-Ok-clause-did : goal.returns-in-Ok-clause-did
returns-in-Ok-clause-did g c =
    let turn = c.end_store.ensures.turn in (
      c.end_store.result,
      pass_stores c.args.job.block c.args.desk.now.room.items turn.0 turn.1 c.send-sent.result c.end_store.result
          c.end_store.ensures.answer (search rules) c.send-sent.ensures.cause turn.2 turn.3,
    )

pub returns-in-Err-clause-did : goal.returns-in-Err-clause-did
returns-in-Err-clause-did g c =
    let turn = c.end_store.ensures.turn in (
      c.end_store.result,
      pass_stores c.args.job.block c.args.desk.now.room.items turn.0 turn.1 c.send-sent.result c.end_store.result
          c.end_store.ensures.answer (search rules) c.send-sent.ensures.cause turn.2 turn.3,
    )
