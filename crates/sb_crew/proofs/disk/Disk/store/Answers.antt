use Rattle.std.proofs.Common.{rules}
use Rattle.sb_crew.proofs.SharedRequests.{pass_stores}
use Rattle.sb_crew.proofs.disk.Disk.store.Goals as goal

pub returns-clause-did : goal.returns-clause-did
returns-clause-did g c =
    let turn = c.end_store.ensures.turn in
    pass_stores c.args.job.block c.args.desk.now.room.items turn.0 turn.1 c.send-sent.result c.end_store.result
    c.end_store.ensures.answer (search rules) c.send-sent.ensures.cause turn.2 turn.3
