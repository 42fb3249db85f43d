use Rattle.sb_crew.proofs.disk.Disk.end_store.Goals as goal

pub returns-in-Ok-clause-turn : goal.returns-in-Ok-clause-turn
returns-in-Ok-clause-turn g c =
    let turn = c.end_put.ensures.turn in (c.now-now.result, turn.0, turn.1, c.now-now.ensures.told)

pub returns-in-Err-clause-turn : goal.returns-in-Err-clause-turn
returns-in-Err-clause-turn g c =
    let turn = c.end_put.ensures.turn in (c.now-now.result, turn.0, turn.1, c.now-now.ensures.told)
