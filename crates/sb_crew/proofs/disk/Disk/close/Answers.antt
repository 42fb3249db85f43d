use Rattle.std.proofs.Common.{[], None, refl}
use Rattle.sb_crew.proofs.SharedRuns.{one_turn_runs}
use Rattle.sb_crew.proofs.WorkRuns.{closes_it}
use Rattle.sb_crew.proofs.disk.Disk.close.Goals as goal

pub returns-clause-did : goal.returns-clause-did
returns-clause-did g c =
    let turn = c.end_work.ensures.turn in
    (turn.0, c.now-now.result, one_turn_runs [] None turn.1 refl refl c.now-now.ensures.told)

pub returns-clause-closed : goal.returns-clause-closed
returns-clause-closed g c =
    let turn = c.end_work.ensures.turn in closes_it turn.0 turn.1
