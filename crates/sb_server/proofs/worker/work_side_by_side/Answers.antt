use Rattle.sb_crew.specs.Desks.{HasRoom}
use Rattle.sb_crew.specs.SharedDisks.{fixed_of_disk}
use Rattle.sb_server.specs.declared.worker.Worker.{Worker}
use Rattle.sb_server.specs.Workers.{CallerWorked}
use Rattle.sb_server.proofs.Calling.{paired, have_each}
use Rattle.sb_server.proofs.Working.{workers_have, workers_did}
use Rattle.sb_server.proofs.worker.work_side_by_side.Goals as goal

pub all_work-requires-clause-ready : goal.all_work-requires-clause-ready
all_work-requires-clause-ready g c κs lives =
    let got = c.give_passes.ensures in
    have_each c.args.disk.now (λ (worker : Worker g.row.L.Denot g.row.C.Denot).
    HasRoom (fixed_of_disk c.args.disk.now).geometry worker.desk) c.args.workers.now c.give_passes.new.callers got.passes
    got.same got.have c.requires.desks

pub take_passes-requires-clause-have : goal.take_passes-requires-clause-have
take_passes-requires-clause-have g c =
    let disk = c.args.disk.now in
    let mids = c.give_passes.new.callers in
    let ends = c.all_work.new.workers in
    workers_have g.L.Link g.C.Clock disk mids ends
    (paired (CallerWorked g.L.Link g.C.Clock disk) mids ends c.all_work.auto.workers c.all_work.ensures)

pub returns : goal.returns
returns g c =
    let disk = c.args.disk.now in
    let mids = c.give_passes.new.callers in
    let ends = c.all_work.new.workers in
    workers_did g.L.Link g.C.Clock disk c.args.pass.now c.give_passes.new.pass c.take_passes.new.pass
    c.args.workers.now mids ends c.take_passes.new.callers c.give_passes.ensures
    (paired (CallerWorked g.L.Link g.C.Clock disk) mids ends c.all_work.auto.workers c.all_work.ensures)
    c.take_passes.ensures
