use Rattle.std.proofs.Common.{sym, subst}
use Rattle.std.specs.Prelude.{slice_index_or}
use Rattle.sb_server.specs.declared.caller.Caller.{Caller}
use Rattle.sb_server.specs.declared.worker.Worker.{Worker}
use Rattle.sb_server.specs.Workers.{MayWork, CallerWorked}
use Rattle.sb_server.proofs.worker.all_work.Goals as goal

pub for_each_mut-requires-clause-accepts : goal.for_each_mut-requires-clause-accepts
for_each_mut-requires-clause-accepts g c κs lives i p below is =
    let X = Caller (Worker g.row.L.Denot g.row.C.Denot) in
    subst (λ (worker : X). MayWork c.args.disk.now worker) (sym is) (c.requires.ready i p.now below)

pub returns : goal.returns
returns g c i d below =
    let X = Caller (Worker g.row.L.Denot g.row.C.Denot) in
    let changed = (c.for_each_mut.ensures i d below).1 in
    let Is = λ (old new : X). CallerWorked g.L.Link g.C.Clock c.args.disk.now old new in
    subst (λ (new : X). Is (slice_index_or c.args.workers.now i d) new) changed.left
    (subst (λ (old : X). Is old changed.after_call.now) changed.argument_is changed.call)
