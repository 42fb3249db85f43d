use Rattle.std.proofs.Common.{sym, subst}
use Rattle.std.specs.Prelude.{slice_index_or}
use denote.Exit.{no}
use denote.Param.Send.{sendable, param_send, arg_send}
use Rattle.sb_server.specs.declared.caller.Caller.{Caller}
use Rattle.sb_server.specs.declared.client.Client.{Client}
use Rattle.sb_server.specs.Tellings.{telling}
use Rattle.sb_server.specs.Clients.{MayBegin, CallerServed}
use Rattle.sb_server.proofs.crowd.all_serve.Goals as goal

pub for_each_mut-requires-clause-accepts : goal.for_each_mut-requires-clause-accepts
for_each_mut-requires-clause-accepts g c κs lives i p below is =
    let X = Caller (Client g.row.N.Denot g.row.L.Denot g.row.C.Denot) in
    let ready = subst (λ (client : X). MayBegin c.args.disk.now client) (sym is) (c.requires.ready i p.now below) in
    let bounds = c.type_bounds in (
      (ready, c.requires.sound),
      (
        param_send 1 _ (arg_send _ no _ bounds.send-N),
        param_send 2 _ (arg_send _ no _ bounds.send-L),
        param_send 3 _ (arg_send _ no _ bounds.send-C),
        param_send 4 _ (arg_send _ no _ bounds.send-N-Source),
        param_send 5 _ (arg_send _ no _ bounds.send-N-Sink),
        search (sendable, bounds.sync-H),
      ),
    )

pub returns : goal.returns
returns g c i d below =
    let X = Caller (Client g.row.N.Denot g.row.L.Denot g.row.C.Denot) in
    let changed = (c.for_each_mut.ensures i d below).1 in
    let Is = λ (old new : X). CallerServed (telling g.N.Listener g.L.Link g.C.Clock g.N.Source.Source g.N.Sink.Sink)
    c.args.disk.now c.args.read_only old new in
    subst (λ (new : X). Is (slice_index_or c.args.clients.now i d) new) changed.left
    (subst (λ (old : X). Is old changed.after_call.now) changed.argument_is changed.call)
