use Rattle.std.proofs.Common.{refl, ◌∙◌}
use Rattle.sb_turn.specs.Passes.{number}
use Rattle.sb_crew.specs.Sharing.{caller_of}
use Rattle.sb_server.specs.Tellings.{telling}
use Rattle.sb_server.proofs.Ending.{flush_did, flushes_last, last_flush, all_served}
use Rattle.sb_server.proofs.serving.serve_all.Goals as goal

pub returns-clause-number : goal.returns-clause-number
returns-clause-number g c =
    let did = flush_did c.args.disk.now c.args.read_only _ _ c.flush_last-flushed.result
    c.flush_last-flushed.ensures.did in
    let part = c.join-theirs.ensures.second.1 in
    did.1.runs.same.number ∙ c.join.ensures.pass.1.number ∙ part.closes.same.number ∙ part.crowd.passes.same_number
    ∙ c.split-theirs.ensures.pass.1.number

pub returns-clause-served : goal.returns-clause-served
returns-clause-served g c =
    let tells = telling g.N.Listener g.L.Link g.C.Clock g.N.Source.Source g.N.Sink.Sink in
    let did = flush_did c.args.disk.now c.args.read_only _ _ c.flush_last-flushed.result
    c.flush_last-flushed.ensures.did in
    let both = c.join-theirs in
    let outside = c.outside_a_turn.ensures in
    all_served tells g.L.Link g.C.Clock c.args.disk.now c.args.read_only c.args.all.pass c.split-theirs.new.pass
    both.result.1.0 c.split-theirs.result both.result.0.0 c.join.new.pass c.flush_last-flushed.new.pass
    (number c.split-theirs.result) c.args.all.desk both.result.1.2 c.args.all.clients.items both.result.1.1.items
    c.args.all.workers.items both.result.0.1.items _ _ did.0 c.split-theirs.ensures.pass.1
    c.split-theirs.ensures.new.1.joined both.ensures.second.1 both.ensures.first c.join.ensures.pass.1
    c.join.ensures.seen.0 refl refl did.1 outside.joined outside.apart outside.not_own

pub returns-clause-flush : goal.returns-clause-flush
returns-clause-flush g c =
    let scene = caller_of g.L.Link g.C.Clock in
    let both = c.join-theirs in
    let part = both.ensures.second.1 in
    let last = part.crowd.passes in
    let flushed = c.flush_last-flushed in
    let split = c.split-theirs.ensures.pass.1 in
    flushes_last c.args.disk.now c.args.read_only (scene c.args.all.pass c.args.all.desk)
    (scene c.join.new.pass both.result.1.2) (scene flushed.new.pass flushed.new.desk) flushed.result
    (last_flush g.L.Link g.C.Clock c.args.disk.now c.args.all.pass part.last both.result.1.0 c.join.new.pass
    flushed.new.pass c.args.all.desk both.result.1.2 flushed.new.desk part.reading part.now
    (last.same_number ∙ split.number) (last.same_own ∙ split.mine) part.closes part.same_link
    c.join.ensures.pass.1.number c.join.ensures.pass.1.mine c.outside_a_turn.ensures.own) flushed.ensures.did
