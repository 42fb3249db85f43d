use Rattle.std.proofs.Common.{ap, sym, subst, ◌∙◌}
use Rattle.sb_core.specs.declared.machine.Core.{Core}
use Rattle.sb_crew.specs.Disks.{scene_of}
use Rattle.sb_session.specs.Streams.{streams_at}
use Rattle.s3backer.specs.Fresh.{IsFresh}
use Rattle.s3backer.specs.Plans.{PlanParts}
use Rattle.s3backer.proofs.Sessions.{session_serves}
use Rattle.s3backer.proofs.top.serve_disk.Goals as goal

pub returns : goal.returns
returns g c =
    let disk = c.new-disk.result in
    let ended = c.serve_alone-end in
    let flushed = c.flush_last-flushed in
    let plan = c.args.plan.now in
    let is = ap (λ (p : PlanParts). p.read_only) c.plan.view_is in
    let scene = scene_of g.T.Tape g.L.Link g.C.Clock in
    let fresh = subst (λ (k : Core). IsFresh plan.geometry k) (sym c.new-disk.ensures.core) c.requires.fresh in
    rw (c.finish-core.ensures, c.into_parts-link.ensures, ← (c.new-disk.ensures.unmarked c.requires.fresh.unmarked))
    (session_serves plan (scene disk c.args.desk) (scene ended.new.disk ended.new.desk)
    (scene flushed.new.disk flushed.new.desk)
    (streams_at (g.R.Source.left c.args.input.now) (g.S.Sink.held c.args.output.now))
    (streams_at (g.R.Source.left ended.new.source) (g.S.Sink.held ended.new.sink))
    (g.R.Source.faults c.args.input.now) (g.S.Sink.faults c.args.output.now) (g.S.Sink.faults c.args.errors.now)
    (g.R.Source.faults ended.new.source) (g.S.Sink.faults ended.new.sink) (g.S.Sink.faults c.complain_of.new.errors)
    (g.S.Sink.held c.args.errors.now) (g.S.Sink.held c.complain_of.new.errors) ended.result flushed.result
    c.status_of.result c.sound_is_legal.ensures c.sound_flushes.ensures c.sound_survives_crash.ensures
    c.stale_is_young.ensures fresh
    (c.new-disk.ensures.names ∙ c.requires.names) (rw is at ended.ensures.told) ended.ensures.read_cause
    ended.ensures.write_cause (rw is at flushed.ensures.did) c.status_of.ensures c.complain_of.ensures)
