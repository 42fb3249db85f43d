use Rattle.std.proofs.Common.{rules, ap}
use Rattle.sb_core.specs.Cores.{reading_at}
use Rattle.std.proofs.Common.{is_ok}
use Rattle.sb_base.specs.declared.entry.EntryKind.TheVariants as kind
use Rattle.sb_core.specs.StandingLaws.{put_end_stands}
use Rattle.sb_crew.proofs.SharedTurns.{has_put}
use Rattle.sb_crew.proofs.PutContents.{digest_kept}
use Rattle.sb_core.specs.Standing.{StandsFor}
use Rattle.sb_crew.specs.Sharing.{seen_by}
use Rattle.sb_crew.proofs.SharedTurns.{turn_made, given_back}
use Rattle.sb_crew.proofs.disk.Disk.end_put.Goals as goal

pub leave-requires-clause-value : goal.leave-requires-clause-value
leave-requires-clause-value g c =
    let stood : StandsFor c.value.result.now (seen_by c.enter-held.new.pass) = search rules in
    let is = digest_kept c.args.pass.now c.enter-held.new.pass c.args.self.now.fixed c.value.result.now c.args.job
    c.args.digest (search rules) (search rules) (search rules) (search rules) (search rules) (search rules)
    (search rules) stood (search rules) c.requires.job c.requires.digest in
    let stands = put_end_stands c.value.result.now c.put_end.new.self c.number-number.result (reading_at c.args.now c.value.result.now)
    c.args.job c.is_ok-ok.result c.args.digest c.put_end.ensures.signals
    c.put_end.ensures.represents (seen_by c.enter-held.new.pass) is stood in
    given_back c.put_end.new.self (seen_by c.enter-held.new.pass) _ _ _ _ _ c.number-number.ensures.number.0 (search rules)
    (search rules) stands

pub returns-clause-turn : goal.returns-clause-turn
returns-clause-turn g c =
    let stood : StandsFor c.value.result.now (seen_by c.enter-held.new.pass) = search rules in
    let is = digest_kept c.args.pass.now c.enter-held.new.pass c.args.self.now.fixed c.value.result.now c.args.job
    c.args.digest (search rules) (search rules) (search rules) (search rules) (search rules) (search rules)
    (search rules) stood (search rules) c.requires.job c.requires.digest in
    let stands = put_end_stands c.value.result.now c.put_end.new.self c.number-number.result (reading_at c.args.now c.value.result.now)
    c.args.job c.is_ok-ok.result c.args.digest c.put_end.ensures.signals
    c.put_end.ensures.represents (seen_by c.enter-held.new.pass) is stood in (
      c.put_end.new.self.reading,
      (turn_made c.args.pass.now c.enter-held.new.pass c.leave.new.pass c.args.self.now.turn c.args.self.now.fixed
          c.value.result.now c.put_end.new.self c.args.now (kind.PutEnd c.args.job.block (is_ok c.args.sent))
          (kind.PutEnd c.args.job.block c.is_ok-ok.result) (ap (kind.PutEnd c.args.job.block) c.is_ok-ok.ensures.value)
          (search rules) c.requires.ready (search rules) (search rules) (search rules) (search rules) stood
          (search rules) (given_back c.put_end.new.self (seen_by c.enter-held.new.pass) _ _ _ _ _ c.number-number.ensures.number.0 (search rules)
          (search rules) stands)
          (search rules) (search rules) (search rules) (search rules) (search rules) (search rules)).0,
    )

pub returns-clause-ready : goal.returns-clause-ready
returns-clause-ready g c =
    let stood : StandsFor c.value.result.now (seen_by c.enter-held.new.pass) = search rules in
    let is = digest_kept c.args.pass.now c.enter-held.new.pass c.args.self.now.fixed c.value.result.now c.args.job
    c.args.digest (search rules) (search rules) (search rules) (search rules) (search rules) (search rules)
    (search rules) stood (search rules) c.requires.job c.requires.digest in
    let stands = put_end_stands c.value.result.now c.put_end.new.self c.number-number.result (reading_at c.args.now c.value.result.now)
    c.args.job c.is_ok-ok.result c.args.digest c.put_end.ensures.signals
    c.put_end.ensures.represents (seen_by c.enter-held.new.pass) is stood in
    (turn_made c.args.pass.now c.enter-held.new.pass c.leave.new.pass c.args.self.now.turn c.args.self.now.fixed
    c.value.result.now c.put_end.new.self c.args.now (kind.PutEnd c.args.job.block (is_ok c.args.sent))
    (kind.PutEnd c.args.job.block c.is_ok-ok.result) (ap (kind.PutEnd c.args.job.block) c.is_ok-ok.ensures.value)
    (search rules) c.requires.ready (search rules) (search rules) (search rules) (search rules) stood
    (search rules) (given_back c.put_end.new.self (seen_by c.enter-held.new.pass) _ _ _ _ _ c.number-number.ensures.number.0 (search rules)
    (search rules) stands)
    (search rules) (search rules) (search rules) (search rules) (search rules) (search rules)).1

pub put_end-requires-clause-job : goal.put_end-requires-clause-job
put_end-requires-clause-job g c =
    rw c.number-number.ensures.number.0 (has_put c.args.pass.now c.enter-held.new.pass c.value.result.now c.args.job
    (search rules) (search rules) (search rules) (search rules) (search rules) (search rules) (search rules)
    c.requires.job)
