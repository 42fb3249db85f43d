use Rattle.std.proofs.Common.{rules}
use Rattle.sb_core.specs.Cores.{reading_at}
use Rattle.sb_base.specs.Lines.{shown_of}
use Rattle.sb_base.specs.declared.entry.EntryKind.TheVariants as kind
use Rattle.sb_core.specs.Judging.{is_taken}
use Rattle.sb_core.specs.StandingLaws.{get_end_stands}
use Rattle.sb_crew.specs.Answers.{shown_for}
use Rattle.sb_crew.proofs.SharedTurns.{has_get}
use Rattle.sb_core.specs.Standing.{StandsFor}
use Rattle.sb_crew.specs.Sharing.{seen_by}
use Rattle.sb_crew.proofs.SharedTurns.{turn_made, given_back}
use Rattle.sb_crew.proofs.disk.Disk.end_get.Goals as goal

pub leave-requires-clause-value : goal.leave-requires-clause-value
leave-requires-clause-value g c =
    let stood : StandsFor c.value.result.now (seen_by c.enter-held.new.pass) = search rules in
    let stands = get_end_stands c.value.result.now c.get_end-done.new.self c.number-number.result (reading_at c.args.now c.value.result.now)
    c.args.job (shown_of c.answer_of-answer.result) c.get_end-done.result c.get_end-done.ensures.signals
    c.get_end-done.ensures.represents (seen_by c.enter-held.new.pass) stood in
    given_back c.get_end-done.new.self (seen_by c.enter-held.new.pass) _ _ _ _ _ c.number-number.ensures.number.0 (search rules)
    (search rules) stands

pub returns-clause-turn : goal.returns-clause-turn
returns-clause-turn g c =
    let stood : StandsFor c.value.result.now (seen_by c.enter-held.new.pass) = search rules in
    let stands = get_end_stands c.value.result.now c.get_end-done.new.self c.number-number.result (reading_at c.args.now c.value.result.now)
    c.args.job (shown_of c.answer_of-answer.result) c.get_end-done.result c.get_end-done.ensures.signals
    c.get_end-done.ensures.represents (seen_by c.enter-held.new.pass) stood in (
      c.get_end-done.new.self.reading,
      (turn_made c.args.pass.now c.enter-held.new.pass c.leave.new.pass c.args.self.now.turn c.args.self.now.fixed
          c.value.result.now c.get_end-done.new.self c.args.now (kind.GetEnd c.args.job.block (shown_for c.args.got c.args.room.now) c.args.job.verify (is_taken c.get_end-done.result))
          (kind.GetEnd c.block-block.result (shown_of c.answer_of-answer.result) c.verify-verify.result c.is_taken-taken.result) (search rules)
          (search rules) c.requires.ready (search rules) (search rules) (search rules) (search rules) stood
          (search rules) (given_back c.get_end-done.new.self (seen_by c.enter-held.new.pass) _ _ _ _ _ c.number-number.ensures.number.0 (search rules)
          (search rules) stands)
          (search rules) (search rules) (search rules) (search rules) (search rules) (search rules)).0,
    )

pub returns-clause-ready : goal.returns-clause-ready
returns-clause-ready g c =
    let stood : StandsFor c.value.result.now (seen_by c.enter-held.new.pass) = search rules in
    let stands = get_end_stands c.value.result.now c.get_end-done.new.self c.number-number.result (reading_at c.args.now c.value.result.now)
    c.args.job (shown_of c.answer_of-answer.result) c.get_end-done.result c.get_end-done.ensures.signals
    c.get_end-done.ensures.represents (seen_by c.enter-held.new.pass) stood in
    (turn_made c.args.pass.now c.enter-held.new.pass c.leave.new.pass c.args.self.now.turn c.args.self.now.fixed
    c.value.result.now c.get_end-done.new.self c.args.now (kind.GetEnd c.args.job.block (shown_for c.args.got c.args.room.now) c.args.job.verify (is_taken c.get_end-done.result))
    (kind.GetEnd c.block-block.result (shown_of c.answer_of-answer.result) c.verify-verify.result c.is_taken-taken.result) (search rules)
    (search rules) c.requires.ready (search rules) (search rules) (search rules) (search rules) stood
    (search rules) (given_back c.get_end-done.new.self (seen_by c.enter-held.new.pass) _ _ _ _ _ c.number-number.ensures.number.0 (search rules)
    (search rules) stands)
    (search rules) (search rules) (search rules) (search rules) (search rules) (search rules)).1

pub get_end-done-requires-clause-job : goal.get_end-done-requires-clause-job
get_end-done-requires-clause-job g c =
    rw c.number-number.ensures.number.0 (has_get c.args.pass.now c.enter-held.new.pass c.value.result.now c.args.job
    (search rules) (search rules) (search rules) (search rules) (search rules) (search rules) (search rules)
    c.requires.job)
