use Rattle.std.proofs.Common.{ℕ, ◌∙◌, rules, subst, ap, ◌∷◌}
use Rattle.sb_base.specs.Lines.{entry_kind_of}
use Rattle.sb_turn.specs.Passes.{number}
use Rattle.sb_core.specs.Standing.{entries_in}
use Rattle.sb_base.specs.declared.entry.EntryKind.{EntryKind}
use Rattle.sb_core.specs.Cores.{reading_at}
use Rattle.sb_core.specs.Jobs.{job_kind}
use Rattle.sb_core.specs.Standing.{StandsFor}
use Rattle.sb_core.specs.StandingLaws.{next_job_stands}
use Rattle.sb_crew.specs.Sharing.{seen_by}
use Rattle.sb_crew.specs.Working.{JobBegins}
use Rattle.sb_crew.proofs.SharedTurns.{turn_made, given_back}
use Rattle.sb_crew.proofs.WorkTurns.{job_begins, stops_closed}
use Rattle.sb_crew.proofs.disk.Disk.ask_job.Goals as goal

pub leave-requires-clause-value : goal.leave-requires-clause-value
leave-requires-clause-value g c =
    let stood : StandsFor c.value.result.now (seen_by c.enter-held.new.pass) = search rules in
    let stands = next_job_stands c.value.result.now c.next_job-step.new.self c.number-number.result (reading_at c.args.now c.value.result.now)
    c.next_job-step.new.out c.next_job-step.result c.next_job-step.ensures.signals
    c.next_job-step.ensures.represents (seen_by c.enter-held.new.pass) stood in
    given_back c.next_job-step.new.self (seen_by c.enter-held.new.pass) _ _ _ _ _ c.number-number.ensures.number.0 (search rules)
    (search rules) stands

pub returns-clause-turn : goal.returns-clause-turn
returns-clause-turn g c =
    let stood : StandsFor c.value.result.now (seen_by c.enter-held.new.pass) = search rules in
    let stands = next_job_stands c.value.result.now c.next_job-step.new.self c.number-number.result (reading_at c.args.now c.value.result.now)
    c.next_job-step.new.out c.next_job-step.result c.next_job-step.ensures.signals
    c.next_job-step.ensures.represents (seen_by c.enter-held.new.pass) stood in (
      c.next_job-step.new.self.reading,
      (turn_made c.args.pass.now c.enter-held.new.pass c.leave.new.pass c.args.self.now.turn c.args.self.now.fixed
          c.value.result.now c.next_job-step.new.self c.args.now (job_kind c.next_job-step.new.out c.next_job-step.result)
          (entry_kind_of c.job_kind-kind.result) c.job_kind-kind.ensures
          (search rules) c.requires.ready (search rules) (search rules) (search rules) (search rules) stood
          (search rules) (given_back c.next_job-step.new.self (seen_by c.enter-held.new.pass) _ _ _ _ _ c.number-number.ensures.number.0 (search rules)
          (search rules) stands)
          (search rules) (search rules) (search rules) (search rules) (search rules) (search rules)).0,
    )

pub returns-clause-ready : goal.returns-clause-ready
returns-clause-ready g c =
    let stood : StandsFor c.value.result.now (seen_by c.enter-held.new.pass) = search rules in
    let stands = next_job_stands c.value.result.now c.next_job-step.new.self c.number-number.result (reading_at c.args.now c.value.result.now)
    c.next_job-step.new.out c.next_job-step.result c.next_job-step.ensures.signals
    c.next_job-step.ensures.represents (seen_by c.enter-held.new.pass) stood in
    (turn_made c.args.pass.now c.enter-held.new.pass c.leave.new.pass c.args.self.now.turn c.args.self.now.fixed
    c.value.result.now c.next_job-step.new.self c.args.now (job_kind c.next_job-step.new.out c.next_job-step.result)
    (entry_kind_of c.job_kind-kind.result) c.job_kind-kind.ensures
    (search rules) c.requires.ready (search rules) (search rules) (search rules) (search rules) stood
    (search rules) (given_back c.next_job-step.new.self (seen_by c.enter-held.new.pass) _ _ _ _ _ c.number-number.ensures.number.0 (search rules)
    (search rules) stands)
    (search rules) (search rules) (search rules) (search rules) (search rules) (search rules)).1

pub returns-clause-begins : goal.returns-clause-begins
returns-clause-begins g c =
    subst (λ (n : ℕ). JobBegins (seen_by c.leave.new.pass) n c.next_job-step.new.out c.next_job-step.result)
    (c.number-number.ensures.number.0 ∙ c.enter-held.ensures.pass.0.number)
    (job_begins c.value.result.now c.number-number.result c.next_job-step.new.out c.next_job-step.result
    (number c.enter-held.new.pass) c.next_job-step.new.self.reading (seen_by c.enter-held.new.pass)
    (ap entries_in c.leave.ensures.seen
    ∙ ap (λ (k : EntryKind). record { pass = number c.enter-held.new.pass; reading = c.next_job-step.new.self.reading; kind = k } ∷ seen_by c.enter-held.new.pass) c.job_kind-kind.ensures)
    c.leave.ensures.stands c.next_job-step.ensures.opens c.next_job-step.ensures.copies)

pub returns-clause-closed : goal.returns-clause-closed
returns-clause-closed g c =
    stops_closed c.value.result.now c.next_job-step.new.self (reading_at c.args.now c.value.result.now)
    c.next_job-step.result c.leave.ensures.stands c.next_job-step.ensures.signals.closed c.next_job-step.ensures.answer
