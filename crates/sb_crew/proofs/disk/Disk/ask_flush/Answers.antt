use Rattle.std.proofs.Common.{ℕ, ◌∙◌, rules, subst, ap, ◌∷◌}
use Rattle.sb_turn.specs.Passes.{number}
use Rattle.sb_core.specs.Standing.{entries_in}
use Rattle.sb_base.specs.declared.entry.EntryKind.{EntryKind}
use Rattle.sb_core.specs.Cores.{reading_at}
use Rattle.sb_base.specs.Lines.{entry_kind_of}
use Rattle.sb_core.specs.Flushing.{flush_kind}
use Rattle.sb_core.specs.StandingLaws.{flush_step_stands}
use Rattle.sb_turn.specs.Passes.{seen}
use Rattle.sb_crew.proofs.SharedTurns.{begun_stays}
use Rattle.sb_core.specs.Standing.{StandsFor}
use Rattle.sb_crew.specs.Sharing.{seen_by, FlushBegins}
use Rattle.sb_crew.proofs.SharedTurns.{turn_made, given_back, flush_begins}
use Rattle.sb_crew.proofs.disk.Disk.ask_flush.Goals as goal

pub leave-requires-clause-value : goal.leave-requires-clause-value
leave-requires-clause-value g c =
    let stood : StandsFor c.value.result.now (seen_by c.enter-held.new.pass) = search rules in
    let stands = flush_step_stands c.value.result.now c.flush_step-step.new.self c.number-number.result (reading_at c.args.now c.value.result.now)
    c.args.mark c.flush_step-step.new.out c.flush_step-step.result c.flush_step-step.ensures.signals
    c.flush_step-step.ensures.represents (seen_by c.enter-held.new.pass)
    (begun_stays c.args.mark (seen c.args.pass.now) (seen c.enter-held.new.pass) c.enter-held.ensures.seen c.requires.begun) stood in
    given_back c.flush_step-step.new.self (seen_by c.enter-held.new.pass) _ _ _ _ _ c.number-number.ensures.number.0 (search rules)
    (search rules) stands

pub returns-clause-turn : goal.returns-clause-turn
returns-clause-turn g c =
    let stood : StandsFor c.value.result.now (seen_by c.enter-held.new.pass) = search rules in
    let stands = flush_step_stands c.value.result.now c.flush_step-step.new.self c.number-number.result (reading_at c.args.now c.value.result.now)
    c.args.mark c.flush_step-step.new.out c.flush_step-step.result c.flush_step-step.ensures.signals
    c.flush_step-step.ensures.represents (seen_by c.enter-held.new.pass)
    (begun_stays c.args.mark (seen c.args.pass.now) (seen c.enter-held.new.pass) c.enter-held.ensures.seen c.requires.begun) stood in (
      c.flush_step-step.new.self.reading,
      (turn_made c.args.pass.now c.enter-held.new.pass c.leave.new.pass c.args.self.now.turn c.args.self.now.fixed
          c.value.result.now c.flush_step-step.new.self c.args.now (flush_kind c.args.mark c.flush_step-step.new.out c.flush_step-step.result)
          (entry_kind_of c.flush_kind-kind.result) c.flush_kind-kind.ensures
          (search rules) c.requires.ready (search rules) (search rules) (search rules) (search rules) stood
          (search rules) (given_back c.flush_step-step.new.self (seen_by c.enter-held.new.pass) _ _ _ _ _ c.number-number.ensures.number.0 (search rules)
          (search rules) stands)
          (search rules) (search rules) (search rules) (search rules) (search rules) (search rules)).0,
    )

pub returns-clause-ready : goal.returns-clause-ready
returns-clause-ready g c =
    let stood : StandsFor c.value.result.now (seen_by c.enter-held.new.pass) = search rules in
    let stands = flush_step_stands c.value.result.now c.flush_step-step.new.self c.number-number.result (reading_at c.args.now c.value.result.now)
    c.args.mark c.flush_step-step.new.out c.flush_step-step.result c.flush_step-step.ensures.signals
    c.flush_step-step.ensures.represents (seen_by c.enter-held.new.pass)
    (begun_stays c.args.mark (seen c.args.pass.now) (seen c.enter-held.new.pass) c.enter-held.ensures.seen c.requires.begun) stood in
    (turn_made c.args.pass.now c.enter-held.new.pass c.leave.new.pass c.args.self.now.turn c.args.self.now.fixed
    c.value.result.now c.flush_step-step.new.self c.args.now (flush_kind c.args.mark c.flush_step-step.new.out c.flush_step-step.result)
    (entry_kind_of c.flush_kind-kind.result) c.flush_kind-kind.ensures
    (search rules) c.requires.ready (search rules) (search rules) (search rules) (search rules) stood
    (search rules) (given_back c.flush_step-step.new.self (seen_by c.enter-held.new.pass) _ _ _ _ _ c.number-number.ensures.number.0 (search rules)
    (search rules) stands)
    (search rules) (search rules) (search rules) (search rules) (search rules) (search rules)).1

pub returns-clause-begins : goal.returns-clause-begins
returns-clause-begins g c =
    subst (λ (n : ℕ). FlushBegins (seen_by c.leave.new.pass) n c.flush_step-step.new.out c.flush_step-step.result)
    (c.number-number.ensures.number.0 ∙ c.enter-held.ensures.pass.0.number)
    (flush_begins c.value.result.now c.number-number.result c.flush_step-step.new.out c.flush_step-step.result
    c.args.mark (number c.enter-held.new.pass) c.flush_step-step.new.self.reading (seen_by c.enter-held.new.pass)
    (ap entries_in c.leave.ensures.seen
    ∙ ap (λ (k : EntryKind). record { pass = number c.enter-held.new.pass; reading = c.flush_step-step.new.self.reading; kind = k } ∷ seen_by c.enter-held.new.pass) c.flush_kind-kind.ensures)
    c.leave.ensures.stands c.flush_step-step.ensures.opens c.flush_step-step.ensures.copies)
