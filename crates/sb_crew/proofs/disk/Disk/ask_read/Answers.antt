use Rattle.std.proofs.Common.{ℕ, ◌∙◌, rules, subst, ap, ◌∷◌}
use Rattle.sb_turn.specs.Passes.{number}
use Rattle.sb_core.specs.Standing.{entries_in}
use Rattle.sb_base.specs.declared.entry.EntryKind.{EntryKind}
use Rattle.sb_core.specs.Cores.{reading_at}
use Rattle.sb_base.specs.Lines.{entry_kind_of}
use Rattle.sb_core.specs.Steps.{read_kind}
use Rattle.sb_core.specs.StandingLaws.{read_stands}
use Rattle.sb_core.specs.Standing.{StandsFor}
use Rattle.sb_crew.specs.Sharing.{seen_by, ReadBegins}
use Rattle.sb_crew.proofs.SharedTurns.{turn_made, given_back, read_begins}
use Rattle.sb_crew.proofs.disk.Disk.ask_read.Goals as goal

pub leave-requires-clause-value : goal.leave-requires-clause-value
leave-requires-clause-value g c =
    let stood : StandsFor c.value.result.now (seen_by c.enter-held.new.pass) = search rules in
    let stands = read_stands c.value.result.now c.read-step.new.self c.number-number.result (reading_at c.args.now c.value.result.now)
    c.args.part c.read-step.new.out c.read-step.new.room c.read-step.result c.read-step.ensures.signals
    c.read-step.ensures.represents (seen_by c.enter-held.new.pass) stood in
    given_back c.read-step.new.self (seen_by c.enter-held.new.pass) _ _ _ _ _ c.number-number.ensures.number.0 (search rules)
    (search rules) stands

pub returns-clause-turn : goal.returns-clause-turn
returns-clause-turn g c =
    let stood : StandsFor c.value.result.now (seen_by c.enter-held.new.pass) = search rules in
    let stands = read_stands c.value.result.now c.read-step.new.self c.number-number.result (reading_at c.args.now c.value.result.now)
    c.args.part c.read-step.new.out c.read-step.new.room c.read-step.result c.read-step.ensures.signals
    c.read-step.ensures.represents (seen_by c.enter-held.new.pass) stood in (
      c.read-step.new.self.reading,
      (turn_made c.args.pass.now c.enter-held.new.pass c.leave.new.pass c.args.self.now.turn c.args.self.now.fixed
          c.value.result.now c.read-step.new.self c.args.now (read_kind c.args.part c.read-step.new.out c.read-step.new.room c.read-step.result)
          (entry_kind_of c.read_kind-kind.result) c.read_kind-kind.ensures
          (search rules) c.requires.ready (search rules) (search rules) (search rules) (search rules) stood
          (search rules) (given_back c.read-step.new.self (seen_by c.enter-held.new.pass) _ _ _ _ _ c.number-number.ensures.number.0 (search rules)
          (search rules) stands)
          (search rules) (search rules) (search rules) (search rules) (search rules) (search rules)).0,
    )

pub returns-clause-ready : goal.returns-clause-ready
returns-clause-ready g c =
    let stood : StandsFor c.value.result.now (seen_by c.enter-held.new.pass) = search rules in
    let stands = read_stands c.value.result.now c.read-step.new.self c.number-number.result (reading_at c.args.now c.value.result.now)
    c.args.part c.read-step.new.out c.read-step.new.room c.read-step.result c.read-step.ensures.signals
    c.read-step.ensures.represents (seen_by c.enter-held.new.pass) stood in
    (turn_made c.args.pass.now c.enter-held.new.pass c.leave.new.pass c.args.self.now.turn c.args.self.now.fixed
    c.value.result.now c.read-step.new.self c.args.now (read_kind c.args.part c.read-step.new.out c.read-step.new.room c.read-step.result)
    (entry_kind_of c.read_kind-kind.result) c.read_kind-kind.ensures
    (search rules) c.requires.ready (search rules) (search rules) (search rules) (search rules) stood
    (search rules) (given_back c.read-step.new.self (seen_by c.enter-held.new.pass) _ _ _ _ _ c.number-number.ensures.number.0 (search rules)
    (search rules) stands)
    (search rules) (search rules) (search rules) (search rules) (search rules) (search rules)).1

pub returns-clause-begins : goal.returns-clause-begins
returns-clause-begins g c =
    subst (λ (n : ℕ). ReadBegins (seen_by c.leave.new.pass) n c.args.part.block c.read-step.new.room c.read-step.result)
    (c.number-number.ensures.number.0 ∙ c.enter-held.ensures.pass.0.number)
    (read_begins c.value.result.now c.number-number.result c.args.part c.read-step.new.out c.read-step.new.room c.read-step.result
    (number c.enter-held.new.pass) c.read-step.new.self.reading (seen_by c.enter-held.new.pass)
    (ap entries_in c.leave.ensures.seen
    ∙ ap (λ (k : EntryKind). record { pass = number c.enter-held.new.pass; reading = c.read-step.new.self.reading; kind = k } ∷ seen_by c.enter-held.new.pass) c.read_kind-kind.ensures)
    c.leave.ensures.stands c.read-step.ensures.leads c.read-step.ensures.copies)
