use Rattle.std.proofs.Common.{ℕ, ◌∙◌, rules, refl, subst, ap, ◌∷◌}
use Rattle.sb_turn.specs.Passes.{number}
use Rattle.sb_core.specs.Standing.{entries_in}
use Rattle.sb_base.specs.declared.entry.EntryKind.{EntryKind}
use Rattle.sb_core.specs.Cores.{reading_at}
use Rattle.sb_core.specs.Writing.{write_kind}
use Rattle.sb_core.specs.StandingLaws.{write_stands}
use Rattle.sb_crew.specs.Contents.{content_of}
use Rattle.sb_core.specs.Standing.{StandsFor}
use Rattle.sb_crew.specs.Sharing.{seen_by, WriteBegins}
use Rattle.sb_crew.proofs.SharedTurns.{turn_made, given_back, write_begins}
use Rattle.sb_crew.proofs.disk.Disk.ask_write.Goals as goal

pub leave_write-requires-clause-value : goal.leave_write-requires-clause-value
leave_write-requires-clause-value g c =
    let stood : StandsFor c.value.result.now (seen_by c.enter-held.new.pass) = search rules in
    let stands = write_stands c.value.result.now c.write_core-step.new.core c.number-number.result (reading_at c.args.now c.value.result.now)
    c.args.part (content_of c.args.content c.args.part) c.write_core-step.new.room c.write_core-step.result c.write_core-step.ensures.signals
    c.write_core-step.ensures.represents (seen_by c.enter-held.new.pass) stood in
    given_back c.write_core-step.new.core (seen_by c.enter-held.new.pass) _ _ _ _ _ c.number-number.ensures.number.0 (search rules)
    (search rules) stands

pub returns-clause-turn : goal.returns-clause-turn
returns-clause-turn g c =
    let stood : StandsFor c.value.result.now (seen_by c.enter-held.new.pass) = search rules in
    let stands = write_stands c.value.result.now c.write_core-step.new.core c.number-number.result (reading_at c.args.now c.value.result.now)
    c.args.part (content_of c.args.content c.args.part) c.write_core-step.new.room c.write_core-step.result c.write_core-step.ensures.signals
    c.write_core-step.ensures.represents (seen_by c.enter-held.new.pass) stood in (
      c.write_core-step.new.core.reading,
      (turn_made c.args.pass.now c.enter-held.new.pass c.leave_write.new.pass c.args.self.now.turn c.args.self.now.fixed
          c.value.result.now c.write_core-step.new.core c.args.now (write_kind c.args.part (content_of c.args.content c.args.part) c.write_core-step.new.room c.write_core-step.result)
          (write_kind c.args.part (content_of c.args.content c.args.part) c.write_core-step.new.room c.write_core-step.result) refl
          (search rules) c.requires.ready (search rules) (search rules) (search rules) (search rules) stood
          (search rules) (given_back c.write_core-step.new.core (seen_by c.enter-held.new.pass) _ _ _ _ _ c.number-number.ensures.number.0 (search rules)
          (search rules) stands)
          (search rules) (search rules) (search rules) (search rules) (search rules) (search rules)).0,
    )

pub returns-clause-ready : goal.returns-clause-ready
returns-clause-ready g c =
    let stood : StandsFor c.value.result.now (seen_by c.enter-held.new.pass) = search rules in
    let stands = write_stands c.value.result.now c.write_core-step.new.core c.number-number.result (reading_at c.args.now c.value.result.now)
    c.args.part (content_of c.args.content c.args.part) c.write_core-step.new.room c.write_core-step.result c.write_core-step.ensures.signals
    c.write_core-step.ensures.represents (seen_by c.enter-held.new.pass) stood in
    (turn_made c.args.pass.now c.enter-held.new.pass c.leave_write.new.pass c.args.self.now.turn c.args.self.now.fixed
    c.value.result.now c.write_core-step.new.core c.args.now (write_kind c.args.part (content_of c.args.content c.args.part) c.write_core-step.new.room c.write_core-step.result)
    (write_kind c.args.part (content_of c.args.content c.args.part) c.write_core-step.new.room c.write_core-step.result) refl
    (search rules) c.requires.ready (search rules) (search rules) (search rules) (search rules) stood
    (search rules) (given_back c.write_core-step.new.core (seen_by c.enter-held.new.pass) _ _ _ _ _ c.number-number.ensures.number.0 (search rules)
    (search rules) stands)
    (search rules) (search rules) (search rules) (search rules) (search rules) (search rules)).1

pub returns-clause-begins : goal.returns-clause-begins
returns-clause-begins g c =
    subst (λ (n : ℕ). WriteBegins (seen_by c.leave_write.new.pass) n c.args.part.block c.write_core-step.new.room
    c.write_core-step.result) (c.number-number.ensures.number.0 ∙ c.enter-held.ensures.pass.0.number)
    (write_begins c.value.result.now c.number-number.result c.args.part.block c.write_core-step.new.room c.write_core-step.result
    c.args.part (content_of c.args.content c.args.part) (number c.enter-held.new.pass) c.write_core-step.new.core.reading
    (seen_by c.enter-held.new.pass) (ap entries_in c.leave_write.ensures.seen)
    c.leave_write.ensures.stands c.write_core-step.ensures.leads c.write_core-step.ensures.copies)
