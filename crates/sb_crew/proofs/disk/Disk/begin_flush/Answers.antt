use Rattle.std.proofs.Common.{rules, refl}
use Rattle.sb_core.specs.Cores.{reading_at}
use Rattle.sb_base.specs.declared.entry.EntryKind.TheVariants as kind
use Rattle.sb_core.specs.StandingLaws.{flush_begin_stands}
use Rattle.sb_core.specs.Standing.{StandsFor}
use Rattle.sb_crew.specs.Sharing.{seen_by}
use Rattle.sb_crew.proofs.SharedTurns.{turn_made, given_back}
use Rattle.sb_crew.proofs.disk.Disk.begin_flush.Goals as goal

pub leave-requires-clause-value : goal.leave-requires-clause-value
leave-requires-clause-value g c =
    let stood : StandsFor c.value.result.now (seen_by c.enter-held.new.pass) = search rules in
    let stands = flush_begin_stands c.value.result.now c.flush_begin-mark.new.self c.number-number.result (reading_at c.args.now c.value.result.now)
    c.flush_begin-mark.result c.flush_begin-mark.ensures.closed c.flush_begin-mark.ensures.last_mark
    c.flush_begin-mark.ensures.represents (seen_by c.enter-held.new.pass) stood in
    given_back c.flush_begin-mark.new.self (seen_by c.enter-held.new.pass) _ _ _ _ _ c.number-number.ensures.number.0 (search rules)
    (search rules) stands

pub returns-clause-turn : goal.returns-clause-turn
returns-clause-turn g c =
    let stood : StandsFor c.value.result.now (seen_by c.enter-held.new.pass) = search rules in
    let stands = flush_begin_stands c.value.result.now c.flush_begin-mark.new.self c.number-number.result (reading_at c.args.now c.value.result.now)
    c.flush_begin-mark.result c.flush_begin-mark.ensures.closed c.flush_begin-mark.ensures.last_mark
    c.flush_begin-mark.ensures.represents (seen_by c.enter-held.new.pass) stood in (
      c.flush_begin-mark.new.self.reading,
      (turn_made c.args.pass.now c.enter-held.new.pass c.leave.new.pass c.args.self.now.turn c.args.self.now.fixed
          c.value.result.now c.flush_begin-mark.new.self c.args.now (kind.FlushBegin c.flush_begin-mark.result)
          (kind.FlushBegin c.flush_begin-mark.result) refl
          (search rules) c.requires.ready (search rules) (search rules) (search rules) (search rules) stood
          (search rules) (given_back c.flush_begin-mark.new.self (seen_by c.enter-held.new.pass) _ _ _ _ _ c.number-number.ensures.number.0 (search rules)
          (search rules) stands)
          (search rules) (search rules) (search rules) (search rules) (search rules) (search rules)).0,
    )

pub returns-clause-ready : goal.returns-clause-ready
returns-clause-ready g c =
    let stood : StandsFor c.value.result.now (seen_by c.enter-held.new.pass) = search rules in
    let stands = flush_begin_stands c.value.result.now c.flush_begin-mark.new.self c.number-number.result (reading_at c.args.now c.value.result.now)
    c.flush_begin-mark.result c.flush_begin-mark.ensures.closed c.flush_begin-mark.ensures.last_mark
    c.flush_begin-mark.ensures.represents (seen_by c.enter-held.new.pass) stood in
    (turn_made c.args.pass.now c.enter-held.new.pass c.leave.new.pass c.args.self.now.turn c.args.self.now.fixed
    c.value.result.now c.flush_begin-mark.new.self c.args.now (kind.FlushBegin c.flush_begin-mark.result)
    (kind.FlushBegin c.flush_begin-mark.result) refl
    (search rules) c.requires.ready (search rules) (search rules) (search rules) (search rules) stood
    (search rules) (given_back c.flush_begin-mark.new.self (seen_by c.enter-held.new.pass) _ _ _ _ _ c.number-number.ensures.number.0 (search rules)
    (search rules) stands)
    (search rules) (search rules) (search rules) (search rules) (search rules) (search rules)).1
