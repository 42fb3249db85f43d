use Rattle.std.proofs.Common.{◌≢◌, ◌<◌, ◌≤◌, ◌+◌, sym, ap, subst, ◌∙◌, arith}
use Rattle.std.specs.FinMap.{entries}
use Rattle.sb_window.specs.LastPuts.{EndBy, is_end_kept}
use Rattle.sb_window.specs.Windows.{when_full}
use Rattle.sb_window.proofs.KeptLemmas.{earliest_by}
use Rattle.sb_window.proofs.WindowLemmas.{new_now, new_full, new_past, some_past, some_kept}
use Rattle.sb_window.proofs.window.Window.when_new.Goals as goal
use Rattle.sb_window.proofs.window.Window.when_new.Goals.{else-self-ne0-via-then-self-ne0+else-until-now}
use Rattle.sb_window.proofs.window.Window.when_new.Goals.{else-self-ne0-via-else-self-ne0}

pub returns-then-len-room : goal.returns-then-len-room
returns-then-len-room c =
    rw (← c.self.view_is)
    (sym (new_now c.self.inside.min_write_delay c.self.inside.md5_time c.self.inside.reading c.args.now
    c.self.inside.table (omega arith)))

pub returns-in_default : goal.returns-in_default
returns-in_default c =
    let none = sym c.earliest_end.ensures ∙ c.in_default.is in
    let time = c.self.inside.md5_time in
    let full =
    new_full c.self.inside.min_write_delay time c.self.inside.reading c.args.now c.self.inside.table (omega arith)
    (ap (is_end_kept time c.args.now) none) in
    rw (← c.self.view_is) (sym (full ∙ ap (when_full time) none))

pub overflow_add-until : goal.overflow_add-until
overflow_add-until c =
    let some = sym c.earliest_end.ensures ∙ c.in-Some.is in
    let by = earliest_by c.self.inside.reading (entries c.self.inside.table.puts) c.self.invariant.ends in
    let at : c.in-Some.end ≤ c.self.inside.reading = subst (EndBy c.self.inside.reading) some by in
    omega (arith, c.self.invariant.limit)

pub returns-then-until-now : goal.returns-then-until-now
returns-then-until-now c =
    let some = sym c.earliest_end.ensures ∙ c.in-Some.is in
    let past =
    some_past c.self.inside.md5_time c.args.now c.in-Some.end _ some c.if-self-ne0.true c.if-until-now.true in
    rw (← c.self.view_is)
    (sym (new_past c.self.inside.min_write_delay c.self.inside.md5_time c.self.inside.reading c.args.now
    c.self.inside.table c.self.invariant.fits past))

pub returns-else-self-ne0 : goal.returns-else-self-ne0
returns-else-self-ne0 c =
    let some = sym c.earliest_end.ensures ∙ c.in-Some.is in
    let time = c.self.inside.md5_time in
    let before : time ≢ 0 → c.args.now < c.in-Some.end + time = elim c.else-self-ne0.branch [
      | else-self-ne0-via-then-self-ne0+else-until-now w ↦ λ on. w.if-until-now.false
      | else-self-ne0-via-else-self-ne0 w ↦ λ on. absurd (on w.if-self-ne0.false)
    ] in
    let kept = some_kept time c.args.now c.in-Some.end _ some before in
    let full =
    new_full c.self.inside.min_write_delay time c.self.inside.reading c.args.now c.self.inside.table
    (omega arith) kept in
    rw (← c.self.view_is) (sym (full ∙ ap (when_full time) some))
