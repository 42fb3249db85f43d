use Rattle.std.proofs.Common.{sym, ◌∙◌}
use Rattle.sb_window.proofs.KeptLemmas.{end_later}
use Rattle.sb_window.proofs.WindowLemmas.{get_by}
use Rattle.sb_window.proofs.window.Window.may_put.Goals as goal

pub when_after-requires-clause-ended : goal.when_after-requires-clause-ended
when_after-requires-clause-ended c =
    let later = rw (← c.self.view_is) at c.requires.reading in
    let some = sym c.get.ensures ∙ c.in-Some.is in
    let by = get_by c.self.inside.reading c.args.block c.self.inside.table.puts c.self.invariant.ends in
    end_later c.self.inside.reading c.args.now _ later (rw some at by)
