use Rattle.std.proofs.Common.{◌≡◌, drop}
use Rattle.sb_window.specs.LastPuts.{earlier, earliest_end}
use Rattle.sb_window.proofs.table.earliest_end.Given as goal

abbrev pub invariant-loop-row : goal.invariant-loop-row
invariant-loop-row l = earlier l.earliest (earliest_end (drop l.row-index l.rows)) ≡ earliest_end l.rows
