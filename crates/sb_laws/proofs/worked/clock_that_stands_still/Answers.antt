use Rattle.sb_laws.proofs.TraceRows.{stalled_takes_one_more}
use Rattle.sb_laws.proofs.worked.clock_that_stands_still.Goals as goal

pub returns : goal.returns
returns c = stalled_takes_one_more
