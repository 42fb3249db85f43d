use Rattle.sb_laws.proofs.TraceRows.{failed_put_pauses}
use Rattle.sb_laws.proofs.worked.failed_put_shown_late.Goals as goal

pub returns-clause-pauses : goal.returns-clause-pauses
returns-clause-pauses c = failed_put_pauses
