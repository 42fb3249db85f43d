use Rattle.sb_laws.proofs.Joins.{plain_trace_holds}
use Rattle.sb_laws.proofs.laws.plain_trace_holds.Goals as goal

pub returns : goal.returns
returns c = plain_trace_holds
