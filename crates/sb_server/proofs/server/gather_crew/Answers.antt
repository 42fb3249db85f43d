use Rattle.std.proofs.Common.{[]}
use Rattle.sb_server.proofs.Asking.{asks_then, asks_failed, asks_made}
use Rattle.sb_server.proofs.server.gather_crew.Goals as goal

pub returns-in-Err-clause-asks : goal.returns-in-Err-clause-asks
returns-in-Err-clause-asks g c = asks_failed _ _ _ _ _ _ c.in-Err.fault c.in-Err.ensures.asks

pub returns-in-Ok-gather_workers-clause-asks : goal.returns-in-Ok-gather_workers-clause-asks
returns-in-Ok-gather_workers-clause-asks g c =
    asks_made _ _ _ _ _ c.in-Ok-gather_workers.workers _
    (asks_then _ _ _ _ _ c.in-Ok.clients _ c.in-Ok.ensures.asks c.in-Ok-gather_workers.ensures.asks)

pub returns-in-Err-gather_workers-clause-asks : goal.returns-in-Err-gather_workers-clause-asks
returns-in-Err-gather_workers-clause-asks g c =
    asks_failed _ _ _ _ _ [] c.in-Err-gather_workers.fault
    (asks_then _ _ _ _ _ c.in-Ok.clients _ c.in-Ok.ensures.asks c.in-Err-gather_workers.ensures.asks)
