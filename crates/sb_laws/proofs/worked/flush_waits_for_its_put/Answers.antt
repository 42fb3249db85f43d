use Rattle.sb_laws.proofs.ValueRows.{flushed_too_early_loses, flushed_after_failure_loses}
use Rattle.sb_laws.proofs.worked.flush_waits_for_its_put.Goals as goal

pub returns-clause-not_while_open : goal.returns-clause-not_while_open
returns-clause-not_while_open c = flushed_too_early_loses

pub returns-clause-not_after_failure : goal.returns-clause-not_after_failure
returns-clause-not_after_failure c = flushed_after_failure_loses
