use Rattle.sb_laws.proofs.StaleRows.{shown_for_good_within}
use Rattle.sb_laws.proofs.worked.old_version_shown_for_good.Goals as goal

pub returns-clause-within : goal.returns-clause-within
returns-clause-within c = shown_for_good_within
