use Rattle.sb_laws.proofs.After.{stale_is_young}
use Rattle.sb_laws.proofs.laws.stale_is_young.Goals as goal

pub returns : goal.returns
returns c = stale_is_young
