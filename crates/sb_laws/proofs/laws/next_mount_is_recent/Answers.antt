use Rattle.sb_laws.proofs.After.{next_mount_is_recent}
use Rattle.sb_laws.proofs.laws.next_mount_is_recent.Goals as goal

pub returns : goal.returns
returns c = next_mount_is_recent
