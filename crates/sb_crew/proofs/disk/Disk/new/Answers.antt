use Rattle.sb_core.specs.Cores.{marks_of}
use Rattle.sb_core.specs.StandingLaws.{opens_by_no_pass}
use Rattle.sb_crew.proofs.disk.Disk.new.Goals as goal

pub new-requires-2-clause-opening : goal.new-requires-2-clause-opening
new-requires-2-clause-opening c =
    λ pass some. opens_by_no_pass (marks_of c.args.core) c.args.core.geometry.blocks pass some
