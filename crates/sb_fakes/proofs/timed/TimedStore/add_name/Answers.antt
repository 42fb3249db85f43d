use Rattle.std.proofs.Common.{arith}
use Rattle.std.proofs.lemmas.Grind.{common_steps}
use Rattle.sb_fakes.proofs.Collecting.{adds_push, adds_among, adds_absent}
use Rattle.sb_fakes.proofs.timed.TimedStore.add_name.Goals as goal
use Rattle.sb_fakes.proofs.timed.TimedStore.add_name.Goals.{else-is_there-via-then-is_there+else-not-is_among, else-is_there-via-else-is_there}

pub returns-in_ok-push : goal.returns-in_ok-push
returns-in_ok-push c = grind (arith, common_steps, adds_push)

pub returns-else-is_there : goal.returns-else-is_there
returns-else-is_there c =
    elim c.else-is_there.branch [
      | else-is_there-via-then-is_there+else-not-is_among w ↦ grind (arith, common_steps, adds_among)
      | else-is_there-via-else-is_there w ↦ grind (arith, common_steps, adds_absent)
    ]
