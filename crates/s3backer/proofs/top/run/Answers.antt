use Rattle.std.proofs.Common.{inr}
use Rattle.s3backer.proofs.Running.{served_at, served_alone}
use Rattle.s3backer.proofs.top.run.Goals as goal

pub returns-in-Ok-into_mount : goal.returns-in-Ok-into_mount
returns-in-Ok-into_mount g c =
    inr (inr (record {
      plan = c.in-Ok.plan;
      taken = c.in-Ok.ensures.plan;
      ends = served_at _ _ c.in-Ok.plan c.in-Ok-into_mount.mount _ _ _ _ _ c.in-Ok-into_mount.ensures.is
          c.run_server-status.ensures;
    }))

pub returns-in-Err : goal.returns-in-Err
returns-in-Err g c =
    inr (inr (record {
      plan = c.in-Ok.plan;
      taken = c.in-Ok.ensures.plan;
      ends = served_alone _ _ c.in-Ok.plan c.in-Err.plan _ _ _ _ _ _ c.in-Err.ensures.is c.run_stdio.ensures.ends
          c.run_stdio.ensures.none;
    }))
