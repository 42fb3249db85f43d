use Rattle.std.proofs.Common.{Bool, ap, inr}
use Rattle.sb_world.specs.Benches.{shut_bench}
use Rattle.sb_world.specs.Worlds.{make_failed}
use Rattle.s3backer.proofs.top.run_stdio.Goals as goal

pub returns-in-Ok-clause-ends : goal.returns-in-Ok-clause-ends
returns-in-Ok-clause-ends g c =
    inr (inr (record {
      asked = rw (c.shut.ensures, ← c.plan.view_is) c.bench.ensures.makes.asked;
      bench = c.in-Ok.bench;
      bench' = c.run_single-status.result.2;
      next_is = c.in-Ok.ensures.makes.next_is;
      last_is = rw (c.shut.ensures)
          (ap (λ (t : Bool). shut_bench t c.run_single-status.result.2) c.bench.ensures.makes.same_tells);
      serves = c.run_single-status.ensures;
      faults_stay = rw (c.shut.ensures) (c.bench.ensures.makes.counted.stays (ap (λ made. make_failed made) c.in-Ok.is));
      quiet = rw (c.shut.ensures) c.bench.ensures.makes.same_said;
      heard_stays = rw (c.shut.ensures) c.bench.ensures.makes.same_heard;
    }))
