use Rattle.std.proofs.Common.{◌+◌, ◌*◌, ◌-◌, ◌^◌, [], ◌∷◌, vec_len}
use Rattle.sb_core.specs.Leads.{steps_left}
use Rattle.sb_crew.specs.Disks.{scene_of}
use Rattle.sb_crew.specs.Outcomes.{FlushBegun}
use Rattle.sb_crew.specs.Ready.{IsReady}
use Rattle.sb_crew.specs.Runs.{HasBegun}
use Rattle.sb_crew.specs.Turns.{SoFar, IsLatest}
use Rattle.sb_crew.proofs.alone.Alone.flush_writes.Given as goal

-- the flush has begun, and is not done
abbrev pub invariant-turns : goal.invariant-turns
invariant-turns g l =
    let scene = scene_of g.T.Tape g.L.Link g.C.Clock in
    record {
      so_far : SoFar (HasBegun l.mark) (FlushBegun l.mark ∷ []) (scene l.fn.self l.fn.desk) (scene l.self l.desk) [] l.now;
      ready : IsReady l.self.core l.self.reading (vec_len l.desk.room);
      latest : IsLatest (g.C.Clock.latest l.desk.clock) l.now;
    }

-- fewer steps are left, or time went on, up to the last reading that a clock gives
abbrev pub decreases-turns : goal.decreases-turns
decreases-turns g l = steps_left l.self.core 0 * (2 ^ 62 + 1) + (2 ^ 62 - l.now)
