use Rattle.std.proofs.Common.{◌≡◌, ◌+◌, ◌*◌, ◌-◌, ◌^◌, [], ◌∷◌, length, vec_len}
use Rattle.sb_base.specs.Ranges.{IsPart}
use Rattle.sb_core.specs.Cores.{geometry_of}
use Rattle.sb_core.specs.Leads.{steps_left}
use Rattle.sb_crew.specs.Disks.{scene_of}
use Rattle.sb_crew.specs.Ready.{IsReady}
use Rattle.sb_crew.specs.Runs.{any_past}
use Rattle.sb_crew.specs.Turns.{SoFar, IsLatest}
use Rattle.sb_crew.proofs.alone.Alone.read_part.Given as goal

-- nothing that the call wants was done so far
abbrev pub invariant-turns : goal.invariant-turns
invariant-turns g l =
    let scene = scene_of g.T.Tape g.L.Link g.C.Clock in
    record {
      so_far : SoFar any_past [] (scene l.fn.self l.fn.desk) (scene l.self l.desk)
          (l.part ∷ []) l.now;
      ready : IsReady l.self.core l.self.reading (vec_len l.desk.room);
      latest : IsLatest (g.C.Clock.latest l.desk.clock) l.now;
      part : IsPart (geometry_of l.self.core) l.part;
      out : length l.out ≡ l.part.length;
    }

-- fewer steps are left, or time went on, up to the last reading that a clock gives
abbrev pub decreases-turns : goal.decreases-turns
decreases-turns g l = steps_left l.self.core l.part.block * (2 ^ 62 + 1) + (2 ^ 62 - l.now)
