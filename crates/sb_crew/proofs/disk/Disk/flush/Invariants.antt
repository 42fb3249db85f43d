use Rattle.std.proofs.Common.{◌≡◌, [], ◌∷◌, vec_len}
use Rattle.sb_crew.specs.Sharing.{MayCall, SharedSoFar, caller_of, seen_by}
use Rattle.sb_crew.specs.Outcomes.{FlushBegun}
use Rattle.sb_crew.specs.Runs.{HasBegun}
use Rattle.sb_crew.proofs.disk.Disk.flush.Given as goal

-- the flush has begun, and is not done
abbrev pub invariant-turns : goal.invariant-turns
invariant-turns g l =
    let scene = caller_of g.L.Link g.C.Clock in
    record {
      so_far : SharedSoFar (FlushBegun l.flush ∷ []) l.self.names l.self.fixed (scene l.fn.pass l.fn.desk) (scene l.pass l.desk) [];
      ready : MayCall l.self.turn l.self.fixed l.pass;
      room : vec_len l.desk.room ≡ l.self.fixed.geometry.block_size;
      begun : HasBegun l.flush (seen_by l.pass);
    }
