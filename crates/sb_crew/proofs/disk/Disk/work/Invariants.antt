use Rattle.std.proofs.Common.{◌≡◌, vec_len}
use Rattle.sb_crew.specs.Sharing.{MayCall, caller_of}
use Rattle.sb_crew.specs.Working.{WorkSoFar}
use Rattle.sb_crew.proofs.disk.Disk.work.Given as goal

-- the worker has not stopped
abbrev pub invariant-turns : goal.invariant-turns
invariant-turns g l =
    let scene = caller_of g.L.Link g.C.Clock in
    record {
      so_far : WorkSoFar l.self.names l.self.fixed (scene l.fn.pass l.fn.desk) (scene l.pass l.desk);
      ready : MayCall l.self.turn l.self.fixed l.pass;
      room : vec_len l.desk.room ≡ l.self.fixed.geometry.block_size;
    }
