use Rattle.std.proofs.Common.{◌≡◌, [], ◌∷◌, length, vec_len}
use Rattle.sb_crew.specs.Sharing.{MayCall, SharedSoFar, caller_of}
use Rattle.sb_crew.proofs.disk.Disk.read.Given as goal

-- nothing that the call wants was done so far
abbrev pub invariant-turns : goal.invariant-turns
invariant-turns g l =
    let scene = caller_of g.L.Link g.C.Clock in
    record {
      so_far : SharedSoFar [] l.self.names l.self.fixed (scene l.fn.pass l.fn.desk) (scene l.pass l.desk) (l.part ∷ []);
      ready : MayCall l.self.turn l.self.fixed l.pass;
      room : vec_len l.desk.room ≡ l.self.fixed.geometry.block_size;
      out : length l.out ≡ l.part.length;
    }
