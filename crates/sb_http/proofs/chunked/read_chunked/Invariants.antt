use Rattle.std.proofs.Common.{List, ◌-◌, ◌≤◌}
use Rattle.sb_http.specs.Chunks.{Chunk}
use Rattle.sb_http.specs.Windows.{pending}
use Rattle.sb_http.proofs.ChunkedBodies.{Reads}
use Rattle.sb_http.proofs.chunked.read_chunked.Given as goal

-- what came so far
abbrev pub invariant-chunks : goal.invariant-chunks
invariant-chunks g l =
    let connections = g.W.Wire.connections in
    (chunks : List Chunk)
    × Reads (connections l.fn.wire) (connections l.wire) (pending l.fn.window)
    (pending l.window) l.fn.room.items l.room.items l.limit l.got chunks
    × (g.W.Wire.faults l.fn.wire ≤ g.W.Wire.faults l.wire)

abbrev pub decreases-chunks : goal.decreases-chunks
decreases-chunks g l = l.limit - l.got
