use Rattle.std.proofs.Common.{ℕ, List, length, ◌++◌, ◌-◌, ◌≡◌, ◌≤◌, ◌<◌, [], false}
use Rattle.sb_http.specs.Takings.{Takes}
use Rattle.sb_http.specs.Windows.{pending}
use Rattle.sb_http.proofs.incoming.take_into.Given as goal

-- what came so far
abbrev pub invariant-loop-got : goal.invariant-loop-got
invariant-loop-got g l =
    let connections = g.W.Wire.connections in
    (bytes : List ℕ) × (length bytes ≡ l.got) × (l.got ≤ l.want) × (l.room.items ≡ l.fn.room.items ++ bytes)
    × (l.got < l.want → pending l.window ≡ [])
    × Takes (connections l.fn.wire) (connections l.wire) (pending l.fn.window) (pending l.window) bytes false
    × (g.W.Wire.faults l.fn.wire ≤ g.W.Wire.faults l.wire)

abbrev pub decreases-loop-got : goal.decreases-loop-got
decreases-loop-got g l = l.want - l.got
