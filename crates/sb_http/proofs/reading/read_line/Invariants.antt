use Rattle.std.proofs.Common.{ℕ, List, length, ◌≡◌, ◌≤◌, false}
use Rattle.sb_http.specs.declared.line.Step.TheVariants.{More}
use Rattle.sb_http.specs.Lines.{read_from}
use Rattle.sb_http.specs.Takings.{Takes}
use Rattle.sb_http.specs.Windows.{pending}
use Rattle.sb_http.proofs.reading.read_line.Given as goal

-- what came so far
abbrev pub invariant-loop-count : goal.invariant-loop-count
invariant-loop-count g l =
    let connections = g.W.Wire.connections in
    (bytes : List ℕ) × (length bytes ≡ l.count) × (read_from l.fn.start bytes ≡ More l.line)
    × Takes (connections l.fn.wire) (connections l.wire) (pending l.fn.window) (pending l.window) bytes false
    × (g.W.Wire.faults l.fn.wire ≤ g.W.Wire.faults l.wire)
