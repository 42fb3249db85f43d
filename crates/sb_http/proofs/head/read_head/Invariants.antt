use Rattle.std.proofs.Common.{List, length, All, ◌≡◌, ◌≤◌, false}
use Rattle.httparse.specs.Grammar.{ResponseHead}
use Rattle.sb_http.specs.declared.head.TheConstants.{MAX_HEAD}
use Rattle.sb_http.specs.Heads.{IsInterim, print_heads}
use Rattle.sb_http.specs.Takings.{Takes}
use Rattle.sb_http.specs.Windows.{pending}
use Rattle.sb_http.proofs.head.read_head.Given as goal

-- the heads that were passed over
abbrev pub invariant-loop-passed : goal.invariant-loop-passed
invariant-loop-passed g l =
    let connections = g.W.Wire.connections in
    (heads : List ResponseHead) × All IsInterim heads × (length heads ≡ l.passed)
    × (length (pending l.window) ≤ MAX_HEAD)
    × Takes (connections l.fn.wire) (connections l.wire) (pending l.fn.window) (pending l.window)
    (print_heads heads) false
    × (g.W.Wire.faults l.fn.wire ≤ g.W.Wire.faults l.wire)
