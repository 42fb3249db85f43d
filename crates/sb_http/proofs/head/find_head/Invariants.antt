use Rattle.std.proofs.Common.{[], length, ◌-◌, ◌≡◌, ◌≤◌, false}
use Rattle.sb_http.specs.declared.head.TheConstants.{MAX_HEAD, MAX_HEADERS}
use Rattle.sb_http.specs.Takings.{Takes}
use Rattle.sb_http.specs.Windows.{pending}
use Rattle.sb_http.proofs.head.find_head.Given as goal

-- what came so far waits
abbrev pub invariant-arrivals : goal.invariant-arrivals
invariant-arrivals g l =
    let connections = g.W.Wire.connections in record {
      takes : Takes (connections l.fn.wire) (connections l.wire) (pending l.fn.window) [] (pending l.window) false;
      small : length (pending l.window) ≤ MAX_HEAD;
      room : length l.spans ≡ MAX_HEADERS;
      later : g.W.Wire.faults l.fn.wire ≤ g.W.Wire.faults l.wire;
    }

abbrev pub decreases-arrivals : goal.decreases-arrivals
decreases-arrivals g l = MAX_HEAD - length (pending l.window)
