use Rattle.std.proofs.Common.{◌≡◌, take}
use Rattle.std.specs.List.{flat_map}
use Rattle.sb_sign.specs.Requests.{header_line}
use Rattle.sb_sign.proofs.headers.lines.Given as goal

abbrev pub invariant-loop-header : goal.invariant-loop-header
invariant-loop-header l = l.lines.items ≡ flat_map header_line (take l.header-index l.headers)
