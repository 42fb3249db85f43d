use Rattle.std.proofs.Common.{◌≡◌, drop}
use Rattle.sb_http.specs.Fields.{first_length}
use Rattle.sb_http.proofs.framing.first_length.Given as goal

abbrev pub invariant-loop-header : goal.invariant-loop-header
invariant-loop-header l = first_length l.headers ≡ first_length (drop l.header-index l.headers)
