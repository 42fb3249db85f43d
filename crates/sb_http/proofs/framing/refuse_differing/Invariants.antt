use Rattle.std.proofs.Common.{◌≡◌, drop}
use Rattle.sb_http.specs.Fields.{differing}
use Rattle.sb_http.proofs.framing.refuse_differing.Given as goal

abbrev pub invariant-loop-header : goal.invariant-loop-header
invariant-loop-header l = differing l.size l.headers ≡ differing l.size (drop l.header-index l.headers)
