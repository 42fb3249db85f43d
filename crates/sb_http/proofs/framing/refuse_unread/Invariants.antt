use Rattle.std.proofs.Common.{◌≡◌, drop}
use Rattle.sb_http.specs.Fields.{unread}
use Rattle.sb_http.proofs.framing.refuse_unread.Given as goal

abbrev pub invariant-loop-header : goal.invariant-loop-header
invariant-loop-header l = unread l.headers ≡ unread (drop l.header-index l.headers)
