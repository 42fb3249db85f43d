use Rattle.std.proofs.Common.{◌≡◌, [], take}
use Rattle.std.specs.Prelude.{fold}
use Rattle.sb_sign.specs.Requests.{with_header}
use Rattle.sb_sign.proofs.headers.signed_headers.Given as goal

abbrev pub invariant-loop-header : goal.invariant-loop-header
invariant-loop-header l = l.headers.items ≡ fold with_header [] (take l.header-index l.request.signed.items)
