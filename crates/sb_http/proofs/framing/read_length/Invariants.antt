use Rattle.std.proofs.Common.{◌≡◌, Some, drop}
use Rattle.sb_http.specs.Fields.{length_after}
use Rattle.sb_http.proofs.framing.read_length.Given as goal

abbrev pub invariant-loop-byte : goal.invariant-loop-byte
invariant-loop-byte l = length_after (Some 0) l.text ≡ length_after (Some l.length) (drop l.byte-index l.text)
