use Rattle.std.proofs.Common.{◌≡◌, take}
use Rattle.std.specs.Prelude.{map}
use Rattle.std.specs.List.{join_with_byte}
use Rattle.std.specs.String.{string_bytes}
use Rattle.sb_sign.specs.Encoding.{encoded_pair_of}
use Rattle.sb_sign.proofs.encoding.encoded_query.Given as goal

abbrev pub invariant-loop-i : goal.invariant-loop-i
invariant-loop-i l = string_bytes l.text ≡ join_with_byte 38 (map encoded_pair_of (take l.i l.query))
