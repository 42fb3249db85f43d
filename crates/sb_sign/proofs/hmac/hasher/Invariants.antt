use Rattle.std.proofs.Common.{take}
use Rattle.sha2.specs.Hashers.{Holds256}
use Rattle.sb_sign.specs.Hmac.{padded}
use Rattle.sb_sign.proofs.hmac.hasher.Given as goal

abbrev pub invariant-loop-byte : goal.invariant-loop-byte
invariant-loop-byte l = Holds256 l.hasher (padded l.pad (take l.byte-index l.key))
