use Rattle.std.proofs.Common.{◌≡◌, take}
use Rattle.sb_log.specs.Shown.{bytes_in}
use Rattle.sb_log.proofs.shown.show.Given as goal

-- the bytes so far are shown
abbrev pub invariant-loop-byte : goal.invariant-loop-byte
invariant-loop-byte l = bytes_in l.shown ≡ take l.byte-index l.bytes
