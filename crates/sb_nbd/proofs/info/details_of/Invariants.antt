use Rattle.std.proofs.Common.{◌*◌, take}
use Rattle.sb_nbd.specs.InfoRequests.{ReadsKinds}
use Rattle.sb_nbd.proofs.info.details_of.Given as goal

-- what the kinds so far ask for
abbrev pub invariant-loop-i : goal.invariant-loop-i
invariant-loop-i l = ReadsKinds (take (2 * l.i) l.kinds) l.i l.wanted
