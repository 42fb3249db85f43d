use Rattle.std.proofs.Common.{◌≡◌, take, false, eqb}
use Rattle.std.specs.List.{list_any}
use Rattle.std.specs.Cmp.Lexicographic.{pointwise}
use Rattle.sb_fakes.proofs.names.is_among.Given as goal

-- none of the names so far is the same
abbrev pub invariant-loop-other : goal.invariant-loop-other
invariant-loop-other l = list_any (pointwise eqb l.name) (take l.other-index l.names) ≡ false
