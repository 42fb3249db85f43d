use Rattle.std.proofs.Common.{take}
use Rattle.sb_fakes.specs.Names.{IsListed}
use Rattle.sb_fakes.proofs.names.names_of.Given as goal

-- the names of the objects so far are listed
abbrev pub invariant-loop-object : goal.invariant-loop-object
invariant-loop-object g l = IsListed l.names.items (take l.object-index l.objects) l.objects
