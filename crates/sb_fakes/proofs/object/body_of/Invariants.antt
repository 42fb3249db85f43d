use Rattle.std.proofs.Common.{◌≡◌, drop}
use Rattle.sb_fakes.specs.Objects.{bodies_of}
use Rattle.sb_fakes.proofs.object.body_of.Given as goal

-- none of the objects so far has the name
abbrev pub invariant-loop-object : goal.invariant-loop-object
invariant-loop-object g l = bodies_of l.objects l.name ≡ bodies_of (drop l.object-index l.objects) l.name
