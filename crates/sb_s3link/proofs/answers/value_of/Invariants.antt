use Rattle.std.proofs.Common.{◌≡◌, drop}
use Rattle.sb_s3link.specs.Statuses.{value_of}
use Rattle.sb_s3link.proofs.answers.value_of.Given as goal

-- the value is that of the headers that are left
abbrev pub invariant-loop-header : goal.invariant-loop-header
invariant-loop-header l = value_of l.name l.headers ≡ value_of l.name (drop l.header-index l.headers)
