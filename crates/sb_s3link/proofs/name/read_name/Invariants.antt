use Rattle.std.proofs.Common.{length, ◌-◌, ◌≤◌, drop}
use Rattle.sb_s3link.specs.Names.{Writes}
use Rattle.sb_s3link.proofs.name.read_name.Given as goal

-- the bytes so far are written there
abbrev pub invariant-bytes : goal.invariant-bytes
invariant-bytes l = record {
  within : l.at ≤ length l.text;
  written : Writes l.text l.name.items (drop l.at l.text);
}

abbrev pub decreases-bytes : goal.decreases-bytes
decreases-bytes l = length l.text - l.at
