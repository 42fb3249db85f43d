use Rattle.std.proofs.Common.{◌≡◌, ◌≤◌, Some, drop}
use Rattle.sb_s3link.specs.Entities.{number_after}
use Rattle.sb_s3link.proofs.entity.number_at.Given as goal

-- the digits so far gave the number so far
abbrev pub invariant-loop-byte : goal.invariant-loop-byte
invariant-loop-byte l = record {
  same : number_after l.digits (Some l.value) (drop l.byte-index l.text) ≡ number_after 0 (Some 0) l.text;
  count : l.digits ≡ l.byte-index;
  few : l.digits ≤ 3;
  small : l.value ≤ 127;
}
