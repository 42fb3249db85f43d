use Rattle.std.proofs.Common.{◌≡◌, ◌+◌, ◌++◌, length, Ok, sum_by}
use Rattle.sb_base.specs.declared.part.Part.{Part}
use Rattle.sb_base.specs.Ranges.{parts_of}
use Rattle.sb_session.specs.Goals.{writes_of}
use Rattle.sb_session.specs.Answers.{WritesRange}
use Rattle.sb_session.proofs.range.write_range.Given as goal

-- the parts so far were written
abbrev pub invariant-loop-part : goal.invariant-loop-part
invariant-loop-part g l = record {
  ready : g.D.Calls.ready l.disk l.desk;
  told : WritesRange (g.D.Calls.base l.fn.disk) (g.D.Calls.did l.fn.disk l.fn.desk l.disk l.desk) l.yielded
      (writes_of l.yielded l.payload) (Ok tt);
  split : l.yielded ++ l.part-iterator ≡ parts_of (g.D.Calls.base l.fn.disk).geometry.block_size l.offset
      (l.offset + length l.payload);
  at : l.at ≡ sum_by (λ (part : Part). part.length) l.yielded;
  base : g.D.Calls.base l.disk ≡ g.D.Calls.base l.fn.disk;
}
