use Rattle.std.proofs.Common.{◌≡◌, ◌+◌, ◌++◌, Ok}
use Rattle.sb_base.specs.Ranges.{parts_of}
use Rattle.sb_session.specs.Goals.{zeroed, zeros_of}
use Rattle.sb_session.specs.Answers.{WritesRange}
use Rattle.sb_session.proofs.zeroing.zero_range.Given as goal

-- the parts so far that get zeros have them
abbrev pub invariant-loop-part : goal.invariant-loop-part
invariant-loop-part g l =
    let size = (g.D.Calls.base l.fn.disk).geometry.block_size in
    let parts = zeroed l.zeroing size l.yielded in
    record {
      ready : g.D.Calls.ready l.disk l.desk;
      told : WritesRange (g.D.Calls.base l.fn.disk) (g.D.Calls.did l.fn.disk l.fn.desk l.disk l.desk) parts
          (zeros_of parts) (Ok tt);
      split : l.yielded ++ l.part-iterator ≡ parts_of size l.offset (l.offset + l.count);
      base : g.D.Calls.base l.disk ≡ g.D.Calls.base l.fn.disk;
    }
