use Rattle.std.proofs.Common.{◌≡◌}
use Rattle.sb_core.specs.Cores.{geometry_of}
use Rattle.sb_crew.specs.Disks.{core_of, IsReadyWith}
use Rattle.test_stale_reads.specs.declared.disks.TheConstants.{GEOMETRY}
use Rattle.test_stale_reads.proofs.cached_tests.make_all.Given as goal

-- the next call may be made
abbrev pub invariant-loop-call : goal.invariant-loop-call
invariant-loop-call l = record {
  ready : IsReadyWith l.disk l.desk;
  shape : geometry_of (core_of l.disk) ≡ GEOMETRY;
}
