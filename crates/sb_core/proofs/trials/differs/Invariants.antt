use Rattle.std.proofs.Common.{◌≡◌}
use Rattle.sb_core.specs.declared.trials.TheConstants.{GEOMETRY}
use Rattle.sb_core.specs.Cores.{geometry_of}
use Rattle.sb_core.specs.Trials.{KeepsPut}
use Rattle.sb_core.proofs.trials.differs.Given as goal

abbrev pub invariant-rows : goal.invariant-rows
invariant-rows l = (geometry_of l.core ≡ GEOMETRY) × KeepsPut l.core l.opened
