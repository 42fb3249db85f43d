use Rattle.std.proofs.Common.{[], ◌∷◌}
use Rattle.sb_base.specs.Lines.{entry_kind_of}
use Rattle.sb_core.specs.Cores.{reading_of}
use Rattle.sb_core.specs.Standing.{timed}
use Rattle.sb_crew.proofs.disk.Disk.end_put.Given as goal

abbrev pub ghosts-leave : goal.ghosts-leave
ghosts-leave g a =
    record { made = (a.pass.now.seat.me.0.number, timed (reading_of a.held.value) (entry_kind_of a.kind)) ∷ [] }
