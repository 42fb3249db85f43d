use Rattle.std.proofs.Common.{[], ◌∷◌}
use Rattle.sb_core.specs.Writing.{write_kind}
use Rattle.sb_crew.specs.Contents.{content_of}
use Rattle.sb_core.specs.Cores.{reading_of}
use Rattle.sb_core.specs.Standing.{timed}
use Rattle.sb_crew.proofs.disk.Disk.ask_write.Given as goal

abbrev pub ghosts-leave_write : goal.ghosts-leave_write
ghosts-leave_write g a =
    record { made = (a.pass.now.seat.me.0.number, timed (reading_of a.held.value) (write_kind a.part (content_of a.content a.part) a.room.now a.step.now)) ∷ [] }
