-- What a disk on one thread is made of.
use Rattle.std.specs.Prelude.{vec_len}
use Rattle.sb_core.specs.declared.machine.Core.{Core}
use Rattle.sb_crew.specs.declared.alone.Alone.{Alone}
use Rattle.sb_crew.specs.declared.desk.Desk.{Desk}
use Rattle.sb_world.specs.declared.clock.Clock as clock
use Rattle.sb_world.specs.declared.link.Link as link
use Rattle.sb_world.specs.declared.tape.Tape as tape
use Rattle.sb_crew.specs.Scenes.{DiskScene, Scene, disk_at}
use Rattle.sb_crew.specs.Names.{Naming}
use Rattle.sb_crew.specs.Ready.{IsReady}

-- the disk's core, its names, and its tape
abbrev pub core_of : {T : Type 0} → Alone T → Core
core_of disk = disk.core

abbrev pub names_of : {T : Type 0} → Alone T → Naming
names_of disk = disk.names

abbrev pub tape_of : {T : Type 0} → Alone T → T
tape_of disk = disk.tape

-- a call of the disk may be made with this desk
abbrev pub IsReadyWith : {T L C : Type 0} → Alone T → Desk L C → Type 0
IsReadyWith disk desk = IsReady disk.core disk.reading (vec_len desk.room)

-- what a contract sees of a disk, and of a disk and its desk
abbrev pub disk_of : {T : Type 0} → tape.Ghosts T → Alone T → DiskScene
disk_of tapes disk = disk_at disk.names disk.core (tapes.told disk.tape)

abbrev pub scene_of : {T L C : Type 0} → tape.Ghosts T → link.Ghosts L → clock.Ghosts C → Alone T → Desk L C → Scene
scene_of tapes links clocks disk desk = record {
  disk = disk_of tapes disk;
  log = links.log desk.link;
  faults = links.faults desk.link;
  ticks = clocks.ticks desk.clock;
}
