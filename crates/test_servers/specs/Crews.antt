-- What clients and workers of a disk of eight blocks work with.
use Rattle.std.specs.Prelude.{◌≡◌}
use Rattle.std.specs.List.{AllByRecursion}
use Rattle.sb_crew.specs.declared.disk.Disk.{Disk}
use Rattle.sb_crew.specs.Desks.{HasRoom}
use Rattle.sb_crew.specs.SharedDisks.{fixed_of_disk, MayUse}
use Rattle.sb_server.specs.declared.serving.Served.{Served}
use Rattle.sb_server.specs.Clients.{HasDesk}
use Rattle.sb_server.specs.Workers.{HasWorkDesk}

-- they may begin
pub record IsReady {N L C : Type 0} (disk : Disk) (all : Served N L C) : Type 0 where
  pub pass : MayUse disk all.pass
  pub clients : AllByRecursion (HasDesk disk) all.clients.items
  pub workers : AllByRecursion (HasWorkDesk disk) all.workers.items
  pub room : HasRoom (fixed_of_disk disk).geometry all.desk
