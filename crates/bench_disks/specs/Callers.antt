-- What a caller of a disk of 64 blocks of 4,096 bytes works with.
use Rattle.std.specs.Prelude.{◌≡◌}
use Rattle.sb_crew.specs.declared.disk.Disk.{Disk}
use Rattle.sb_crew.specs.Desks.{HasRoom}
use Rattle.sb_crew.specs.SharedDisks.{fixed_of_disk, MayUse}
use Rattle.bench_disks.specs.declared.callers.Caller.{Caller}

-- it has a pass of the disk, and a buffer of one of its blocks
pub record MayCall {L C : Type 0} (disk : Disk) (caller : Caller L C) : Type 0 where
  pub pass : MayUse disk caller.pass
  pub room : HasRoom (fixed_of_disk disk).geometry caller.desk
  pub geometry : (fixed_of_disk disk).geometry ≡ record { block_size = 4096; blocks = 64 }
