-- What a caller of a disk of eight blocks works with.
use Rattle.std.specs.Prelude.{◌≡◌}
use Rattle.sb_crew.specs.declared.disk.Disk.{Disk}
use Rattle.sb_crew.specs.Desks.{HasRoom}
use Rattle.sb_crew.specs.SharedDisks.{fixed_of_disk, MayUse}
use Rattle.test_disks.specs.declared.callers.Caller.{Caller}

-- it has a pass of the disk, and a buffer of one of its blocks
pub record MayCall {L C : Type 0} (disk : Disk) (caller : Caller L C) : Type 0 where
  pub pass : MayUse disk caller.pass
  pub room : HasRoom (fixed_of_disk disk).geometry caller.desk
  pub geometry : (fixed_of_disk disk).geometry ≡ record { block_size = 512; blocks = 8 }
