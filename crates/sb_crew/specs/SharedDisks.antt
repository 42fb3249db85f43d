-- What a disk for many callers is made of, and what contracts say of it.
use Rattle.sb_turn.specs.declared.stands.Stands.{Ghosts}
use Rattle.sb_turn.specs.declared.turn.Turn.{Turn}
use Rattle.sb_turn.specs.declared.pass.Pass.{Pass}
use Rattle.sb_core.specs.declared.machine.Core.{Core}
use Rattle.sb_core.specs.declared.standing.Timed.{Timed}
use Rattle.sb_core.specs.declared.standing.Fixed.{Fixed}
use Rattle.sb_crew.specs.declared.disk.Disk.{Disk}
use Rattle.sb_crew.specs.Bases.{Base, shared_base}
use Rattle.sb_crew.specs.Names.{Naming}
use Rattle.sb_crew.specs.Scenes.{Deed}
use Rattle.sb_crew.specs.Sharing.{CallerScene, MayCall, PassDid}

-- its lock, the names of its objects, and its size and settings
abbrev pub lock_of : Disk → Turn Core Timed Fixed
lock_of disk = disk.turn

abbrev pub shared_names : Disk → Naming
shared_names disk = disk.names

abbrev pub fixed_of_disk : Disk → Fixed
fixed_of_disk disk = disk.fixed

-- its base as its callers see it
abbrev pub base_of_disk : Disk → Base
base_of_disk disk = shared_base disk.fixed

module _ {g : Ghosts Core Timed Fixed} where
  -- a call of the disk may be made with this pass
  abbrev pub MayUse : Disk → Pass Core Timed Fixed g → Type 0
  MayUse disk pass = MayCall disk.turn disk.fixed pass

  -- what a caller of the disk did
  abbrev pub CallerDid : Disk → CallerScene g → CallerScene g → Deed → Type 0
  CallerDid disk before after deed = PassDid disk.names disk.fixed before after deed
