-- What a contract sees of a disk and of what it works with, and what came to pass between two such states. Lists are
-- newest first.
use Rattle.std.specs.Prelude.{ℕ, List, [], ◌++◌, Option}
use Rattle.sb_base.specs.declared.entry.Entry.{Entry}
use Rattle.sb_world.specs.declared.clock.Tick.{Tick}
use Rattle.sb_world.specs.declared.link.Call.{Call}
use Rattle.sb_core.specs.declared.machine.Core.{Core}
use Rattle.sb_crew.specs.Names.{Naming}

-- a disk on one thread: its names, its core, and what its tape tells
pub record DiskScene : Type 0 where
  pub names : Naming
  pub core : Core
  pub tape : Option (List Entry)

-- a disk, and what link and clock tell
pub record Scene : Type 0 where
  pub disk : DiskScene
  pub log : Option (List Call)
  pub faults : ℕ
  pub ticks : Option (List Tick)

-- the entries, the calls of the link and the ticks that something came to
pub record Deed : Type 0 where
  pub entries : List Entry
  pub calls : List Call
  pub ticks : List Tick

abbrev pub disk_at : Naming → Core → Option (List Entry) → DiskScene
disk_at names core tape = record { names = names; core = core; tape = tape }

abbrev pub scene_at : Naming → Core → Option (List Entry) → Option (List Call) → ℕ → Option (List Tick) → Scene
scene_at names core tape log faults ticks = record {
  disk = disk_at names core tape;
  log = log;
  faults = faults;
  ticks = ticks;
}

abbrev pub deed_of : List Entry → List Call → List Tick → Deed
deed_of entries calls ticks = record { entries = entries; calls = calls; ticks = ticks }

abbrev pub nothing : Deed
nothing = record { entries = []; calls = []; ticks = [] }

-- one deed and then another
abbrev pub followed : Deed → Deed → Deed
followed first second = record {
  entries = second.entries ++ first.entries;
  calls = second.calls ++ first.calls;
  ticks = second.ticks ++ first.ticks;
}
