-- What a server serves, and the disk that is made for it.
use Rattle.std.specs.Prelude.{◌≡◌, ◌≤◌, length, [], Some, string_bytes}
use Rattle.sb_base.specs.Shapes.{IsSound}
use Rattle.sb_base.specs.SettingsTable.{IsChecked}
use Rattle.sb_turn.specs.Passes.{seen, mine, joined, number}
use Rattle.sb_world.specs.Benches.{HasPauses}
use Rattle.sb_names.specs.declared.names.TheConstants.{MAX_PREFIX}
use Rattle.sb_core.specs.declared.standing.Fixed.{Fixed}
use Rattle.sb_crew.specs.declared.disk.Disk.{Disk}
use Rattle.sb_crew.specs.Names.{Naming}
use Rattle.sb_crew.specs.Runs.{sizes_of}
use Rattle.sb_crew.specs.SharedDisks.{shared_names, fixed_of_disk, MayUse}
use Rattle.sb_server.specs.declared.mount.Mount.{Mount}
use Rattle.sb_server.specs.Callers.{CorePass}

-- the names of its objects with the sizes that the first one carries, and what of its disk never changes
abbrev pub naming_of : Mount → Naming
naming_of mount =
    record { prefix = string_bytes mount.prefix; hashed = mount.hashed; meta = sizes_of mount.geometry }

abbrev pub fixed_of_mount : Mount → Fixed
fixed_of_mount mount = record { geometry = mount.geometry; settings = mount.settings }

-- a disk can have its size, its settings and its prefix, and its store pauses before it tries again
pub record CanBeServed (mount : Mount) : Type 0 where
  pub sound : IsSound mount.geometry
  pub checked : IsChecked mount.settings (Some mount.geometry.blocks)
  pub prefix : length (string_bytes mount.prefix) ≤ MAX_PREFIX
  pub pauses : HasPauses (Some mount.store)

-- a disk for it to which nothing has happened, and its first pass
pub record IsNewDisk (mount : Mount) (disk : Disk) (pass : CorePass) : Type 0 where
  pub names : shared_names disk ≡ naming_of mount
  pub fixed : fixed_of_disk disk ≡ fixed_of_mount mount
  pub may : MayUse disk pass
  pub first : number pass ≡ 1
  pub none_seen : seen pass ≡ []
  pub none_made : mine pass ≡ []
  pub none_joined : joined pass ≡ []
