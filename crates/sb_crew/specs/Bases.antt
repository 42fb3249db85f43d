-- The part of a disk that no call changes.
use Rattle.std.specs.Prelude.{Bool, true, false}
use Rattle.sb_base.specs.declared.geometry.Geometry.{Geometry}
use Rattle.sb_base.specs.declared.settings.Settings.{Settings}
use Rattle.sb_core.specs.declared.machine.Core.{Core}
use Rattle.sb_core.specs.declared.standing.Fixed.{Fixed}
use Rattle.sb_core.specs.Cores.{geometry_of, settings_of}

-- a disk's size and settings, and whether its one caller has it alone
pub record Base : Type 0 where
  pub geometry : Geometry
  pub settings : Settings
  pub alone : Bool

-- those of a core whose one caller has it alone
abbrev pub base_of : Core → Base
base_of core = record { geometry = geometry_of core; settings = settings_of core; alone = true }

-- those of a disk that has many callers
abbrev pub shared_base : Fixed → Base
shared_base fixed = record { geometry = fixed.geometry; settings = fixed.settings; alone = false }
