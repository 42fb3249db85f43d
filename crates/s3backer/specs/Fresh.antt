-- A core with no event behind it.
use Rattle.std.specs.Prelude.{ℕ, ◌≡◌, false, []}
use Rattle.sb_base.specs.declared.geometry.Geometry.{Geometry}
use Rattle.sb_core.specs.declared.machine.Core.{Core}
use Rattle.sb_core.specs.Cores.{Represents, geometry_of, settings_of, reading_of, marks_of}
use Rattle.sb_core.specs.Leads.{IsIdle}
use Rattle.s3backer.specs.Plans.{default_settings}

-- a core of this geometry that nothing was asked of
pub record IsFresh (geometry : Geometry) (core : Core) : Type 0 where
  pub geometry_is : geometry_of core ≡ geometry
  pub settings_is : settings_of core ≡ default_settings
  pub represents : Represents core []
  pub unmarked : (block : ℕ) → marks_of core block ≡ false
  pub idle : IsIdle core
  pub reading : reading_of core ≡ 0
