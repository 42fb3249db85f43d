-- What the tests of a core keep beside it.
use Rattle.std.specs.Prelude.{ℕ, Bool, Option, Some, None}
use Rattle.sb_core.specs.declared.machine.Core.{Core}
use Rattle.sb_core.specs.Steps.{HasPut}

-- the PUT of a block, of zeros or not, is open, where there is one
abbrev pub KeepsPut : Core → Option (ℕ × Bool) → Type 0
KeepsPut core None = Unit {0}
KeepsPut core (Some put) = HasPut core 1 (record { block = put.0; zeros = put.1 })
