-- A PUT that the tests keep stays open.
use Rattle.std.proofs.Common.{Option, Some, None, ℕ, Bool}
use Rattle.sb_core.specs.declared.machine.Core.{Core}
use Rattle.sb_core.specs.Leads.{KeepsOpen}
use Rattle.sb_core.specs.Trials.{KeepsPut}

pub kept : (old new : Core) (opened : Option (ℕ × Bool)) → KeepsOpen old new → KeepsPut old opened → KeepsPut new opened
kept old new None keeps open_ = tt
kept old new (Some put) keeps open_ = keeps.puts put.0 (record { pass = 1; zeros = put.1 }) open_
