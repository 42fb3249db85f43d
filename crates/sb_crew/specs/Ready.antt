-- When a call of a disk on one thread may be made.
use Rattle.std.specs.Prelude.{ℕ, ◌≡◌}
use Rattle.sb_core.specs.declared.machine.Core.{Core}
use Rattle.sb_core.specs.Cores.{geometry_of, reading_of}
use Rattle.sb_core.specs.Leads.{IsIdle}

-- no request is open, the caller knows the greatest reading, and its buffer holds one block
pub record IsReady (core : Core) (reading room : ℕ) : Type 0 where
  pub idle : IsIdle core
  pub current : reading ≡ reading_of core
  pub whole_room : room ≡ (geometry_of core).block_size
