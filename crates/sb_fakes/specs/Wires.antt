-- What a wire in memory tells.
use Rattle.std.specs.Prelude.{ℕ, ◌≡◌, ◌+◌, ◌-◌, ◌^◌, min, Bool, false, nat_eq, List}
use Rattle.std.specs.Prelude.{Result, Ok, Err}
use Rattle.std.specs.List.{list_any}
use Rattle.sb_world.specs.declared.wire.Connection.{Connection}
use Rattle.sb_fakes.specs.declared.wire.MemoryWire.{MemoryWire}

-- its connections
abbrev pub connections_of : MemoryWire → List Connection
connections_of wire = wire.begun.items

-- the next call is among those that are to fail
abbrev pub fails_next : MemoryWire → Bool
fails_next wire = list_any (λ call. nat_eq call (min (wire.calls + 1) (2 ^ 64 - 1))) wire.fails.items

-- a call that is to fail fails
abbrev pub IsPlanned : {T E : Type 0} → Bool → Result T E → Type 0
IsPlanned fails (Ok value) = fails ≡ false
IsPlanned fails (Err fault) = Unit {0}

-- the answers, the size of a piece and the calls that are to fail stay, and a call is counted
pub record Keeps (before now : MemoryWire) : Type 0 where
  pub answers : now.answers ≡ before.answers
  pub piece : now.piece ≡ before.piece
  pub fails : now.fails ≡ before.fails
  pub calls : now.calls ≡ min (before.calls + 1) (2 ^ 64 - 1)

-- a call that failed is counted, and no other
abbrev pub Counts : {T E : Type 0} → Result T E → ℕ → ℕ → Type 0
Counts (Ok value) before now = now ≡ before
Counts (Err fault) before now = now ≡ min (before + 1) (2 ^ 64 - 1)
