-- What is taken of the bytes that a wire receives.
use Rattle.std.specs.Prelude.{ℕ, ◌≡◌, ◌≤◌, ◌<◌, ◌+◌, zero, Bool, true, false, List, [], ◌∷◌, ◌++◌, length, take, Option}
use Rattle.std.specs.Prelude.{Some, None, Result, Ok, Err}
use Rattle.sb_world.specs.Wires.{Grows}
use Rattle.sb_world.specs.declared.wire.Connection.{Connection}
use Rattle.sb_http.specs.declared.fault.HttpFault.{HttpFault}
use Rattle.sb_http.specs.declared.fault.HttpFault.TheVariants.{WireFault, Memory}

-- these bytes were taken: what waited before and what was received since are these bytes and what waits now
pub record Takes (before now : Option (List Connection)) (ahead left bytes : List ℕ) (ended : Bool) : Type 0 where
  pub received : List ℕ
  pub grows : Grows before now [] received ended
  pub joined : ahead ++ received ≡ bytes ++ left

-- the wire failed, or memory was not found
abbrev pub IsOutside : HttpFault → Type 0
IsOutside WireFault = Unit {0}
IsOutside Memory = Unit {0}
IsOutside fault = ⊥

-- a count of no bytes
abbrev pub is_nothing : ℕ → Bool
is_nothing zero = true
is_nothing count = false

-- bytes were received behind the first ones of a buffer, none only at the end; a receive that failed gave none
abbrev pub ReceivesBehind : {E : Type 0} → Option (List Connection) → Option (List Connection) → ℕ → List ℕ → List ℕ
    → Result ℕ E → Type 0
ReceivesBehind before now start old new (Ok count) =
    (start + count ≤ length new) × (bytes : List ℕ) × (length bytes ≡ count)
    × (take (start + count) new ≡ take start old ++ bytes) × Grows before now [] bytes (is_nothing count)
ReceivesBehind before now start old new (Err fault) = (take start new ≡ take start old) × Grows before now [] [] false

-- at most so many bytes were received behind the old ones, none only at the end; before a fault from outside none were
abbrev pub ReceivesInto : Option (List Connection) → Option (List Connection) → List ℕ → List ℕ → ℕ
    → Result ℕ HttpFault → Type 0
ReceivesInto before now old new most (Ok n) =
    (n ≤ most) × (bytes : List ℕ) × (length bytes ≡ n) × (new ≡ old ++ bytes) × Grows before now [] bytes (is_nothing n)
ReceivesInto before now old new most (Err fault) = IsOutside fault × (new ≡ old) × Grows before now [] [] false

-- one byte was taken, or the end came; before a fault from outside nothing was taken
abbrev pub TakesByte : Option (List Connection) → Option (List Connection) → List ℕ → List ℕ
    → Result (Option ℕ) HttpFault → Type 0
TakesByte before now ahead left (Ok (Some byte)) = Takes before now ahead left (byte ∷ []) false
TakesByte before now ahead left (Ok None) = (left ≡ []) × Takes before now ahead left [] true
TakesByte before now ahead left (Err fault) = IsOutside fault × Takes before now ahead left [] false

-- so many bytes were taken behind the old ones, fewer only at the end, or some before a fault from outside
abbrev pub TakesInto : Option (List Connection) → Option (List Connection) → List ℕ → List ℕ → List ℕ → List ℕ → ℕ
    → Result ℕ HttpFault → Type 0
TakesInto before now ahead left old new want (Ok n) =
    (n ≤ want) × (bytes : List ℕ) × (length bytes ≡ n) × (new ≡ old ++ bytes)
    × (ended : Bool) × Takes before now ahead left bytes ended
    × (n < want → (left ≡ []) × (ended ≡ true)) × (n ≡ want → ended ≡ false)
TakesInto before now ahead left old new want (Err fault) =
    IsOutside fault × (bytes : List ℕ) × (length bytes ≤ want) × (new ≡ old ++ bytes)
    × Takes before now ahead left bytes false
