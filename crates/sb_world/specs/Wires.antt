-- What the connections of a wire have sent and received.
use Rattle.std.specs.Prelude.{ℕ, zero, ◌≡◌, ◌≤◌, Bool, true, false, List, [], ◌∷◌, ◌++◌, length, take, Option, Some}
use Rattle.std.specs.Prelude.{Result, Ok, Err, if◌then◌else◌}
use Rattle.sb_world.specs.Told.{Gains}
use Rattle.sb_world.specs.declared.wire.Connection.{Connection}

-- a connection that nothing was sent or received on
abbrev pub fresh_connection : Connection
fresh_connection = record { sent = []; received = []; ended = false }

-- a connect begins a connection, or fails and begins none
abbrev pub Connects : {E : Type 0} → Option (List Connection) → Option (List Connection) → Result Unit E → Type 0
Connects before now (Ok done) = Gains before now (fresh_connection ∷ [])
Connects before now (Err fault) = Gains before now []

-- the newest connection with more sent and received, and whether its end came
abbrev pub grown : List ℕ → List ℕ → Bool → List Connection → List Connection
grown sent received ended [] = []
grown sent received ended (newest ∷ older) =
    record {
      sent = newest.sent ++ sent;
      received = newest.received ++ received;
      ended = if ended then true else newest.ended;
    } ∷ older

-- where the connections are told now, they were told before, and the newest has grown by this since
pub record Grows (before now : Option (List Connection)) (sent received : List ℕ) (ended : Bool) : Type 0 where
  pub told : (list : List Connection) → now ≡ Some list
      → (old : List Connection) × (before ≡ Some old) × (list ≡ grown sent received ended old)

-- a send adds all bytes, or a front of them and fails
abbrev pub Sends : {E : Type 0} → Option (List Connection) → Option (List Connection) → Result Unit E → List ℕ → Type 0
Sends before now (Ok done) bytes = Grows before now bytes [] false
Sends before now (Err fault) bytes = (front after : List ℕ) × (bytes ≡ front ++ after) × Grows before now front [] false

-- no byte into a buffer that has room for some: the end
abbrev pub is_end : ℕ → List ℕ → Bool
is_end zero (first ∷ rest) = true
is_end count room = false

-- a receive adds the bytes that it gives, none only at the end or into an empty buffer, and a failed one adds none
abbrev pub Receives : {E : Type 0} → Option (List Connection) → Option (List Connection) → Result ℕ E → List ℕ → Type 0
Receives before now (Ok count) room = (count ≤ length room) × Grows before now [] (take count room) (is_end count room)
Receives before now (Err fault) room = Gains before now []
