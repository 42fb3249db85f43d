-- What the connections of a wire in memory have to give.
use Rattle.std.specs.Prelude.{ℕ, ◌≡◌, ◌-◌, min, List, [], ◌∷◌, length, take, drop, get_or}
use Rattle.sb_world.specs.declared.wire.Connection.{Connection}

-- the bytes that were sent on the newest connection
abbrev pub sent_on : List Connection → List ℕ
sent_on [] = []
sent_on (newest ∷ older) = newest.sent

-- what the newest of the connections, which gives this answer, still has to give
abbrev pub left_of : List ℕ → List Connection → List ℕ
left_of answer [] = []
left_of answer (newest ∷ older) = drop (length newest.received) answer

-- the same, where the connections give the answers in order, and those behind the last nothing
abbrev pub left_on : List (List ℕ) → List Connection → List ℕ
left_on answers connections = left_of (get_or answers (length connections - 1) []) connections

-- as many bytes came as are left, fit the buffer and make a piece, and they are the next ones
abbrev pub Gives : List ℕ → ℕ → List ℕ → ℕ → Type 0
Gives left piece out count =
    (count ≡ min (min (length left) piece) (length out)) × (take count out ≡ take count left)
