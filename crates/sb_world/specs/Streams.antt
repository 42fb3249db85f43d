-- The bytes that sources have left and sinks hold.
use Rattle.std.specs.Prelude.{ℕ, ◌≡◌, ◌≤◌, ◌<◌, length, List, [], ◌++◌, Option, Some, Result, Ok, Err, take}

-- where what is left now is told, these bytes and what is left now were left before
pub record Takes (before now : Option (List ℕ)) (bytes : List ℕ) : Type 0 where
  pub told : (rest : List ℕ) → now ≡ Some rest → before ≡ Some (bytes ++ rest)

-- nothing is left, where that is told
abbrev pub IsAtEnd : Option (List ℕ) → Type 0
IsAtEnd now = (rest : List ℕ) → now ≡ Some rest → rest ≡ []

-- a read takes the bytes that it gives, none only at the end or into an empty buffer, and a failed read takes none
abbrev pub ReadTakes : {E : Type 0} → Option (List ℕ) → Option (List ℕ) → Result ℕ E → List ℕ → Type 0
ReadTakes before now (Ok n) out = (n ≤ length out) × Takes before now (take n out)
    × (n ≡ 0 → 0 < length out → IsAtEnd now)
ReadTakes before now (Err fault) out = Takes before now []

-- what is held now, where it is told, is what was held before and these bytes
pub record Holds (before now : Option (List ℕ)) (bytes : List ℕ) : Type 0 where
  pub told : (list : List ℕ) → now ≡ Some list → (old : List ℕ) × (before ≡ Some old) × (list ≡ old ++ bytes)

-- a write adds all bytes, or a front of them and fails
abbrev pub WriteHolds : {E : Type 0} → Option (List ℕ) → Option (List ℕ) → Result Unit E → List ℕ → Type 0
WriteHolds before now (Ok done) bytes = Holds before now bytes
WriteHolds before now (Err fault) bytes = (front after : List ℕ) × (bytes ≡ front ++ after) × Holds before now front
