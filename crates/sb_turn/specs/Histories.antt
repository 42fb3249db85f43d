-- A history is a list of entries, newest first, each with the number of the pass that made it.
use Rattle.std.specs.Prelude.{◌≡◌, ℕ, ◌==◌, List, [], ◌∷◌, ◌++◌, length, nat_lt, if◌then◌else◌}

module _ {E : Type 0} where
  -- the entries of one pass, newest first
  abbrev pub entries_of_pass : ℕ → List (ℕ × E) → List (ℕ × E)
  entries_of_pass n [] = []
  entries_of_pass n (x ∷ xs) = if x.0 == n then x ∷ entries_of_pass n xs else entries_of_pass n xs

  -- the history has gone on from this past
  abbrev pub IsPast : List (ℕ × E) → List (ℕ × E) → Type 0
  IsPast past history = (later : List (ℕ × E)) × (history ≡ later ++ past)

  -- the history has gone on from each of these
  abbrev pub ArePasts : List (List (ℕ × E)) → List (ℕ × E) → Type 0
  ArePasts [] history = Unit {0}
  ArePasts (x ∷ xs) history = IsPast x history × ArePasts xs history

  -- the longer of two lists
  abbrev pub longer : List (ℕ × E) → List (ℕ × E) → List (ℕ × E)
  longer a b = if nat_lt (length a) (length b) then b else a

  -- one entry, of the pass with this number
  abbrev pub IsEntryOf : ℕ → List (ℕ × E) → Type 0
  IsEntryOf number made = (e : E) × (made ≡ (number, e) ∷ [])
