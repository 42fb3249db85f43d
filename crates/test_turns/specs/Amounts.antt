-- What was added to the counter.
use Rattle.std.specs.Prelude.{ℕ, ◌+◌, List, [], ◌∷◌}

-- the amounts of all entries, added up
abbrev pub total_added : List (ℕ × ℕ) → ℕ
total_added [] = 0
total_added (x ∷ xs) = x.1 + total_added xs
