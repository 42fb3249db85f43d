-- The pauses between attempts, in milliseconds.
use Rattle.std.specs.Prelude.{ℕ, ◌≡◌, ◌≢◌, ◌*◌, ◌-◌, min, List, [], ◌∷◌}

-- pauses whose first is this, doubled each time, and of which the last is cut so that their sum is the total: none where
-- the total is 0
abbrev pub ArePauses : ℕ → ℕ → List ℕ → Type 0
ArePauses first total [] = total ≡ 0
ArePauses first total (pause ∷ pauses) =
    (total ≢ 0) × (pause ≡ min first total) × ArePauses (first * 2) (total - pause) pauses
