-- What a schedule has left.
use Rattle.std.specs.Prelude.{ℕ, ◌≡◌, ◌<◌, List, [], ◌∷◌, Option, Some, None}
use Rattle.sb_retry.specs.declared.schedule.Schedule.{Schedule}
use Rattle.sb_retry.specs.Pauses.{ArePauses}

-- these pauses are left
abbrev pub HasLeft : Schedule → List ℕ → Type 0
HasLeft schedule pauses = ArePauses schedule.next schedule.left pauses

-- how many milliseconds are left
abbrev pub millis_left : Schedule → ℕ
millis_left schedule = schedule.left

-- a schedule of the pauses of these settings
pub record Begins (first total : ℕ) (schedule : Schedule) : Type 0 where
  pub all : (pauses : List ℕ) → ArePauses first total pauses → HasLeft schedule pauses
  pub only : (pauses : List ℕ) → HasLeft schedule pauses → ArePauses first total pauses

-- the first of the pauses that are left comes, and those behind it are left from then on
pub record Takes (old new : Schedule) (pause : ℕ) : Type 0 where
  pub first : (pauses : List ℕ) → HasLeft new pauses → HasLeft old (pause ∷ pauses)
  pub fewer : millis_left new < millis_left old

-- a step of a schedule: none is left and nothing changes, or the first comes
abbrev pub Steps : Schedule → Schedule → Option ℕ → Type 0
Steps old new None = HasLeft old [] × (new ≡ old)
Steps old new (Some pause) = Takes old new pause
