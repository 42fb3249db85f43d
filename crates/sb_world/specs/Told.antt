-- What an object of the outside tells, and when it may fail.
use Rattle.std.specs.Prelude.{ℕ, ◌≡◌, ◌+◌, ◌-◌, ◌^◌, ◌≤◌, min, Bool, true, false, List, [], ◌++◌, Option, Some}

-- where the list is told now, it was told before and has gained these since, the newest first
pub record Gains {X : Type 0} (before now : Option (List X)) (gained : List X) : Type 0 where
  pub told : (list : List X) → now ≡ Some list → (old : List X) × (before ≡ Some old) × (list ≡ gained ++ old)

-- a count of faults rose, or stands at its end
abbrev pub Rose : ℕ → ℕ → Type 0
Rose before now = min (before + 1) (2 ^ 64 - 1) ≤ now

-- a count of faults never falls, and rises where a call failed so
pub record CountsFaults (before now : ℕ) (failed : Type 0) : Type 0 where
  pub later : before ≤ now
  pub rises : failed → Rose before now

-- a count of faults rises where a call failed so, and stays where it did not
pub record CountsJust (before now : ℕ) (failed : Bool) : Type 0 where
  pub later : before ≤ now
  pub rises : failed ≡ true → Rose before now
  pub stays : failed ≡ false → now ≡ before

-- where it is told, nothing is there
abbrev pub IsEmpty : {X : Type 0} → Option (List X) → Type 0
IsEmpty {X} told = (list : List X) → told ≡ Some list → list ≡ []

-- nothing happened yet: where it is told, the log is empty, and the count of faults is 0
pub record IsUnused {X : Type 0} (log : Option (List X)) (faults : ℕ) : Type 0 where
  pub empty : IsEmpty log
  pub counted : faults ≡ 0
