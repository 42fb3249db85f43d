-- How a link's count of faults goes with its calls. Calls are newest first.
use Rattle.std.specs.Prelude.{ℕ, ◌+◌, ◌-◌, ◌^◌, ◌≤◌, ◌⊎◌, Bool, true, false, if◌then◌else◌, List, [], ◌∷◌, Option, Some}
use Rattle.sb_world.specs.Told.{Gains}
use Rattle.sb_world.specs.declared.link.Call.{Call}
use Rattle.sb_world.specs.declared.link.LinkFault.{LinkFault}
use Rattle.sb_world.specs.declared.link.LinkFault.TheVariants as link
use Rattle.sb_crew.specs.Outcomes.{fault_of}

-- a fault for another cause than memory
abbrev pub is_failure : Option LinkFault → Bool
is_failure (Some (link.Failed status)) = true
is_failure other = false

-- how many of these calls failed so
abbrev pub failures : List Call → ℕ
failures [] = 0
failures (call ∷ calls) = (if is_failure (fault_of call) then 1 else 0) + failures calls

-- a count never fell, and rose at least by one for each of these calls that failed so, or stands at its end
pub record Counts (before now : ℕ) (calls : List Call) : Type 0 where
  pub later : before ≤ now
  pub risen : (before + failures calls ≤ now) ⊎ (2 ^ 64 - 1 ≤ now)

-- a link was asked for just these calls
pub record Asked (log log' : Option (List Call)) (faults faults' : ℕ) (calls : List Call) : Type 0 where
  pub gained : Gains log log' calls
  pub counted : Counts faults faults' calls
