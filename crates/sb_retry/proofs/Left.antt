-- Each schedule has pauses left, if only none.
use Rattle.std.proofs.Common.{ℕ, zero, suc, ◌-◌, ◌*◌, ◌≢◌, ◌≤◌, min, List, [], ◌∷◌, refl, arith}
use Rattle.sb_retry.specs.declared.schedule.Schedule.{Schedule}
use Rattle.sb_retry.specs.Pauses.{ArePauses}
use Rattle.sb_retry.specs.Schedules.{HasLeft}

-- the pauses of a total that is at most a bound
pauses_within : (bound first total : ℕ) → total ≤ bound → (total ≢ 0 → first ≢ 0)
    → (pauses : List ℕ) × ArePauses first total pauses
pauses_within zero first total within some = ([], omega arith)
pauses_within (suc bound) first zero within some = ([], refl)
pauses_within (suc bound) first (suc total) within some =
    let some_first : first ≢ 0 = some (omega arith) in
    let pause = min first (suc total) in
    let rest = pauses_within bound (first * 2) (suc total - pause) (omega arith) (λ more. omega arith) in
    (pause ∷ rest.0, (omega arith, refl, rest.1))

-- the pauses that are left
pub pauses_left : (schedule : Schedule) → (pauses : List ℕ) × HasLeft schedule pauses
pauses_left schedule = pauses_within schedule.left schedule.next schedule.left (omega arith) schedule.some
