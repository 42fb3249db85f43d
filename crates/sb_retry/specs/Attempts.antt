-- The attempts of a request, and the pauses between them.
use Rattle.std.specs.Prelude.{ℕ, ◌≡◌, ◌⊎◌, Bool, true, false, List, [], ◌∷◌, length, map, Option}
use Rattle.std.specs.List.{AllByRecursion}
use Rattle.sb_world.specs.Told.{Gains}
use Rattle.sb_world.specs.declared.clock.Tick.{Tick}
use Rattle.sb_world.specs.declared.clock.Tick.TheVariants.{Paused}
use Rattle.sb_world.specs.declared.link.Call.{Call}
use Rattle.sb_world.specs.declared.link.LinkFault.{LinkFault}
use Rattle.sb_log.specs.declared.log.GhostLog.{GhostLog}
use Rattle.sb_retry.specs.declared.schedule.Schedule.{Schedule}
use Rattle.sb_retry.specs.declared.retry.Retry.{Retry}
use Rattle.sb_retry.specs.Schedules.{HasLeft, Takes}
use Rattle.sb_retry.specs.Transient.{may_pass}

-- the link that is asked, the clock that pauses, all pauses, and the calls
abbrev pub link_of : {L C : Type 0} → Retry L C → L
link_of retry = retry.link

abbrev pub clock_of : {L C : Type 0} → Retry L C → C
clock_of retry = retry.clock

abbrev pub schedule_of : {L C : Type 0} → Retry L C → Schedule
schedule_of retry = retry.schedule

abbrev pub log_of : {L C : Type 0} → Retry L C → GhostLog
log_of retry = retry.log

-- the requests that a link was asked for and what a clock was asked for, each where it is told
pub record Asked : Type 0 where
  pub calls : Option (List Call)
  pub ticks : Option (List Tick)

-- the same of the link and the clock of attempts
abbrev pub asked_of : {L C : Type 0} → (L → Option (List Call)) → (C → Option (List Tick)) → Retry L C → Asked
asked_of log ticks retry = record { calls = log retry.link; ticks = ticks retry.clock }

-- pauses that were made, the newest first, and behind them those that are left
abbrev pub then_left : List ℕ → List ℕ → List ℕ
then_left [] left = left
then_left (newest ∷ made) left = then_left made (newest ∷ left)

-- attempts that failed in a way that may pass, the newest first, with the pauses that came behind each
pub record Failures {R : Type 0} (fault : R → Option LinkFault) (failed : List R) (made : List ℕ) : Type 0 where
  pub each : AllByRecursion (λ reply. may_pass (fault reply) ≡ true) failed
  pub paused : length failed ≡ length made

-- a request was tried until it was answered so: each attempt but the last failed in a way that may pass and was followed
-- by the next pause of the schedule, and the last didn't fail so, or no pause was left
pub record Tries {R : Type 0} (request : R → Call) (fault : R → Option LinkFault) (schedule : Schedule)
    (before now : Asked) (last : R) : Type 0 where
  pub failed : List R
  pub made : List ℕ
  pub left : List ℕ
  pub failures : Failures fault failed made
  pub scheduled : HasLeft schedule (then_left made left)
  pub attempts : Gains before.calls now.calls (map request (last ∷ failed))
  pub pauses : Gains before.ticks now.ticks (map Paused made)
  pub ends : (may_pass (fault last) ≡ false) ⊎ (left ≡ [])

-- a request has been tried so often, and each attempt failed in a way that may pass and was followed by a pause
pub record HasTried {R : Type 0} (request : R → Call) (fault : R → Option LinkFault) (schedule : Schedule)
    (before now : Asked) (rest : Schedule) : Type 0 where
  pub failed : List R
  pub made : List ℕ
  pub failures : Failures fault failed made
  pub scheduled : (left : List ℕ) → HasLeft rest left → HasLeft schedule (then_left made left)
  pub attempts : Gains before.calls now.calls (map request failed)
  pub pauses : Gains before.ticks now.ticks (map Paused made)

-- another attempt follows a failure that may pass, behind the next pause
pub record Follows (fault : Option LinkFault) (old new : Schedule) (before now : Option (List Tick)) : Type 0 where
  pub passes : may_pass fault ≡ true
  pub pause : ℕ
  pub taken : Takes old new pause
  pub paused : Gains before now (Paused pause ∷ [])

-- no other attempt follows: it is no failure that may pass, or no pause is left
pub record Ends (fault : Option LinkFault) (old : Schedule) (before now : Option (List Tick)) : Type 0 where
  pub why : (may_pass fault ≡ false) ⊎ HasLeft old []
  pub still : now ≡ before

-- whether another attempt follows
abbrev pub Decides : Bool → Option LinkFault → Schedule → Schedule → Option (List Tick) → Option (List Tick) → Type 0
Decides true fault old new before now = Follows fault old new before now
Decides false fault old new before now = Ends fault old before now
