-- What one turn of a call came to, and what a call did so far. Entries and calls of the link are newest first.
use Rattle.std.specs.Prelude.{ℕ, ◌≡◌, ◌+◌, ◌<◌, ◌≤◌, ◌^◌, ◌⊎◌, Bool, List, [], ◌∷◌, ◌++◌, Result, Ok, Err, Option, Some}
use Rattle.std.specs.Prelude.{None, is_ok, IfOk}
use Rattle.sb_base.specs.declared.part.Part.{Part}
use Rattle.sb_base.specs.declared.entry.Entry.{Entry}
use Rattle.sb_base.specs.declared.entry.EntryKind.TheVariants as kind
use Rattle.sb_world.specs.Told.{Gains, CountsFaults}
use Rattle.sb_world.specs.Calls.{get_reply, fault_of, HasFailed}
use Rattle.sb_world.specs.declared.clock.Tick.{Tick}
use Rattle.sb_world.specs.declared.clock.Tick.TheVariants as tick
use Rattle.sb_world.specs.declared.link.Call.{Call}
use Rattle.sb_world.specs.declared.link.Call.TheVariants as call
use Rattle.sb_world.specs.declared.link.Got.{Got}
use Rattle.sb_world.specs.declared.link.LinkFault.{LinkFault}
use Rattle.sb_base.specs.declared.line.Why.{Why}
use Rattle.sb_history.specs.ClockTrace.{wait_pause}
use Rattle.sb_history.specs.Requests.{meta_of, put_call}
use Rattle.sb_core.specs.declared.machine.Core.{Core}
use Rattle.sb_core.specs.declared.job.GetJob.{GetJob}
use Rattle.sb_core.specs.Leads.{steps_left, LeavesMissing}
use Rattle.sb_crew.specs.Scenes.{Scene, Deed, deed_of}
use Rattle.sb_crew.specs.Bases.{Base, base_of}
use Rattle.sb_crew.specs.Names.{Naming, name_of}
use Rattle.sb_crew.specs.Answers.{shown_for, as_call}
use Rattle.sb_crew.specs.declared.calls.CallFault.{CallFault}
use Rattle.sb_crew.specs.declared.calls.FlushFault.{FlushFault}
use Rattle.sb_crew.specs.declared.calls.FlushFault.TheVariants.{ClockStalled}
use Rattle.sb_crew.specs.Outcomes.{Outcome, outcomes_of, bytes_read, AsksOnly, HasCause, NoneFail, PausesReach, ReachesBut}
use Rattle.sb_crew.specs.Runs.{any_past, IsPutOf, TurnWhere, DidWhere}

-- what a call did so far, with the next reading taken: these outcomes, no bytes that it wants, and it asked for no
-- other blocks than those of these parts. It led to histories of this kind.
pub record SoFar (Then : List Entry → Type 0) (met : List Outcome) (before after : Scene) (parts : List Part)
    (now : ℕ) : Type 0 where
  pub deed : Deed
  pub done : DidWhere any_past before after deed (Some now)
  pub met_so : outcomes_of deed.entries ≡ met
  pub no_bytes : bytes_read deed.entries ≡ []
  pub reached : PausesReach (tick.Taken now ∷ deed.ticks)
  pub none_fail : NoneFail deed.entries
  pub asks : AsksOnly parts deed.entries
  pub leads : (past : List Entry) → Then (deed.entries ++ past)

-- the next reading, where a call goes on
abbrev pub next_of : Result ℕ CallFault → Option ℕ
next_of (Ok now) = Some now
next_of (Err fault) = None

-- where a call of a disk with this base goes on no request has failed, and else what it did is the cause
abbrev pub RequestEnds : Base → Deed → Result ℕ CallFault → Type 0
RequestEnds base deed (Ok now) = NoneFail deed.entries
RequestEnds base deed (Err fault) = HasCause base fault deed

-- the pauses of a call that goes on reach to its next reading, and those of one that failed but for the last one, where
-- its clock stands still
abbrev pub ReachesOn : Result ℕ CallFault → List Tick → Type 0
ReachesOn (Ok now) ticks = PausesReach (tick.Taken now ∷ ticks)
ReachesOn (Err fault) ticks = ReachesBut fault ticks

-- what comes behind the readings and pauses before it reaches on as they do
abbrev pub KeepsReaching : ℕ → List Tick → Result ℕ CallFault → Type 0
KeepsReaching now after result = (earlier : List Tick) → PausesReach (tick.Taken now ∷ earlier)
    → ReachesOn result (after ++ tick.Taken now ∷ earlier)

-- a reading is the clock's last one, and within its limit
pub record IsLatest (latest now : ℕ) : Type 0 where
  pub is : latest ≡ now
  pub limit : now ≤ 2 ^ 62

-- a pause, and the reading taken behind it: the next one where the pause has reached it, and else the clock stands
-- still
abbrev pub PauseEnds : ℕ → ℕ → List Tick → Result ℕ FlushFault → Type 0
PauseEnds now millis ticks (Ok next) = (ticks ≡ tick.Taken next ∷ tick.Paused millis ∷ []) × (now + millis ≤ next)
PauseEnds now millis ticks (Err fault) =
    (short : ℕ) × (fault ≡ ClockStalled now millis short) × (short < now + millis)
    × (ticks ≡ tick.Taken short ∷ tick.Paused millis ∷ [])

-- what a pause did to the clock
pub record Pauses (clock clock' : Option (List Tick)) (latest latest' now millis : ℕ)
    (result : Result ℕ FlushFault) : Type 0 where
  pub ticks : List Tick
  pub gained : Gains clock clock' ticks
  pub ends : PauseEnds now millis ticks result
  pub next : IfOk result (IsLatest latest')
  pub later : IfOk result (λ next. latest ≤ next)

-- a wait paused up to the reading that it waits for
pub record Waits (clock clock' : Option (List Tick)) (latest latest' now : ℕ) (why : Why)
    (result : Result ℕ FlushFault) : Type 0 where
  pub millis : ℕ
  pub some : 0 < millis
  pub pause_is : wait_pause why now ≡ Some millis
  pub paused : Pauses clock clock' latest latest' now millis result

-- a block is closer, or its GET was given up, and time went on
abbrev pub GoesOn : Core → Core → ℕ → ℕ → ℕ → Type 0
GoesOn old new block before next =
    (steps_left new block < steps_left old block) ⊎ (LeavesMissing old new block × (before < next))

-- the entries of a GET
abbrev pub get_begun : GetJob → Entry
get_begun job =
    record { pass = 1; reading = job.begun; kind = kind.GetBegin job.block job.expect job.verify }

abbrev pub get_ended : GetJob → ℕ → Result Got LinkFault → List ℕ → Bool → Entry
get_ended job reading got bytes taken =
    record { pass = 1; reading = reading; kind = kind.GetEnd job.block (shown_for got bytes) job.verify taken }

-- what a GET did: one call of the link, and its end at a reading that was taken for it
pub record FetchDoes (old new : Scene) (job : GetJob)
    (result : Result ℕ CallFault) : Type 0 where
  pub got : Result Got LinkFault
  pub bytes : List ℕ
  pub called : Gains old.log new.log (call.Get (name_of old.disk.names job.block) job.verify (get_reply got bytes) ∷ [])
  pub counted : CountsFaults old.faults new.faults (HasFailed got)
  pub later : ℕ
  pub between : Option (List Tick)
  pub took : Gains old.ticks between (tick.Taken later ∷ [])
  pub reading : ℕ
  pub taken : Bool
  pub after : List Tick
  pub turn : TurnWhere any_past old.disk new.disk between new.ticks later
      (get_ended job reading got bytes taken) (next_of result) after
  pub cause : RequestEnds (base_of old.disk.core) (deed_of (get_ended job reading got bytes taken ∷ get_begun job ∷ [])
      (call.Get (name_of old.disk.names job.block) job.verify (get_reply got bytes) ∷ [])
      (after ++ tick.Taken later ∷ [])) result
  pub reaches : KeepsReaching later after result

-- the call of a PUT, and the entry of its end
abbrev pub put_sent : Naming → ℕ → List ℕ → Result Unit LinkFault → Call
put_sent names block content sent =
    put_call (name_of names block) (meta_of (Some names.meta) block) content (fault_of sent)

abbrev pub put_ended : ℕ → ℕ → Result Unit LinkFault → Entry
put_ended block reading sent = record { pass = 1; reading = reading; kind = kind.PutEnd block (is_ok sent) }

-- what a PUT of a content did: one call of the link, and its end at a reading that was taken for it
pub record StoreDoes (old new : Scene) (block : ℕ) (content : List ℕ)
    (result : Result ℕ FlushFault) : Type 0 where
  pub sent : Result Unit LinkFault
  pub called : Gains old.log new.log (put_sent old.disk.names block content sent ∷ [])
  pub counted : CountsFaults old.faults new.faults (HasFailed sent)
  pub later : ℕ
  pub between : Option (List Tick)
  pub took : Gains old.ticks between (tick.Taken later ∷ [])
  pub reading : ℕ
  pub after : List Tick
  pub turn : TurnWhere (IsPutOf block content) old.disk new.disk between new.ticks later
      (put_ended block reading sent) (next_of (as_call result)) after
  pub cause : RequestEnds (base_of old.disk.core) (deed_of (put_ended block reading sent ∷ [])
      (put_sent old.disk.names block content sent ∷ []) (after ++ tick.Taken later ∷ [])) (as_call result)
  pub reaches : KeepsReaching later after (as_call result)
