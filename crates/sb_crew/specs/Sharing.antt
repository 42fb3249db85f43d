-- What a caller did with its pass of the lock of a disk that has many. Histories, entries, calls of the link and ticks
-- are newest first.
use Rattle.std.specs.Prelude.{ℕ, ◌≡◌, Bool, false, max, List, [], ◌∷◌, ◌++◌, Option, Some, None, Result, Ok, Err, is_ok}
use Rattle.sb_turn.specs.declared.stands.Stands.{Ghosts}
use Rattle.sb_turn.specs.declared.pass.Pass.{Pass}
use Rattle.sb_turn.specs.declared.turn.Turn.{Turn}
use Rattle.sb_turn.specs.Histories.{entries_of_pass}
use Rattle.sb_turn.specs.Passes.{seen, mine, number, base_of, IsPassOf, IsFree, IsSamePass}
use Rattle.sb_base.specs.declared.entry.Entry.{Entry}
use Rattle.sb_base.specs.declared.entry.EntryKind.TheVariants as kind
use Rattle.sb_base.specs.declared.part.Part.{Part}
use Rattle.sb_world.specs.Told.{Gains, CountsFaults}
use Rattle.sb_world.specs.Calls.{get_reply, HasFailed}
use Rattle.sb_world.specs.declared.clock.Clock as clock
use Rattle.sb_world.specs.declared.clock.Tick.{Tick}
use Rattle.sb_world.specs.declared.clock.Tick.TheVariants as tick
use Rattle.sb_world.specs.declared.link.Link as link
use Rattle.sb_world.specs.declared.link.Call.{Call}
use Rattle.sb_world.specs.declared.link.Call.TheVariants as call
use Rattle.sb_world.specs.declared.link.Got.{Got}
use Rattle.sb_world.specs.declared.link.LinkFault.{LinkFault}
use Rattle.sb_history.specs.Contents.{is_zeros}
use Rattle.sb_history.specs.Gets.{fetch_of}
use Rattle.sb_history.specs.Puts.{puts_of}
use Rattle.sb_history.specs.Requests.{RequestLog}
use Rattle.sb_history.specs.ClockTrace.{Caller, ClockTrace, PausesAfter, PauseTicks}
use Rattle.sb_history.specs.AccessRules.{last_reading, FollowsAccessRules}
use Rattle.sb_history.specs.CachePolicy.{FollowsCachePolicy}
use Rattle.sb_core.specs.declared.machine.Core.{Core}
use Rattle.sb_core.specs.declared.standing.Timed.{Timed}
use Rattle.sb_core.specs.declared.standing.Fixed.{Fixed}
use Rattle.sb_core.specs.declared.job.GetJob.{GetJob}
use Rattle.sb_core.specs.declared.job.PutJob.{PutJob}
use Rattle.sb_core.specs.declared.step.ReadStep.{ReadStep}
use Rattle.sb_core.specs.declared.step.ReadStep.TheVariants as read
use Rattle.sb_core.specs.declared.step.WriteStep.{WriteStep}
use Rattle.sb_core.specs.declared.step.WriteStep.TheVariants as write
use Rattle.sb_core.specs.declared.step.FlushStep.{FlushStep}
use Rattle.sb_core.specs.declared.step.FlushStep.TheVariants as flush
use Rattle.sb_core.specs.Represents.{nothing_found, open_get, open_put}
use Rattle.sb_core.specs.Standing.{entry_at, entries_in}
use Rattle.sb_crew.specs.declared.desk.Desk.{Desk}
use Rattle.sb_crew.specs.declared.calls.CallFault.{CallFault}
use Rattle.sb_crew.specs.declared.calls.FlushFault.{FlushFault}
use Rattle.sb_crew.specs.Bases.{Base, shared_base}
use Rattle.sb_crew.specs.Names.{Naming, name_of}
use Rattle.sb_crew.specs.Scenes.{Deed, deed_of}
use Rattle.sb_crew.specs.Runs.{IsPutOf}
use Rattle.sb_crew.specs.Answers.{shown_for, as_call}
use Rattle.sb_crew.specs.Counts.{Asked}
use Rattle.sb_crew.specs.Turns.{put_sent}
use Rattle.sb_crew.specs.Outcomes.{Outcome, outcomes_of, bytes_read, AsksOnly, HasCause, NoneFail}

-- one of many callers of a disk, by the number of its pass
abbrev pub caller : ℕ → Caller
caller number = record { pass = number; alone = false }

-- the GET of a job is open in a history, and was begun by this pass
abbrev pub IsOpenGet : List Entry → ℕ → GetJob → Type 0
IsOpenGet past pass job =
    open_get (fetch_of past job.block)
    ≡ Some (record { pass = pass; begun = job.begun; expect = job.expect; verify = job.verify })

-- the PUT of a job is open in a history, and was begun by this pass
abbrev pub IsOpenPut : List Entry → ℕ → PutJob → Type 0
IsOpenPut past pass job = open_put (puts_of past job.block) ≡ Some (record { pass = pass; zeros = job.zeros })

-- a GET of the block has begun at the newest reading, which asks for no digest
pub record BeginsGet (past : List Entry) (pass block : ℕ) (job : GetJob) : Type 0 where
  pub open_is : IsOpenGet past pass job
  pub same_block : job.block ≡ block
  pub begun : job.begun ≡ last_reading past
  pub verify : job.verify ≡ None

-- a PUT has begun of the content in a buffer
abbrev pub BeginsPut : List Entry → ℕ → List ℕ → PutJob → Type 0
BeginsPut past pass room job =
    IsOpenPut past pass job × (job.zeros ≡ is_zeros room) × IsPutOf job.block room past

-- what has begun with an answer to a read, to a write, and to a step of a flush
abbrev pub ReadBegins : List Entry → ℕ → ℕ → List ℕ → ReadStep → Type 0
ReadBegins past pass block room read.Done = Unit {0}
ReadBegins past pass block room (read.Wait why) = Unit {0}
ReadBegins past pass block room (read.Get job) = BeginsGet past pass block job
ReadBegins past pass block room (read.Dropped dropped) = Unit {0}
ReadBegins past pass block room (read.Put job) = BeginsPut past pass room job

abbrev pub WriteBegins : List Entry → ℕ → ℕ → List ℕ → WriteStep → Type 0
WriteBegins past pass block room (write.Done dirtied) = Unit {0}
WriteBegins past pass block room (write.Wait why) = Unit {0}
WriteBegins past pass block room (write.Get job) = BeginsGet past pass block job
WriteBegins past pass block room (write.Dropped dropped) = Unit {0}
WriteBegins past pass block room (write.Put job) = BeginsPut past pass room job

abbrev pub FlushBegins : List Entry → ℕ → List ℕ → FlushStep → Type 0
FlushBegins past pass room flush.Done = Unit {0}
FlushBegins past pass room (flush.Wait why) = Unit {0}
FlushBegins past pass room (flush.Put job) = BeginsPut past pass room job

-- where a call goes on no request has failed, and else what it did is the cause
abbrev pub CauseIf : Base → Deed → Result Unit CallFault → Type 0
CauseIf base deed (Ok done) = NoneFail deed.entries
CauseIf base deed (Err fault) = HasCause base fault deed

-- the entries of a GET and of a PUT by a pass
abbrev pub began_get : ℕ → GetJob → Entry
began_get pass job =
    record { pass = pass; reading = job.begun; kind = kind.GetBegin job.block job.expect job.verify }

abbrev pub ended_get : ℕ → GetJob → ℕ → Result Got LinkFault → List ℕ → Bool → Entry
ended_get pass job reading got bytes taken =
    record { pass = pass; reading = reading; kind = kind.GetEnd job.block (shown_for got bytes) job.verify taken }

abbrev pub began_put : ℕ → ℕ → ℕ → List ℕ → Entry
began_put pass reading block content = record { pass = pass; reading = reading; kind = kind.PutBegin block content }

abbrev pub ended_put : ℕ → ℕ → ℕ → Result Unit LinkFault → Entry
ended_put pass block reading sent = record { pass = pass; reading = reading; kind = kind.PutEnd block (is_ok sent) }

-- the call of a GET
abbrev pub get_sent : Naming → GetJob → Result Got LinkFault → List ℕ → Call
get_sent names job got bytes = call.Get (name_of names job.block) job.verify (get_reply got bytes)

-- the ticks of a pause, if there is one
abbrev pub pause_ticks : Option ℕ → List Tick
pause_ticks None = []
pause_ticks (Some millis) = tick.Paused millis ∷ []

-- what a contract sees of a caller: its pass, and what its link and its clock tell
pub record CallerScene (g : Ghosts Core Timed Fixed) : Type 0 where
  pub pass : Pass Core Timed Fixed g
  pub log : Option (List Call)
  pub faults : ℕ
  pub ticks : Option (List Tick)

module _ {g : Ghosts Core Timed Fixed} where
  -- the history as far as a pass has seen it
  abbrev pub seen_by : Pass Core Timed Fixed g → List Entry
  seen_by p = entries_in (seen p)

  -- a call may be made with a pass: it is one of this lock, outside a turn, of a disk with this size and these settings,
  -- and what it has seen follows the access rules and the cache policy
  pub record MayCall (turn : Turn Core Timed Fixed) (fixed : Fixed) (p : Pass Core Timed Fixed g) : Type 0 where
    pub of_lock : IsPassOf turn p
    pub free : IsFree p
    pub base : base_of p ≡ Some fixed
    pub rules : FollowsAccessRules fixed.geometry fixed.settings nothing_found (seen_by p)
    pub policy : FollowsCachePolicy fixed.geometry fixed.settings nothing_found (seen_by p)

  -- one turn of a pass, in which it made an entry for which this reading was taken, behind what others had done
  pub record PassTurn (p q : Pass Core Timed Fixed g) (now : ℕ) (entry : Entry) : Type 0 where
    pub same : IsSamePass p q
    pub others : List (ℕ × Timed)
    pub of_others : entries_of_pass (number p) others ≡ []
    pub event : Timed
    pub entry_is : entry ≡ entry_at (number p, event)
    pub seen_is : seen q ≡ (number p, event) ∷ (others ++ seen p)
    pub mine_is : mine q ≡ (number p, event) ∷ mine p
    pub reading : entry.reading ≡ max now (last_reading (entries_in (others ++ seen p)))

  abbrev pub caller_at : Pass Core Timed Fixed g → Option (List Call) → ℕ → Option (List Tick) → CallerScene g
  caller_at pass log faults ticks = record { pass = pass; log = log; faults = faults; ticks = ticks }

  abbrev pub caller_of : {L C : Type 0} → link.Ghosts L → clock.Ghosts C → Pass Core Timed Fixed g → Desk L C → CallerScene g
  caller_of links clocks pass desk = record {
    pass = pass;
    log = links.log desk.link;
    faults = links.faults desk.link;
    ticks = clocks.ticks desk.clock;
  }

  -- what a pass did between two states: it made these entries, for which its clock gave these ticks
  pub record PassRuns (fixed : Fixed) (p q : Pass Core Timed Fixed g) (clock clock' : Option (List Tick))
      (entries : List Entry) (ticks : List Tick) : Type 0 where
    pub same : IsSamePass p q
    pub made : List (ℕ × Timed)
    pub entries_are : entries ≡ entries_in made
    pub mine_is : mine q ≡ made ++ mine p
    pub later : List (ℕ × Timed)
    pub seen_is : seen q ≡ later ++ seen p
    pub readings : Gains clock clock' ticks
    pub trace :
        ClockTrace fixed.geometry fixed.settings (caller (number p)) (seen_by p) (entries_in later) None ticks

  -- the same, and the link's log gained just the calls that these entries stand for, under the disk's names
  pub record PassDid (names : Naming) (fixed : Fixed) (a b : CallerScene g) (deed : Deed) : Type 0 where
    pub runs : PassRuns fixed a.pass b.pass a.ticks b.ticks deed.entries deed.ticks
    pub asked : Asked a.log b.log a.faults b.faults deed.calls
    pub requests : RequestLog (name_of names) (Some names.meta) deed.entries deed.calls

  -- what a GET of a pass did: one call of the link, its end at a reading that was taken for it, and perhaps a pause
  pub record PassFetch (names : Naming) (fixed : Fixed) (a b : CallerScene g) (job : GetJob)
      (result : Result Unit CallFault) : Type 0 where
    pub got : Result Got LinkFault
    pub bytes : List ℕ
    pub called : Gains a.log b.log (get_sent names job got bytes ∷ [])
    pub counted : CountsFaults a.faults b.faults (HasFailed got)
    pub later : ℕ
    pub reading : ℕ
    pub taken : Bool
    pub turn : PassTurn a.pass b.pass later (ended_get (number a.pass) job reading got bytes taken)
    pub pause : Option ℕ
    pub after : List Tick
    pub pauses : PausesAfter fixed.geometry fixed.settings (entries_in (turn.others ++ seen a.pass)) later
        (kind.GetEnd job.block (shown_for got bytes) job.verify taken) pause
    pub paused : PauseTicks false later None pause after
    pub readings : Gains a.ticks b.ticks (after ++ tick.Taken later ∷ [])
    pub cause : CauseIf (shared_base fixed) (deed_of
        (ended_get (number a.pass) job reading got bytes taken ∷ began_get (number a.pass) job ∷ [])
        (get_sent names job got bytes ∷ []) (after ++ tick.Taken later ∷ [])) result

  -- what a PUT of a pass did: one call of the link, and its end at a reading that was taken for it
  pub record PassStore (names : Naming) (fixed : Fixed) (a b : CallerScene g) (block : ℕ) (content : List ℕ)
      (result : Result Unit FlushFault) : Type 0 where
    pub sent : Result Unit LinkFault
    pub called : Gains a.log b.log (put_sent names block content sent ∷ [])
    pub counted : CountsFaults a.faults b.faults (HasFailed sent)
    pub later : ℕ
    pub reading : ℕ
    pub turn : PassTurn a.pass b.pass later (ended_put (number a.pass) block reading sent)
    pub readings : Gains a.ticks b.ticks (tick.Taken later ∷ [])
    pub cause : CauseIf (shared_base fixed) (deed_of (ended_put (number a.pass) block reading sent ∷ [])
        (put_sent names block content sent ∷ []) (tick.Taken later ∷ [])) (as_call result)

  -- what a call did so far: these outcomes, no bytes that it wants, no request that failed, and it asked for no other
  -- blocks than those of these parts
  pub record SharedSoFar (met : List Outcome) (names : Naming) (fixed : Fixed) (a b : CallerScene g)
      (parts : List Part) : Type 0 where
    pub deed : Deed
    pub done : PassDid names fixed a b deed
    pub met_so : outcomes_of deed.entries ≡ met
    pub no_bytes : bytes_read deed.entries ≡ []
    pub none_fail : NoneFail deed.entries
    pub asks : AsksOnly parts deed.entries
