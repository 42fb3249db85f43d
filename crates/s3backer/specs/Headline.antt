-- What a run of the program promises, of one list of entries and one list of calls. Lists are newest first.
use Rattle.std.specs.Prelude.{ℕ, ◌≡◌, ◌≢◌, ◌≤◌, ◌+◌, ◌⊎◌, Bool, true, false, List, [], ◌∷◌, ◌++◌, Option, Some, None, IfSome, Result, Ok, Err}
use Rattle.std.specs.Prelude.{codes, decimal}
use Rattle.std.specs.List.{AllByRecursion}
use Rattle.std.proofs.Common.{inl, inr}
use Rattle.sb_base.specs.declared.geometry.Geometry.{Geometry}
use Rattle.sb_base.specs.declared.entry.Entry.{Entry}
use Rattle.sb_world.specs.Told.{Gains, Rose}
use Rattle.sb_world.specs.Streams.{Holds, IsAtEnd}
use Rattle.sb_world.specs.Benches.{BenchParts, with_links, shut_bench}
use Rattle.sb_world.specs.Worlds.{WorldView}
use Rattle.sb_world.specs.declared.clock.Tick.{Tick}
use Rattle.sb_world.specs.declared.clock.Tick.TheVariants as tick
use Rattle.sb_world.specs.declared.world.Ask.{Ask}
use Rattle.sb_world.specs.declared.world.Ask.TheVariants as ask
use Rattle.sb_history.specs.Contents.{Start, FillBlocks}
use Rattle.sb_history.specs.Values.{IsLegal}
use Rattle.sb_history.specs.Visibility.{Delays, IsStaleWithin}
use Rattle.sb_history.specs.Durability.{FlushesAreDurable, IsCrashDurable}
use Rattle.sb_history.specs.Window.{CoversDelays}
use Rattle.sb_history.specs.Soundness.{IsCollisionFree}
use Rattle.sb_history.specs.Passes.{IsOfPass}
use Rattle.sb_history.specs.Requests.{RequestLog}
use Rattle.sb_history.specs.ClockTrace.{ClockTrace}
use Rattle.sb_history.specs.AccessRules.{FollowsAccessRules}
use Rattle.sb_history.specs.CachePolicy.{FollowsCachePolicy}
use Rattle.sb_core.specs.Represents.{nothing_found}
use Rattle.sb_nbd.specs.Numbers.{eio, enomem}
use Rattle.sb_crew.specs.Bases.{Base}
use Rattle.sb_crew.specs.Names.{name_of}
use Rattle.sb_crew.specs.declared.calls.CallFault.{CallFault}
use Rattle.sb_crew.specs.declared.calls.CallFault.TheVariants.{StoreFault, Memory, StaleRead, ClockStalled}
use Rattle.sb_crew.specs.declared.calls.FlushFault.{FlushFault}
use Rattle.sb_crew.specs.declared.calls.FlushFault.TheVariants as flush
use Rattle.sb_crew.specs.Outcomes.{Outcome, outcomes_of, flush_of, Does, FlushEnds, AsksOnly, HasCause}
use Rattle.sb_crew.specs.Counts.{Counts}
use Rattle.sb_crew.specs.Runs.{only_caller, sizes_of}
use Rattle.sb_crew.specs.Scenes.{Deed, nothing, followed}
use Rattle.sb_nbd.specs.declared.end.NbdEnd.{NbdEnd}
use Rattle.sb_nbd.specs.declared.end.NbdEnd.TheVariants as nbd
use Rattle.sb_session.specs.declared.end.SessionEnd.{SessionEnd}
use Rattle.sb_session.specs.declared.end.SessionEnd.TheVariants as end
use Rattle.sb_session.specs.Streams.{Streams}
use Rattle.sb_session.specs.Goals.{verdict}
use Rattle.sb_session.specs.Transcripts.{Exchange}
use Rattle.sb_session.specs.Sessions.{Course}
use Rattle.s3backer.specs.Plans.{PlanParts, naming_of, plan_base, default_settings}
use Rattle.s3backer.specs.Views.{Telling, Gear, gear_in, View, view_of}
use Rattle.s3backer.specs.Words.{IsRefused}
use Rattle.s3backer.specs.Wordings.{SaysUsage}
use Rattle.s3backer.specs.declared.words.Usage.{Usage}

-- the line that tells a fault of the store
abbrev pub store_fault_line : ℕ → List ℕ
store_fault_line status = codes "s3backer: store fault " ++ decimal status ++ 10 ∷ []

-- the status of the flush after a session
abbrev pub flush_status : Result Unit FlushFault → ℕ
flush_status (Ok done) = 0
flush_status (Err (flush.StoreFault status)) = 3
flush_status (Err flush.Memory) = 12
flush_status (Err (flush.ClockStalled before asked after)) = 11

-- the line that tells its fault
abbrev pub flush_line : Result Unit FlushFault → Option (List ℕ)
flush_line (Ok done) = None
flush_line (Err (flush.StoreFault status)) = Some (store_fault_line status)
flush_line (Err flush.Memory) = Some (codes "s3backer: out of memory\n")
flush_line (Err (flush.ClockStalled before asked after)) = Some (codes "s3backer: clock stands still\n")

-- the status of a session's end and the flush after it: that of the first fault
abbrev pub run_status : SessionEnd → Result Unit FlushFault → ℕ
run_status end.Disconnected flushed = flush_status flushed
run_status end.Aborted flushed = flush_status flushed
run_status end.Ended flushed = flush_status flushed
run_status other flushed = 7

-- the line that tells a fault of a session. None ends as a fault where its input has ended between messages.
abbrev pub fault_line : NbdEnd → List ℕ
fault_line nbd.Ended = codes "s3backer: session: cut\n"
fault_line (nbd.Cut got) = codes "s3backer: session: cut\n"
fault_line (nbd.BadMagic magic) = codes "s3backer: session: magic\n"
fault_line (nbd.BadFlags flags) = codes "s3backer: session: flags\n"
fault_line (nbd.TooBig size) = codes "s3backer: session: too big\n"
fault_line nbd.ReadFault = codes "s3backer: session: read fault\n"
fault_line nbd.WriteFault = codes "s3backer: session: write fault\n"

-- the line that tells the first fault
abbrev pub run_line : SessionEnd → Result Unit FlushFault → Option (List ℕ)
run_line end.Disconnected flushed = flush_line flushed
run_line end.Aborted flushed = flush_line flushed
run_line end.Ended flushed = flush_line flushed
run_line (end.NoSuchExport size) flushed = Some (codes "s3backer: session: no such export\n")
run_line (end.Fault fault) flushed = Some (fault_line fault)
run_line end.Spent flushed = Some (codes "s3backer: session: spent\n")

-- the flush after a session, and how it ended. A read-only disk isn't flushed.
abbrev pub LastFlushEnds : Bool → Base → Result Unit FlushFault → Deed → Type 0
LastFlushEnds true base flushed deed = (flushed ≡ Ok tt) × (deed ≡ nothing)
LastFlushEnds false base flushed deed = FlushEnds base flushed deed

-- what the flush after a session did
abbrev pub LastFlushDoes : Bool → Base → (Deed → Type 0) → Result Unit FlushFault → Type 0
LastFlushDoes read_only base did flushed = Does did [] (LastFlushEnds read_only base flushed)

-- the client's bytes ended the session so: they are no message, name another export, or are too many messages
abbrev pub IsClientFault : SessionEnd → Type 0
IsClientFault end.Disconnected = ⊥
IsClientFault end.Aborted = ⊥
IsClientFault end.Ended = ⊥
IsClientFault (end.Fault nbd.ReadFault) = ⊥
IsClientFault (end.Fault nbd.WriteFault) = ⊥
IsClientFault other = Unit {0}

-- the input was read to its end between two messages, where nothing is left, or to DISC or ABORT
abbrev pub IsWhole : SessionEnd → Option (List ℕ) → Type 0
IsWhole end.Disconnected left = Unit {0}
IsWhole end.Aborted left = Unit {0}
IsWhole end.Ended left = IsAtEnd left
IsWhole other left = ⊥

-- the last flush began after every write, and is done
abbrev pub IsSaved : List Entry → Type 0
IsSaved entries = (mark : ℕ) × (earlier : List Outcome) × (outcomes_of entries ≡ flush_of mark ++ earlier)

-- the error sink gained a line, or a front of it where its count rose
pub record Complains (held held' : Option (List ℕ)) (faults faults' : ℕ) (line : List ℕ) : Type 0 where
  pub front : List ℕ
  pub after : List ℕ
  pub whole : line ≡ front ++ after
  pub told : Holds held held' front
  pub all : (after ≡ []) ⊎ Rose faults faults'

-- the line of an end, if it has one
abbrev pub ComplainsOf : Option (List ℕ) → Option (List ℕ) → Option (List ℕ) → ℕ → ℕ → Type 0
ComplainsOf None held held' faults faults' = held' ≡ held
ComplainsOf (Some line) held held' faults faults' = Complains held held' faults faults' line

-- the store shows old versions and keeps puts apart only within delays that the settings cover, and no MD5s collide
pub record IsWithin (geometry : Geometry) (start : Start) (delays : Delays) (entries : List Entry) : Type 0 where
  pub sized : FillBlocks geometry.block_size start
  pub covers : CoversDelays default_settings delays
  pub stale_within : IsStaleWithin geometry.block_size start delays entries
  pub collision_free : IsCollisionFree geometry.block_size start nothing_found entries

-- a disk's history: what its tape, the link's log and the clock gained, the rules that it follows, and, from every
-- start and over every store that is within delays, that each read is that of a register, that each flush that is done
-- has saved what was written before it, and what a crash leaves at any moment
pub record IsHistory (plan : PlanParts) (before after : View) (deed : Deed) : Type 0 where
  pub of_pass : IsOfPass 1 deed.entries
  pub tape : Gains before.tape after.tape deed.entries
  pub asked : Gains before.log after.log deed.calls
  pub requests : RequestLog (name_of (naming_of plan)) (Some (sizes_of plan.geometry)) deed.entries deed.calls
  pub clock : Gains before.ticks after.ticks deed.ticks
  pub trace : ClockTrace plan.geometry default_settings only_caller [] deed.entries None deed.ticks
  pub rules : FollowsAccessRules plan.geometry default_settings nothing_found deed.entries
  pub policy : FollowsCachePolicy plan.geometry default_settings nothing_found deed.entries
  pub legal : (start : Start) (delays : Delays) → IsWithin plan.geometry start delays deed.entries
      → IsLegal start deed.entries
  pub durable : (start : Start) (delays : Delays) → IsWithin plan.geometry start delays deed.entries
      → FlushesAreDurable start deed.entries
  pub survives : (start : Start) (delays : Delays) → IsWithin plan.geometry start delays deed.entries
      → IsCrashDurable start deed.entries

-- a call fails so for what the clock gave, or for a version that a store showed, and not for a fault of the store
abbrev pub IsOfTime : CallFault → Type 0
IsOfTime (StoreFault status) = ⊥
IsOfTime Memory = ⊥
IsOfTime (StaleRead block expected shown begun) = Unit {0}
IsOfTime (ClockStalled before asked after) = Unit {0}

-- a request to a disk with this base did this and failed so
pub record FailsByTime (base : Base) (deed : Deed) : Type 0 where
  pub fault : CallFault
  pub of_time : IsOfTime fault
  pub cause : HasCause base fault deed

-- no reply of a session has the error of a store that failed, but for a stale read or a clock that stands still
abbrev pub NoneFailed : {read_only : Bool} {base : Base} {before after : Streams} {ended : SessionEnd} {deed : Deed}
    → Course read_only base before after ended deed → Type 0
NoneFailed (inl unserved) = Unit {0}
NoneFailed {base} (inr served) = AllByRecursion (λ x. (x.error ≢ eio) ⊎ FailsByTime base x.deed) served.transcript

-- each reading that was taken behind a pause is that of the pause's end or above it
abbrev pub ClockMoves : List Tick → Type 0
ClockMoves [] = Unit {0}
ClockMoves (tick.Taken after ∷ tick.Paused millis ∷ tick.Taken before ∷ ticks) =
    (before + millis ≤ after) × ClockMoves (tick.Taken before ∷ ticks)
ClockMoves (newest ∷ ticks) = ClockMoves ticks

-- what a run needs of the outside, beside streams and a store that don't fail, to serve all that isn't refused: a store
-- within delays, of which no version is older than the stale limit, and a clock that moves by its pauses
pub record IsKind (plan : PlanParts) (start : Start) (delays : Delays) (deed : Deed) : Type 0 where
  pub within : IsWithin plan.geometry start delays deed.entries
  pub young : delays.show ≤ default_settings.stale_limit
  pub moves : ClockMoves deed.ticks

-- a reply has no error, that of a refusal by the table, or that of want of memory
abbrev pub IsServed : Bool → Base → Exchange → Type 0
IsServed read_only base x =
    (x.error ≡ 0) ⊎ ((x.error ≡ enomem) ⊎ (verdict read_only base.geometry x.request.wanted ≡ Err x.error))

-- so each reply of a session
abbrev pub AllServed : {read_only : Bool} {base : Base} {before after : Streams} {ended : SessionEnd} {deed : Deed}
    → Course read_only base before after ended deed → Type 0
AllServed (inl unserved) = Unit {0}
AllServed {read_only} {base} (inr served) = AllByRecursion (IsServed read_only base) served.transcript

-- a session was served and the disk flushed then: the history of both, the session's course over the bytes, how it
-- and the flush ended, and what was told of that
pub record ServesSession (plan : PlanParts) (before after : View) (status : ℕ) : Type 0 where
  pub session : Deed
  pub flush : Deed
  pub history : IsHistory plan before after (followed session flush)
  pub ended : SessionEnd
  pub course : Course plan.read_only (plan_base plan) before.streams after.streams ended session
  pub read_cause : ended ≡ end.Fault nbd.ReadFault → Rose before.read_faults after.read_faults
  pub write_cause : ended ≡ end.Fault nbd.WriteFault → Rose before.write_faults after.write_faults
  pub link_counts : Counts before.link_faults after.link_faults (flush.calls ++ session.calls)
  pub flushed : Result Unit FlushFault
  pub flushes : LastFlushEnds plan.read_only (plan_base plan) flushed flush
  pub flush_asks : AsksOnly [] flush.entries
  pub status_is : status ≡ run_status ended flushed
  pub complains : ComplainsOf (run_line ended flushed) before.errors after.errors before.error_faults
      after.error_faults
  -- status 0 says that the input was read whole, and that all that was written is kept
  pub read_whole : status ≡ 0 → IsWhole ended after.streams.left
  pub saved : status ≡ 0 → plan.read_only ≡ false → IsSaved (flush.entries ++ session.entries)
  -- without a fault of the store no reply tells one
  pub no_failed_reply : (Rose before.link_faults after.link_faults → ⊥) → NoneFailed course
  -- without any fault, and of an input of messages that isn't too long, the run ends well or lacks memory, or
  -- its clock stands still
  pub ends_well : (Rose before.link_faults after.link_faults → ⊥) → (Rose before.read_faults after.read_faults → ⊥)
      → (Rose before.write_faults after.write_faults → ⊥) → (IsClientFault ended → ⊥)
      → (status ≡ 0) ⊎ ((status ≡ 12) ⊎ (status ≡ 11))
  -- and where store and clock are kind each reply is one without error, a refusal or want of memory, and so is the end
  pub all_served : (start : Start) (delays : Delays) → IsKind plan start delays (followed session flush)
      → (Rose before.link_faults after.link_faults → ⊥) → AllServed course
  pub ends_served : (start : Start) (delays : Delays) → IsKind plan start delays (followed session flush)
      → (Rose before.link_faults after.link_faults → ⊥) → (Rose before.read_faults after.read_faults → ⊥)
      → (Rose before.write_faults after.write_faults → ⊥) → (IsClientFault ended → ⊥)
      → (status ≡ 0) ⊎ (status ≡ 12)

-- the same gear, but for its error sink
abbrev pub with_errors : {L C R S : Type 0} → Gear L C R S → S → Gear L C R S
with_errors gear errors = record {
  link = gear.link;
  clock = gear.clock;
  input = gear.input;
  output = gear.output;
  errors = errors;
}

-- want of memory came before the session: nothing was asked, read or written but the line that tells it
pub record LacksMemory {L C R S : Type 0} (tells : Telling L C R S) (before after : Gear L C R S)
    (told told' : Option (List Entry)) (status : ℕ) : Type 0 where
  pub status_is : status ≡ 12
  pub stays : after ≡ with_errors before after.errors
  pub tape_stays : told' ≡ told
  pub complains : Complains (tells.held before.errors) (tells.held after.errors) (tells.write_faults before.errors)
      (tells.write_faults after.errors) (codes "s3backer: out of memory\n")

-- what a run did with its gear
abbrev pub Serves : {L C R S : Type 0} → Telling L C R S → PlanParts → Gear L C R S → Gear L C R S
    → Option (List Entry) → Option (List Entry) → ℕ → Type 0
Serves tells plan before after told told' status =
    ServesSession plan (view_of tells before told) (view_of tells after told') status
    ⊎ LacksMemory tells before after told told' status

-- a run on a bench: its last link was worked with, and the others stay
pub record ServesBench {L C R S : Type 0} (tells : Telling L C R S) (plan : PlanParts)
    (before after : BenchParts L C R S) (told told' : Option (List Entry)) (status : ℕ) : Type 0 where
  pub others : List L
  pub link : L
  pub link' : L
  pub links : before.links ≡ others ++ link ∷ []
  pub links' : after.links ≡ others ++ link' ∷ []
  pub serves : Serves tells plan (gear_in link before) (gear_in link' after) told told' status

-- the world was asked for a bench over the plan's store, with one link
abbrev pub AsksBench : PlanParts → Option (List Ask) → Option (List Ask) → Type 0
AsksBench plan asks asks' = Gains asks asks' (ask.Bench (Some plan.store) 1 ∷ [])

-- no bench was handed out, none was shut and nothing was handed over, and the tape is as it was: the run ends with this
-- status
pub record EndsUnserved {N L C R S : Type 0} (before after : WorldView N L C R S) (told told' : Option (List Entry))
    (status wanted : ℕ) : Type 0 where
  pub status_is : status ≡ wanted
  pub tape_stays : told' ≡ told
  pub last_stays : after.last ≡ before.last
  pub heard_stays : after.heard ≡ before.heard

-- the words were refused: nothing but a line about them
pub record RefusesWords {N L C R S : Type 0} (words : List (List ℕ)) (before after : WorldView N L C R S)
    (told told' : Option (List Entry)) (status : ℕ) : Type 0 where
  pub usage : Usage
  pub refused : IsRefused words usage
  pub unserved : EndsUnserved before after told told' status 2
  pub asks_stay : after.asks ≡ before.asks
  pub faults_stay : after.faults ≡ before.faults
  pub says : SaysUsage usage before.said after.said

-- the world had no bench, for another cause than memory: its count of faults rose
pub record HasNoBench {N L C R S : Type 0} (plan : PlanParts) (before after : WorldView N L C R S)
    (told told' : Option (List Entry)) (status : ℕ) : Type 0 where
  pub asked : AsksBench plan before.asks after.asks
  pub cause : Rose before.faults after.faults
  pub unserved : EndsUnserved before after told told' status 3
  pub says : Gains before.said after.said (codes "s3backer: cannot reach the store\n" ∷ [])

-- want of memory came before there was a bench, and so. The world's count of faults stays.
pub record LacksMemoryEarly {N L C R S : Type 0} (so : Type 0) (before after : WorldView N L C R S)
    (told told' : Option (List Entry)) (status : ℕ) : Type 0 where
  pub is_so : so
  pub faults_stay : after.faults ≡ before.faults
  pub unserved : EndsUnserved before after told told' status 12
  pub says : Gains before.said after.said (codes "s3backer: out of memory\n" ∷ [])

-- the world's next bench served and was shut then
pub record ServesPlan {N L C R S : Type 0} (tells : Telling L C R S) (plan : PlanParts)
    (before after : WorldView N L C R S) (told told' : Option (List Entry)) (status : ℕ) : Type 0 where
  pub asked : AsksBench plan before.asks after.asks
  pub bench : BenchParts L C R S
  pub bench' : BenchParts L C R S
  pub next_is : IfSome before.next (λ parts. bench ≡ with_links 1 parts)
  pub last_is : after.last ≡ shut_bench before.tells bench'
  pub serves : ServesBench tells plan bench bench' told told' status
  pub faults_stay : after.faults ≡ before.faults
  pub quiet : after.said ≡ before.said
  pub heard_stays : after.heard ≡ before.heard

-- how a run over standard input and output ends: without a bench, or without memory for one, or it served one
abbrev pub SingleEnds : {N L C R S : Type 0} → Telling L C R S → PlanParts → WorldView N L C R S → WorldView N L C R S
    → Option (List Entry) → Option (List Entry) → ℕ → Type 0
SingleEnds tells plan before after told told' status =
    HasNoBench plan before after told told' status
    ⊎ (LacksMemoryEarly (AsksBench plan before.asks after.asks) before after told told' status
    ⊎ ServesPlan tells plan before after told told' status)
