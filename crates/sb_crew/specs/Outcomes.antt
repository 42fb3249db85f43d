-- What the entries of a call of the disk came to. Entries, calls of the link and ticks are newest first.
use Rattle.std.specs.Prelude.{ℕ, ◌≡◌, ◌≢◌, ◌+◌, ◌<◌, ◌≤◌, ◌⊎◌, length, List, [], ◌∷◌, ◌++◌, Option, Some, None}
use Rattle.std.specs.Prelude.{Result, Ok, Err, Bool, true, false}
use Rattle.std.specs.List.{AllByRecursion}
use Rattle.sb_base.specs.declared.part.Part.{Part}
use Rattle.sb_base.specs.declared.entry.Entry.{Entry}
use Rattle.sb_base.specs.declared.entry.EntryKind.{EntryKind}
use Rattle.sb_base.specs.declared.entry.EntryKind.TheVariants as kind
use Rattle.sb_base.specs.declared.entry.Shown.TheVariants as shown
use Rattle.sb_base.specs.declared.line.Expect.{Expect}
use Rattle.sb_world.specs.declared.clock.Tick.{Tick}
use Rattle.sb_world.specs.declared.clock.Tick.TheVariants as tick
use Rattle.sb_world.specs.declared.link.Call.{Call}
use Rattle.sb_world.specs.declared.link.Call.TheVariants as call
use Rattle.sb_world.specs.declared.link.GetReply.TheVariants as get
use Rattle.sb_world.specs.declared.link.LinkFault.{LinkFault}
use Rattle.sb_world.specs.declared.link.LinkFault.TheVariants as link
use Rattle.sb_history.specs.ClockTrace.{wait_pause, stale_pause, is_late}
use Rattle.sb_history.specs.Window.{answer_digest}
use Rattle.sb_crew.specs.Scenes.{Deed}
use Rattle.sb_crew.specs.Bases.{Base}
use Rattle.sb_crew.specs.Answers.{as_call}
use Rattle.sb_crew.specs.declared.calls.FlushFault.{FlushFault}
use Rattle.sb_crew.specs.declared.calls.CallFault.{CallFault}
use Rattle.sb_crew.specs.declared.calls.CallFault.TheVariants.{StoreFault, Memory, StaleRead, ClockStalled}

-- what a request wants done: a read or a write of a part, the begin of a flush, its end
pub data Outcome : Type 0 where
  ReadDone : (part : Part) → Outcome
  WriteDone : (part : Part) → (bytes : List ℕ) → Outcome
  FlushBegun : (mark : ℕ) → Outcome
  FlushEnded : (mark : ℕ) → Outcome

-- the outcome that an entry is, if any
abbrev pub outcome_of : EntryKind → List Outcome
outcome_of (kind.Read part bytes) = ReadDone part ∷ []
outcome_of (kind.Write part bytes) = WriteDone part bytes ∷ []
outcome_of (kind.FlushBegin mark) = FlushBegun mark ∷ []
outcome_of (kind.FlushDone mark) = FlushEnded mark ∷ []
outcome_of other = []

-- the outcomes among entries
abbrev pub outcomes_of : List Entry → List Outcome
outcomes_of [] = []
outcomes_of (entry ∷ entries) = outcome_of entry.kind ++ outcomes_of entries

-- the bytes that an entry read
abbrev pub bytes_of : EntryKind → List ℕ
bytes_of (kind.Read part bytes) = bytes
bytes_of other = []

-- the bytes that entries read, joined in the order of time
abbrev pub bytes_read : List Entry → List ℕ
bytes_read [] = []
bytes_read (entry ∷ entries) = bytes_read entries ++ bytes_of entry.kind

-- the block that an entry asks the store for
abbrev pub asked_of : EntryKind → List ℕ
asked_of (kind.GetBegin block expect verify) = block ∷ []
asked_of other = []

-- the blocks that entries asked the store for
abbrev pub blocks_asked : List Entry → List ℕ
blocks_asked [] = []
blocks_asked (entry ∷ entries) = asked_of entry.kind ++ blocks_asked entries

-- a block that one of these parts is in
abbrev pub IsBlockOf : List Part → ℕ → Type 0
IsBlockOf [] block = ⊥
IsBlockOf (part ∷ parts) block = (part.block ≡ block) ⊎ IsBlockOf parts block

-- the store was asked for no other blocks than those of these parts
pub record AsksOnly (parts : List Part) (entries : List Entry) : Type 0 where
  pub asked : AllByRecursion (IsBlockOf parts) (blocks_asked entries)

-- an entry by which a request of the link failed
abbrev pub IsFailure : EntryKind → Type 0
IsFailure (kind.GetEnd block shown.Failed verify taken) = Unit {0}
IsFailure (kind.PutEnd block ok) = ok ≡ false
IsFailure other = ⊥

-- the fault that a call of the link answered, if any
abbrev pub fault_of : Call → Option LinkFault
fault_of (call.Get name verify (get.Fault fault)) = Some fault
fault_of (call.Put name body meta fault) = fault
fault_of (call.Delete name fault) = fault
fault_of other = None

-- no request of the link failed
abbrev pub NoneFail : List Entry → Type 0
NoneFail entries = AllByRecursion (λ (entry : Entry). IsFailure entry.kind → ⊥) entries

-- the newest entry is a failure and no other one is, and the newest call of the link answered this fault
abbrev pub FailsBy : LinkFault → List Entry → List Call → Type 0
FailsBy fault (entry ∷ entries) (call ∷ calls) =
    IsFailure entry.kind × (fault_of call ≡ Some fault) × NoneFail entries
FailsBy fault entries calls = ⊥

-- the end of a GET of this block that wasn't taken, whose answer has this digest
abbrev pub IsUntaken : ℕ → ℕ → List ℕ → EntryKind → Type 0
IsUntaken block_size block digest (kind.GetEnd of answer verify taken) =
    (of ≡ block) × (taken ≡ false) × (answer_digest block_size verify answer ≡ Some digest)
IsUntaken block_size block digest other = ⊥

-- a GET that begins at this reading is late, and has to show this digest
abbrev pub IsLongExpected : ℕ → ℕ → List ℕ → Option Expect → Type 0
IsLongExpected limit begun digest None = ⊥
IsLongExpected limit begun digest (Some expect) =
    (expect.digest ≡ digest) × (is_late limit begun (Some expect) ≡ true)

-- the begin of such a GET of this block
abbrev pub AsksLate : ℕ → ℕ → List ℕ → ℕ → EntryKind → Type 0
AsksLate limit block digest begun (kind.GetBegin of expect verify) =
    (of ≡ block) × IsLongExpected limit begun digest expect
AsksLate limit block digest begun other = ⊥

-- the newest entry is the end of a GET of this block that wasn't taken: it began at this reading, the stale limit or
-- more after the put that it had to show ended, whose digest is the first one, and showed the other one
abbrev pub IsStale : Base → ℕ → List ℕ → List ℕ → ℕ → List Entry → Type 0
IsStale base block expected shown begun (ended ∷ began ∷ entries) =
    IsUntaken base.geometry.block_size block shown ended.kind
    × AsksLate base.settings.stale_limit block expected begun began.kind
    × (began.reading ≡ begun) × (shown ≢ expected)
IsStale base block expected shown begun entries = ⊥

-- an entry for which this reading was taken is followed by a pause of so long: it is a wait for a reading, or the end
-- of a GET that wasn't taken
abbrev pub PausesFor : ℕ → ℕ → EntryKind → Type 0
PausesFor taken millis (kind.Waited reason) = wait_pause reason taken ≡ Some millis
PausesFor taken millis (kind.GetEnd block answer verify took) = (took ≡ false) × (millis ≡ stale_pause)
PausesFor taken millis other = ⊥

-- the newest tick is a reading less than so long after the one that was taken before the pause
abbrev pub FallsBehind : ℕ → ℕ → ℕ → List Tick → Type 0
FallsBehind before asked after ticks =
    (earlier : List Tick) × (ticks ≡ tick.Taken after ∷ tick.Paused asked ∷ tick.Taken before ∷ earlier)
    × (after < before + asked)

-- the newest entry is the one that paused, and the reading behind its pause came short
abbrev pub IsStalled : ℕ → ℕ → ℕ → List Entry → List Tick → Type 0
IsStalled before asked after [] ticks = ⊥
IsStalled before asked after (entry ∷ entries) ticks =
    PausesFor before asked entry.kind × FallsBehind before asked after ticks

-- why a call of a disk with this base failed, by what it did: a request of the link failed, and none before it, or a
-- GET was stale, or the clock of a caller that has the disk alone stood still, and no request failed
abbrev pub HasCause : Base → CallFault → Deed → Type 0
HasCause base (StoreFault status) deed = FailsBy (link.Failed status) deed.entries deed.calls
HasCause base Memory deed = FailsBy link.Memory deed.entries deed.calls
HasCause base (StaleRead block expected shown begun) deed =
    IsStale base block expected shown begun deed.entries × NoneFail deed.entries
HasCause base (ClockStalled before asked after) deed =
    IsStalled before asked after deed.entries deed.ticks × NoneFail deed.entries × (base.alone ≡ true)

-- each pause stands between two readings, and the later one is that of the pause's end or above it
abbrev pub PausesReach : List Tick → Type 0
PausesReach [] = Unit {0}
PausesReach (tick.Paused millis ∷ ticks) = ⊥
PausesReach (tick.Taken after ∷ []) = Unit {0}
PausesReach (tick.Taken after ∷ tick.Taken before ∷ ticks) = PausesReach (tick.Taken before ∷ ticks)
PausesReach (tick.Taken after ∷ tick.Paused millis ∷ []) = ⊥
PausesReach (tick.Taken after ∷ tick.Paused millis ∷ tick.Paused other ∷ ticks) = ⊥
PausesReach (tick.Taken after ∷ tick.Paused millis ∷ tick.Taken before ∷ ticks) =
    (before + millis ≤ after) × PausesReach (tick.Taken before ∷ ticks)

-- before the last pause and the reading behind it
abbrev pub ReachesBefore : List Tick → Type 0
ReachesBefore (tick.Taken after ∷ tick.Paused millis ∷ ticks) = PausesReach ticks
ReachesBefore ticks = ⊥

-- no pause of a call that failed so came short, but for the last one, where its clock stands still
abbrev pub ReachesBut : CallFault → List Tick → Type 0
ReachesBut (ClockStalled before asked after) ticks = ReachesBefore ticks
ReachesBut fault ticks = PausesReach ticks

-- the pauses of a caller that has the disk alone reach; one of many callers doesn't look
abbrev pub PausesReachIf : Bool → List Tick → Type 0
PausesReachIf true ticks = PausesReach ticks
PausesReachIf false ticks = Unit {0}

abbrev pub ReachesButIf : Bool → CallFault → List Tick → Type 0
ReachesButIf true fault ticks = ReachesBut fault ticks
ReachesButIf false fault ticks = Unit {0}

-- a goal was met, no pause of a caller that has the disk alone came short, and no request of the link failed
pub record Meets (base : Base) (goal : List Outcome) (deed : Deed) : Type 0 where
  pub met : outcomes_of deed.entries ≡ goal
  pub reached : PausesReachIf base.alone deed.ticks
  pub none_fail : NoneFail deed.entries

-- a proper front of a goal was met, and then a call of the disk failed so
pub record Stops (base : Base) (goal : List Outcome) (deed : Deed) (fault : CallFault) : Type 0 where
  pub missing : List Outcome
  pub some : 0 < length missing
  pub met : missing ++ outcomes_of deed.entries ≡ goal
  pub reached : ReachesButIf base.alone fault deed.ticks
  pub cause : HasCause base fault deed

-- a goal was met, or the fault says why it wasn't
abbrev pub GoalEnds : Base → List Outcome → Result Unit CallFault → Deed → Type 0
GoalEnds base goal (Ok done) deed = Meets base goal deed
GoalEnds base goal (Err fault) deed = Stops base goal deed fault

-- what succeeded read these bytes
abbrev pub GivesBytes : List ℕ → Result Unit CallFault → Deed → Type 0
GivesBytes bytes (Ok done) deed = bytes_read deed.entries ≡ bytes
GivesBytes bytes (Err fault) deed = Unit {0}

-- what was done between two states of a disk and its desk: it ended so, and asked for no other blocks than those of
-- these parts
pub record Does (did : Deed → Type 0) (parts : List Part) (Ends : Deed → Type 0) : Type 0 where
  pub deed : Deed
  pub done : did deed
  pub ends : Ends deed
  pub asks : AsksOnly parts deed.entries

-- what reading a part did, and the bytes that it gave
abbrev pub ReadDoes : Base → (Deed → Type 0) → Part → List ℕ → Result Unit CallFault → Type 0
ReadDoes base did part bytes result =
    Does did (part ∷ [])
    (λ (deed : Deed). GoalEnds base (ReadDone part ∷ []) result deed × GivesBytes bytes result deed)

-- what writing these bytes to a part did
abbrev pub WriteDoes : Base → (Deed → Type 0) → Part → List ℕ → Result Unit CallFault → Type 0
WriteDoes base did part bytes result = Does did (part ∷ []) (GoalEnds base (WriteDone part bytes ∷ []) result)

-- what a flush with this mark wants done
abbrev pub flush_of : ℕ → List Outcome
flush_of mark = FlushEnded mark ∷ FlushBegun mark ∷ []

-- a flush began and ended with one mark, or it did not and has a cause
abbrev pub FlushEnds : Base → Result Unit FlushFault → Deed → Type 0
FlushEnds base result deed = (mark : ℕ) × GoalEnds base (flush_of mark) (as_call result) deed

abbrev pub FlushDoes : Base → (Deed → Type 0) → Result Unit FlushFault → Type 0
FlushDoes base did result = Does did [] (FlushEnds base result)
