-- The laws of histories, as statements. The crate sb_laws proves each.
use Rattle.std.specs.Prelude.{ℕ, ◌≡◌, ◌≢◌, ◌+◌, ◌<◌, ◌≤◌, false, not, nat_le, List, ◌∷◌, ◌++◌, length, Option, Some}
use Rattle.std.specs.Prelude.{None, Contains, max}
use Rattle.sb_base.specs.SettingsTable.{IsChecked}
use Rattle.sb_base.specs.declared.part.Part.{Part}
use Rattle.sb_base.specs.declared.geometry.Geometry.{Geometry}
use Rattle.sb_base.specs.declared.settings.Settings.{Settings}
use Rattle.sb_base.specs.declared.line.Expect.{Expect}
use Rattle.sb_base.specs.declared.entry.Shown.{Shown}
use Rattle.sb_base.specs.declared.entry.Entry.{Entry}
use Rattle.sb_world.specs.declared.link.Call.{Call}
use Rattle.sb_world.specs.declared.link.Meta.{Meta}
use Rattle.sb_world.specs.declared.clock.Tick.{Tick}
use Rattle.sb_world.specs.declared.clock.Tick.TheVariants.{Taken}
use Rattle.sb_history.specs.Contents.{Start, part_bytes}
use Rattle.sb_history.specs.Values.{IsLegal, values_since, is_written}
use Rattle.sb_history.specs.Puts.{puts_of}
use Rattle.sb_history.specs.Gets.{Fetch, fetch_of}
use Rattle.sb_history.specs.Visibility.{Delays, visible_contents, ShowsOneOf, IsStaleWithin}
use Rattle.sb_history.specs.Flushes.{last_number, flush_place, flushed_place, epoch_at}
use Rattle.sb_history.specs.Durability.{acked_content, possible_contents, FlushesAreDurable, IsCrashDurable}
use Rattle.sb_history.specs.Cache.{Found, is_known_zero, cached_content}
use Rattle.sb_history.specs.Window.{CoversDelays, answer_digest}
use Rattle.sb_history.specs.AccessRules.{last_reading, CarriesPart, FollowsAccessRules}
use Rattle.sb_history.specs.CachePolicy.{FollowsCachePolicy}
use Rattle.sb_history.specs.States.{state_at, next_state}
use Rattle.sb_history.specs.Soundness.{IsSoundHistory, IsUnwindowed}
use Rattle.sb_history.specs.Passes.{entries_of_pass, IsOfPass}
use Rattle.sb_history.specs.Requests.{RequestLog}
use Rattle.sb_history.specs.ClockTrace.{Caller, PausesAfter, PauseTicks, ClockTrace, NonePauses, OneReadingEach}

-- over a store that is stale only within the delays, reads are those of registers
abbrev pub SoundIsLegal : Type 0
SoundIsLegal =
    (geometry : Geometry) (settings : Settings) (found : Found) (start : Start) (delays : Delays) (past : List Entry)
    → IsSoundHistory geometry settings found start delays past → IsLegal start past

-- at the end of a flush the store may come to hold only what each block held since the flush began
abbrev pub SoundFlushes : Type 0
SoundFlushes =
    (geometry : Geometry) (settings : Settings) (found : Found) (start : Start) (delays : Delays) (past : List Entry)
    → IsSoundHistory geometry settings found start delays past → FlushesAreDurable start past

-- at each moment the store may come to hold only what each block held since the last flush that is done began
abbrev pub SoundSurvivesCrash : Type 0
SoundSurvivesCrash =
    (geometry : Geometry) (settings : Settings) (found : Found) (start : Start) (delays : Delays) (past : List Entry)
    → IsSoundHistory geometry settings found start delays past → IsCrashDurable start past

-- without a window reads are those of registers, whatever MD5s collide
abbrev pub UnwindowedIsLegal : Type 0
UnwindowedIsLegal =
    (geometry : Geometry) (settings : Settings) (found : Found) (start : Start) (past : List Entry)
    → IsUnwindowed geometry settings found start past → IsLegal start past

-- without a window flushes are durable, whatever MD5s collide
abbrev pub UnwindowedFlushes : Type 0
UnwindowedFlushes =
    (geometry : Geometry) (settings : Settings) (found : Found) (start : Start) (past : List Entry)
    → IsUnwindowed geometry settings found start past → FlushesAreDurable start past

-- without a window the store may at each moment come to hold only what each block held since the last flush that is
-- done began, whatever MD5s collide
abbrev pub UnwindowedSurvivesCrash : Type 0
UnwindowedSurvivesCrash =
    (geometry : Geometry) (settings : Settings) (found : Found) (start : Start) (past : List Entry)
    → IsUnwindowed geometry settings found start past → IsCrashDurable start past

-- without a window no GET has a digest to show
abbrev pub UnwindowedExpectsNothing : Type 0
UnwindowedExpectsNothing =
    (geometry : Geometry) (settings : Settings) (found : Found) (past : List Entry)
    → FollowsAccessRules geometry settings found past → settings.md5_size ≡ 0 → (block : ℕ) (fetch : Fetch)
    → fetch_of past block ≡ Some fetch → fetch.expect ≡ None

-- what a GET that begins when the store has settled may show is what the store may come to hold
abbrev pub SettledIsPossible : Type 0
SettledIsPossible =
    (geometry : Geometry) (settings : Settings) (found : Found) (start : Start) (delays : Delays) (past : List Entry)
    → IsSoundHistory geometry settings found start delays past
    → (block reading : ℕ) → last_reading past + delays.show ≤ reading → (content : List ℕ)
    → Contains (visible_contents delays (length past) reading (start block) (puts_of past block)) content
    → Contains (possible_contents start past block) content

-- what a put acknowledged last is what the store may come to hold
abbrev pub AckedIsPossible : Type 0
AckedIsPossible =
    (start : Start) (past : List Entry) (block : ℕ)
    → Contains (possible_contents start past block) (acked_content start past block)

-- an answer that differs from what was expected is to a GET that began before the delay was over
abbrev pub StaleIsYoung : Type 0
StaleIsYoung =
    (geometry : Geometry) (settings : Settings) (found : Found) (start : Start) (delays : Delays) (past : List Entry)
    → IsSoundHistory geometry settings found start delays past
    → (block : ℕ) (fetch : Fetch) (expect : Expect) (answer : Shown) (digest : List ℕ)
    → fetch_of past block ≡ Some fetch → fetch.expect ≡ Some expect
    → ShowsOneOf geometry.block_size
    (visible_contents delays fetch.place fetch.reading (start block) (puts_of past block)) fetch.verify answer
    → answer_digest geometry.block_size fetch.verify answer ≡ Some digest → digest ≢ expect.digest
    → fetch.reading < expect.since + delays.show

-- after a crash, a mount over a store that holds any of what it may hold reads of a block that it didn't write what the
-- block held since the last flush that is done began
abbrev pub NextMountIsRecent : Type 0
NextMountIsRecent =
    (geometry : Geometry) (settings : Settings) (found : Found) (start : Start) (delays : Delays) (past : List Entry)
    → IsSoundHistory geometry settings found start delays past
    → (next : Start) → ((block : ℕ) → Contains (possible_contents start past block) (next block))
    → (settings' : Settings) (found' : Found) (delays' : Delays) (past' : List Entry)
    → IsSoundHistory geometry settings' found' next delays' past'
    → (part : Part) (bytes : List ℕ) → is_written past' part.block ≡ false
    → CarriesPart geometry.block_size (cached_content geometry.block_size found' past' part.block)
    (is_known_zero geometry.block_size found' past' part.block) part bytes
    → (content : List ℕ) × Contains (values_since start (flushed_place past) past part.block) content
    × (bytes ≡ part_bytes content part)

-- checked settings cover any delay up to the spacing
abbrev pub CheckedSettingsCover : Type 0
CheckedSettingsCover =
    (settings : Settings) (blocks : Option ℕ) (delay : ℕ) → IsChecked settings blocks → delay ≤ settings.min_write_delay
    → CoversDelays settings (record { order = delay; show = delay })

-- a store that is stale within smaller delays is so within larger ones
abbrev pub SmallerDelaysAreWithin : Type 0
SmallerDelaysAreWithin =
    (block_size : ℕ) (start : Start) (small large : Delays) (past : List Entry) → small.order ≤ large.order
    → small.show ≤ large.show → IsStaleWithin block_size start small past → IsStaleWithin block_size start large past

-- the states that a history gives go by the table, whatever the store shows
abbrev pub StatesGoByTable : Type 0
StatesGoByTable =
    (geometry : Geometry) (settings : Settings) (found : Found) (entry : Entry) (past : List Entry)
    → FollowsAccessRules geometry settings found (entry ∷ past)
    → FollowsCachePolicy geometry settings found (entry ∷ past) → (block : ℕ)
    → state_at geometry.block_size found (entry ∷ past) block
    ≡ next_state geometry.block_size block (is_known_zero geometry.block_size found past block)
    (cached_content geometry.block_size found past block) (puts_of past block) entry.kind
    (state_at geometry.block_size found past block)

-- a write stands before a flush began exactly where the epoch at the write is at most the flush's mark
abbrev pub StampsAreEpochs : Type 0
StampsAreEpochs =
    (geometry : Geometry) (settings : Settings) (found : Found) (past : List Entry)
    → FollowsAccessRules geometry settings found past → (mark place write : ℕ) → mark < last_number
    → flush_place past mark ≡ Some place → write < length past → write ≢ place
    → nat_le place write ≡ not (nat_le (epoch_at past write) mark)

-- the calls of two segments of a history are those of both, where each has its own
abbrev pub RequestsJoin : Type 0
RequestsJoin =
    (name : ℕ → List ℕ) (meta : Option Meta) (earlier later : List Entry) (first second : List Call)
    → RequestLog name meta earlier first → RequestLog name meta later second
    → RequestLog name meta (later ++ earlier) (second ++ first)

-- the ticks of two segments of a history, the one behind the other, are those of both
abbrev pub ClockTracesJoin : Type 0
ClockTracesJoin =
    (geometry : Geometry) (settings : Settings) (caller : Caller) (before earlier later : List Entry) (next : Option ℕ)
    (first second : List Tick)
    → ClockTrace geometry settings caller before earlier None first
    → ClockTrace geometry settings caller (earlier ++ before) later next second
    → ClockTrace geometry settings caller before (later ++ earlier) next (second ++ first)

-- an entry of the caller's pass adds the reading taken for it, and the ticks of its pause
abbrev pub EntryIsTicked : Type 0
EntryIsTicked =
    (geometry : Geometry) (settings : Settings) (caller : Caller) (before entries : List Entry) (entry : Entry)
    (next pause : Option ℕ) (taken : ℕ) (after ticks : List Tick) → entry.pass ≡ caller.pass
    → entry.reading ≡ max taken (last_reading (entries ++ before))
    → PausesAfter geometry settings (entries ++ before) taken entry.kind pause
    → PauseTicks caller.alone taken next pause after
    → ClockTrace geometry settings caller before entries (Some taken) ticks
    → ClockTrace geometry settings caller before (entry ∷ entries) next (after ++ Taken taken ∷ ticks)

-- an entry of another pass adds nothing
abbrev pub OtherPassIsUnticked : Type 0
OtherPassIsUnticked =
    (geometry : Geometry) (settings : Settings) (caller : Caller) (before entries : List Entry) (entry : Entry)
    (next : Option ℕ) (ticks : List Tick) → entry.pass ≢ caller.pass
    → ClockTrace geometry settings caller before entries next ticks
    → ClockTrace geometry settings caller before (entry ∷ entries) next ticks

-- where no entry pauses, one reading for each is the trace
abbrev pub PlainTraceHolds : Type 0
PlainTraceHolds =
    (geometry : Geometry) (settings : Settings) (caller : Caller) (before entries : List Entry) (next : Option ℕ)
    (ticks : List Tick)
    → IsOfPass caller.pass entries → NonePauses geometry settings before entries → OneReadingEach before entries ticks
    → ClockTrace geometry settings caller before entries next ticks

-- the entries of a pass in two segments of a history are those in both
abbrev pub PassesJoin : Type 0
PassesJoin =
    (earlier later : List Entry) (pass : ℕ)
    → entries_of_pass (later ++ earlier) pass ≡ entries_of_pass later pass ++ entries_of_pass earlier pass

-- where each entry is of one pass, its entries are the history
abbrev pub OnePassIsAll : Type 0
OnePassIsAll = (past : List Entry) (pass : ℕ) → IsOfPass pass past → entries_of_pass past pass ≡ past
