-- What the calls of a disk on one thread did: how the core moved, and what tape, link and clock gained. Entries, calls
-- and ticks are newest first.
use Rattle.std.specs.Prelude.{ℕ, ◌≡◌, ◌*◌, true, max, List, [], ◌∷◌, ◌++◌, Option, Some, None, IsSome}
use Rattle.sb_base.specs.declared.geometry.Geometry.{Geometry}
use Rattle.sb_base.specs.declared.entry.Entry.{Entry}
use Rattle.sb_world.specs.Told.{Gains}
use Rattle.sb_world.specs.declared.clock.Tick.{Tick}
use Rattle.sb_world.specs.declared.clock.Tick.TheVariants as tick
use Rattle.sb_world.specs.declared.link.Meta.{Meta}
use Rattle.sb_history.specs.Flushes.{flush_place}
use Rattle.sb_history.specs.Puts.{puts_of}
use Rattle.sb_history.specs.Passes.{IsOfPass}
use Rattle.sb_history.specs.Requests.{RequestLog}
use Rattle.sb_history.specs.ClockTrace.{Caller, ClockTrace, PausesAfter, PauseTicks}
use Rattle.sb_core.specs.Cores.{Represents, geometry_of, settings_of, reading_of}
use Rattle.sb_core.specs.Requests.{SameBase}
use Rattle.sb_core.specs.PutWindow.{newest_content}
use Rattle.sb_crew.specs.Names.{name_of}
use Rattle.sb_crew.specs.Scenes.{DiskScene, Scene, Deed}
use Rattle.sb_crew.specs.Counts.{Asked}

-- the one caller of a disk on one thread
abbrev pub only_caller : Caller
only_caller = record { pass = 1; alone = true }

-- the sizes of a disk with this geometry
abbrev pub sizes_of : Geometry → Meta
sizes_of geometry = record { size = geometry.block_size * geometry.blocks; block_size = geometry.block_size }

-- a history of any kind, and one in which the flush of this mark has begun
abbrev pub any_past : List Entry → Type 0
any_past past = Unit {0}

abbrev pub HasBegun : ℕ → List Entry → Type 0
HasBegun mark past = IsSome (flush_place past mark)

-- and one in which the block's newest put has this content
abbrev pub IsPutOf : ℕ → List ℕ → List Entry → Type 0
IsPutOf block content past = newest_content (puts_of past block) ≡ content

-- the tick of the next reading, where it was taken before it is known for what
abbrev pub next_ticks : Option ℕ → List Tick
next_ticks None = []
next_ticks (Some now) = tick.Taken now ∷ []

-- an event at a reading: the names stay, the core added this entry to each history of this kind that it represents,
-- and the tape has it
pub record EventWhere (Is : List Entry → Type 0) (before after : DiskScene) (now : ℕ) (entry : Entry) : Type 0 where
  pub same_names : after.names ≡ before.names
  pub base : SameBase before.core after.core
  pub history : (past : List Entry) → Is past → Represents before.core past → Represents after.core (entry ∷ past)
  pub of_pass : entry.pass ≡ 1
  pub reading : entry.reading ≡ max now (reading_of before.core)
  pub told : Gains before.tape after.tape (entry ∷ [])

-- the same for histories of every kind
abbrev pub Event : DiskScene → DiskScene → ℕ → Entry → Type 0
Event before after now entry = EventWhere any_past before after now entry

-- an event at a reading, and what the clock gave then: the ticks of its pause, if it has one, and the next reading, if
-- one was taken
pub record TurnWhere (Is : List Entry → Type 0) (before after : DiskScene) (clock clock' : Option (List Tick))
    (now : ℕ) (entry : Entry) (next : Option ℕ) (ticks : List Tick) : Type 0 where
  pub event : EventWhere Is before after now entry
  pub pause : Option ℕ
  pub pauses : (past : List Entry) → Is past → Represents before.core past
      → PausesAfter (geometry_of before.core) (settings_of before.core) past now entry.kind pause
  pub paused : PauseTicks true now next pause ticks
  pub readings : Gains clock clock' (next_ticks next ++ ticks)

-- the names stay, the core added these entries to each history of this kind that it represents, the tape has them, and
-- the clock gave their readings, and then the next one, if one was taken
pub record RunsWhere (Is : List Entry → Type 0) (before after : DiskScene) (clock clock' : Option (List Tick))
    (entries : List Entry) (ticks : List Tick) (next : Option ℕ) : Type 0 where
  pub same_names : after.names ≡ before.names
  pub base : SameBase before.core after.core
  pub history : (past : List Entry) → Is past → Represents before.core past → Represents after.core (entries ++ past)
  pub of_pass : IsOfPass 1 entries
  pub told : Gains before.tape after.tape entries
  pub readings : Gains clock clock' (next_ticks next ++ ticks)
  pub trace : (past : List Entry) → Is past → Represents before.core past
      → ClockTrace (geometry_of before.core) (settings_of before.core) only_caller past entries next ticks

-- these entries were added, and the link's log gained just the calls that they stand for, under the disk's names
pub record DidWhere (Is : List Entry → Type 0) (before after : Scene) (deed : Deed) (next : Option ℕ) : Type 0 where
  pub runs : RunsWhere Is before.disk after.disk before.ticks after.ticks deed.entries deed.ticks next
  pub asked : Asked before.log after.log before.faults after.faults deed.calls
  pub requests : RequestLog (name_of before.disk.names) (Some before.disk.names.meta) deed.entries deed.calls

-- the same for histories of every kind, with no reading taken ahead
abbrev pub Did : Scene → Scene → Deed → Type 0
Did before after deed = DidWhere any_past before after deed None
