-- Which histories a core represents, and what its own functions do to it.
use Rattle.std.specs.Prelude.{ℕ, ◌≡◌, ◌≤◌, Bool, List, ◌∷◌, Option, None, max, IsSome, Result, Ok, Err}
use Rattle.std.specs.FinMap.{get}
use Rattle.sb_base.specs.declared.geometry.Geometry.{Geometry}
use Rattle.sb_base.specs.declared.settings.Settings.{Settings}
use Rattle.sb_base.specs.declared.part.Part.{Part}
use Rattle.sb_base.specs.declared.line.Expect.{Expect}
use Rattle.sb_base.specs.declared.line.Why.{Why}
use Rattle.sb_base.specs.declared.entry.Shown.{Shown}
use Rattle.sb_base.specs.declared.entry.EntryKind.{EntryKind}
use Rattle.sb_base.specs.declared.entry.Entry.{Entry}
use Rattle.sb_history.specs.Contents.{is_zeros}
use Rattle.sb_history.specs.Flushes.{flush_place}
use Rattle.sb_history.specs.Cache.{answer_content}
use Rattle.sb_zero.specs.Sets.{is_marked}
use Rattle.sb_window.specs.declared.window.PutWhen.TheVariants.{Now}
use Rattle.sb_window.specs.Windows.{WindowState, put_when, begun, ended, expected}
use Rattle.sb_blocks.specs.Cached.{content_in}
use Rattle.sb_blocks.specs.Moves.{put_begun, put_ended, touched}
use Rattle.sb_blocks.specs.Calls.{CopiesBody, CopiesPart, EndsRead}
use Rattle.sb_blocks.specs.Caches.{Changes, BeginsRead, without}
use Rattle.sb_core.specs.declared.machine.Core.{Core}
use Rattle.sb_core.specs.declared.job.GetJob.{GetJob}
use Rattle.sb_core.specs.declared.job.PutJob.{PutJob}
use Rattle.sb_core.specs.Represents.{RepresentsBy, next_place}
use Rattle.sb_core.specs.PutWindow.{IsPutDigest}
use Rattle.sb_core.specs.Marking.{SetsMark, begun_mark, shown_mark, ended_mark}

-- which blocks the core knows to be zeros
abbrev pub marks_of : Core → ℕ → Bool
marks_of core = is_marked core.marks

-- a core represents a history, but that its greatest reading and the place of the next entry are these
abbrev pub RepresentsAt : ℕ → ℕ → Core → List Entry → Type 0
RepresentsAt reading place core past =
    RepresentsBy core.geometry core.settings core.window reading core.epoch place (marks_of core)
    core.blocks.cached past

-- a core represents a history
abbrev pub Represents : Core → List Entry → Type 0
Represents core past = RepresentsAt core.reading core.place core past

-- the disk's geometry and settings, the window of its last puts, and the greatest reading so far, which is that of the
-- newest entry
abbrev pub geometry_of : Core → Geometry
geometry_of core = core.geometry

abbrev pub settings_of : Core → Settings
settings_of core = core.settings

abbrev pub window_of : Core → WindowState
window_of core = core.window

abbrev pub reading_of : Core → ℕ
reading_of core = core.reading

-- the reading of an entry that is added now: readings never fall
abbrev pub reading_at : ℕ → Core → ℕ
reading_at now core = max now core.reading

-- the mark of the next flush: how many flushes have begun
abbrev pub epoch_of : Core → ℕ
epoch_of core = core.epoch

-- whether the disk was closed, and the mark of the last flush that has begun
abbrev pub closed_of : Core → Bool
closed_of core = core.closed

abbrev pub last_mark_of : Core → Option ℕ
last_mark_of core = core.last_mark

-- an event adds this entry to every history that the core represented
abbrev pub Adds : Core → Core → Entry → Type 0
Adds old new entry = (past : List Entry) → Represents old past → Represents new (entry ∷ past)

-- and in which the flush of this mark has begun
abbrev pub AddsAfterFlush : ℕ → Core → Core → Entry → Type 0
AddsAfterFlush mark old new entry =
    (past : List Entry) → IsSome (flush_place past mark) → Represents old past → Represents new (entry ∷ past)

-- and in which the block's newest put has a content of this digest, where the window is on
abbrev pub AddsAfterPut : List ℕ → ℕ → Core → Core → Entry → Type 0
AddsAfterPut digest block old new entry =
    (past : List Entry) → IsPutDigest old.settings past block digest → Represents old past
    → Represents new (entry ∷ past)

-- what workers are told by stays: whether the disk was closed, and the mark of the last flush that has begun
pub record KeepsSignals (old new : Core) : Type 0 where
  pub closed : closed_of new ≡ closed_of old
  pub last_mark : last_mark_of new ≡ last_mark_of old

-- all but the cache and the window stays
pub record KeepsRest (old new : Core) : Type 0 where
  pub geometry : new.geometry ≡ old.geometry
  pub settings : new.settings ≡ old.settings
  pub reading : new.reading ≡ old.reading
  pub epoch : new.epoch ≡ old.epoch
  pub place : new.place ≡ old.place
  pub closed : new.closed ≡ old.closed
  pub last_mark : new.last_mark ≡ old.last_mark

-- nothing changes
pub record Stays (old new : Core) : Type 0 where
  pub blocks : new.blocks ≡ old.blocks
  pub marks : new.marks ≡ old.marks
  pub window : new.window ≡ old.window
  pub rest : KeepsRest old new

-- the reading rises to that of the event, and its entry gets a place
pub record Ticks (old new : Core) (now place : ℕ) : Type 0 where
  pub reading : new.reading ≡ max now old.reading
  pub is_place : place ≡ old.place
  pub next : new.place ≡ next_place old.place
  pub geometry : new.geometry ≡ old.geometry
  pub settings : new.settings ≡ old.settings
  pub epoch : new.epoch ≡ old.epoch
  pub closed : new.closed ≡ old.closed
  pub last_mark : new.last_mark ≡ old.last_mark
  pub blocks : new.blocks ≡ old.blocks
  pub marks : new.marks ≡ old.marks
  pub window : new.window ≡ old.window

-- an event of a pass adds this to every history that the core represented before its reading and its place rose
abbrev pub AddsFrom : Core → Core → ℕ → EntryKind → Type 0
AddsFrom old new pass k =
    (before place : ℕ) (past : List Entry) → before ≤ old.reading → old.place ≡ next_place place
    → RepresentsAt before place old past
    → Represents new (record { pass = pass; reading = old.reading; kind = k } ∷ past)

-- a PUT of the block begins, which the window lets begin and keeps from then on
pub record StartsPut (old new : Core) (pass block : ℕ) (out : List ℕ) (job : PutJob) : Type 0 where
  pub is_block : job.block ≡ block
  pub zeros : job.zeros ≡ is_zeros out
  pub copied : CopiesBody (content_in (get old.blocks.cached block)) out
  pub ready : put_when old.window block old.reading ≡ Now
  pub blocks : Changes old.blocks new.blocks block (put_begun pass) (get old.blocks.cached block)
  pub marks : SetsMark (marks_of old) (marks_of new) block (begun_mark (is_zeros out) (marks_of old block))
  pub window : new.window ≡ begun old.window block old.reading
  pub rest : KeepsRest old new

-- a PUT begins, or one has to wait and nothing changes
abbrev pub PutsNext : Core → Core → ℕ → List ℕ → Result PutJob Why → Type 0
PutsNext old new pass out (Ok job) = StartsPut old new pass job.block out job
PutsNext old new pass out (Err why) = Stays old new

-- the block that a rule names
abbrev pub put_block : Result PutJob Why → Result ℕ Why
put_block (Ok job) = Ok job.block
put_block (Err why) = Err why

-- a GET of a block that begins at a reading, with the digest that it has to show
abbrev pub get_job : ℕ → ℕ → Option Expect → GetJob
get_job block reading expect = record { block = block; expect = expect; verify = None; begun = reading }

-- a GET of the block begins, which has to show the digest that the window has of it
pub record StartsGet (old new : Core) (pass block : ℕ) (job : GetJob) : Type 0 where
  pub is_job : job ≡ get_job block old.reading (expected old.window block old.reading)
  pub blocks : BeginsRead old.blocks new.blocks block (record
      { pass = pass; begun = old.reading; expect = expected old.window block old.reading; verify = None })
  pub marks : new.marks ≡ old.marks
  pub window : new.window ≡ old.window
  pub rest : KeepsRest old new

-- a part of a block that is held was copied, and used
pub record ReadsHeld (old new : Core) (place : ℕ) (part : Part) (out : List ℕ) : Type 0 where
  pub blocks : Changes old.blocks new.blocks part.block (touched place old.reading)
      (get old.blocks.cached part.block)
  pub copied : CopiesPart (content_in (get old.blocks.cached part.block)) part out
  pub marks : new.marks ≡ old.marks
  pub window : new.window ≡ old.window
  pub rest : KeepsRest old new

-- the block has what an answer showed where that was taken, and no entry else
pub record TakesAnswer (old new : Core) (place block : ℕ) (answer : Shown) (taken : Bool) : Type 0 where
  pub blocks : EndsRead old.blocks new.blocks old.reading place block
      (answer_content old.geometry.block_size None answer) taken
  pub marks : SetsMark (marks_of old) (marks_of new) block
      (shown_mark old.geometry.block_size answer taken (marks_of old block))
  pub window : new.window ≡ old.window
  pub rest : KeepsRest old new

-- the block's entry is gone
pub record LosesBlock (old new : Core) (block : ℕ) : Type 0 where
  pub blocks : new.blocks ≡ without old.blocks block
  pub marks : new.marks ≡ old.marks
  pub window : new.window ≡ old.window
  pub rest : KeepsRest old new

-- the PUT of the block ends, of zeros or not, ok or not, and the window keeps that with its digest
pub record EndsWrite (old new : Core) (block : ℕ) (zeros ok : Bool) (digest : List ℕ) : Type 0 where
  pub blocks : Changes old.blocks new.blocks block (put_ended ok old.reading) (get old.blocks.cached block)
  pub marks : SetsMark (marks_of old) (marks_of new) block (ended_mark zeros ok (marks_of old block))
  pub window : new.window ≡ ended old.window block old.reading ok digest
  pub rest : KeepsRest old new
