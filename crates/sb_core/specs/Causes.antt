-- Why the core answers so, said of a history that it represents.
use Rattle.std.specs.Prelude.{ℕ, ◌≡◌, ◌≢◌, ◌<◌, ◌≤◌, ◌⊎◌, Bool, true, false, ◌&&◌, List, length, Option, Some, None, is_some, Result, Ok, Err}
use Rattle.sb_base.specs.declared.geometry.Geometry.{Geometry}
use Rattle.sb_base.specs.declared.settings.Settings.{Settings}
use Rattle.sb_base.specs.declared.part.Part.{Part}
use Rattle.sb_base.specs.Ranges.{IsPart}
use Rattle.sb_base.specs.declared.line.Why.{Why}
use Rattle.sb_base.specs.declared.line.Why.TheVariants.{Busy, Spaced, WindowFull, NoRoom}
use Rattle.sb_base.specs.declared.entry.Entry.{Entry}
use Rattle.sb_history.specs.Puts.{put_open}
use Rattle.sb_history.specs.Gets.{fetch_of}
use Rattle.sb_history.specs.Flushes.{flush_place}
use Rattle.sb_history.specs.Contents.{is_zeros}
use Rattle.sb_history.specs.Cache.{outcome, is_known_zero, cached_content}
use Rattle.sb_history.specs.Writes.{is_dirty, dirty_since, is_stamped}
use Rattle.sb_history.specs.Eviction.{is_occupied, is_clean, count, victim_of}
use Rattle.sb_history.specs.CachePolicy.{IsFull, HasNoVictim, IsTooDirty}
use Rattle.sb_window.specs.declared.window.PutWhen.{PutWhen}
use Rattle.sb_window.specs.declared.window.PutWhen.TheVariants as when
use Rattle.sb_window.specs.Windows.{WindowState, put_when}
use Rattle.sb_core.specs.declared.machine.Core.{Core}
use Rattle.sb_core.specs.declared.step.ReadStep.{ReadStep}
use Rattle.sb_core.specs.declared.step.ReadStep.TheVariants as read
use Rattle.sb_core.specs.declared.step.WriteStep.{WriteStep}
use Rattle.sb_core.specs.declared.step.WriteStep.TheVariants as write
use Rattle.sb_core.specs.declared.step.FlushStep.{FlushStep}
use Rattle.sb_core.specs.declared.step.FlushStep.TheVariants as flush
use Rattle.sb_core.specs.PutWindow.{IsWindowOf, HasPutsOf}
use Rattle.sb_core.specs.Represents.{nothing_found}
use Rattle.sb_core.specs.Rules.{until_by}
use Rattle.sb_core.specs.Cores.{Represents}
use Rattle.sb_core.specs.Steps.{AnswersRead}
use Rattle.sb_core.specs.Writing.{AnswersWrite}
use Rattle.sb_core.specs.Flushing.{AnswersFlush}

-- a dirty block, for which the flush of the mark has to wait, where there is one
abbrev pub IsCovered : ℕ → List Entry → Option ℕ → ℕ → Type 0
IsCovered size past None block = is_dirty size nothing_found past block ≡ true
IsCovered size past (Some mark) block =
    (is_dirty size nothing_found past block ≡ true) × (is_stamped size nothing_found past mark block ≡ true)

-- the next put is of this block: it may begin, and of the covered ones that may it is dirty for longest, the lowest at a
-- tie
pub record IsNextPut (size : ℕ) (past : List Entry) (window : WindowState) (now : ℕ) (mark : Option ℕ) (block : ℕ) :
    Type 0 where
  pub covered : IsCovered size past mark block
  pub ready : put_when window block now ≡ when.Now
  pub oldest : (other : ℕ) → IsCovered size past mark other → put_when window other now ≡ when.Now
      → dirty_since size nothing_found past block ≤ dirty_since size nothing_found past other
  pub lowest : (other : ℕ) → IsCovered size past mark other → put_when window other now ≡ when.Now
      → dirty_since size nothing_found past other ≡ dirty_since size nothing_found past block → block ≤ other

-- a covered block waits for this reading, and none for an earlier one
pub record IsLeastWait (size : ℕ) (past : List Entry) (window : WindowState) (now : ℕ) (mark : Option ℕ) (until : ℕ)
    (at : PutWhen) : Type 0 where
  pub block : ℕ
  pub covered : IsCovered size past mark block
  pub waits : put_when window block now ≡ at
  pub least : (other reading : ℕ) → IsCovered size past mark other
      → until_by (put_when window other now) ≡ Some reading → until ≤ reading
  pub first : (other : ℕ) → IsCovered size past mark other → until_by (put_when window other now) ≡ Some until
      → dirty_since size nothing_found past block ≤ dirty_since size nothing_found past other
  pub lowest : (other : ℕ) → IsCovered size past mark other → until_by (put_when window other now) ≡ Some until
      → dirty_since size nothing_found past other ≡ dirty_since size nothing_found past block → block ≤ other

-- what is waited for where none may be put: the least of these readings, or there is none
abbrev pub WaitsSo : ℕ → List Entry → WindowState → ℕ → Option ℕ → Why → Type 0
WaitsSo size past window now mark (Busy block) = ⊥
WaitsSo size past window now mark (Spaced until) = IsLeastWait size past window now mark until (when.At until)
WaitsSo size past window now mark (WindowFull until) = IsLeastWait size past window now mark until (when.Full until)
WaitsSo size past window now mark NoRoom =
    (block : ℕ) → IsCovered size past mark block → put_when window block now ≡ when.Busy

abbrev pub PutsSo : ℕ → List Entry → WindowState → ℕ → Option ℕ → Result ℕ Why → Type 0
PutsSo size past window now mark (Ok block) = IsNextPut size past window now mark block
PutsSo size past window now mark (Err why) =
    ((block : ℕ) → IsCovered size past mark block → put_when window block now ≢ when.Now)
    × WaitsSo size past window now mark why

-- the put rule over a history, by a window that has its puts
pub record PutCause (geometry : Geometry) (settings : Settings) (past : List Entry) (now : ℕ) (mark : Option ℕ)
    (answer : Result ℕ Why) : Type 0 where
  pub window : WindowState
  pub is_window : IsWindowOf geometry settings window
  pub puts : HasPutsOf settings window past
  pub rule : PutsSo geometry.block_size past window now mark answer

-- the block takes no entry
abbrev pub IsAbsent : Geometry → List Entry → ℕ → Type 0
IsAbsent geometry past block = is_occupied geometry.block_size nothing_found past block ≡ false

-- the block is known to be zeros in the store
abbrev pub known_zero : Geometry → List Entry → ℕ → Bool
known_zero geometry past block = is_known_zero geometry.block_size nothing_found past block

-- the block takes no entry, and isn't known to be zeros
abbrev pub IsUnknown : Geometry → List Entry → ℕ → Type 0
IsUnknown geometry past block = IsAbsent geometry past block × (known_zero geometry past block ≡ false)

-- an entry is free
abbrev pub HasRoom : Geometry → Settings → List Entry → Type 0
HasRoom geometry settings past =
    count (is_occupied geometry.block_size nothing_found past) geometry.blocks < settings.cache_size

-- the block is held
abbrev pub IsCached : Geometry → List Entry → ℕ → Type 0
IsCached geometry past block = is_some (cached_content geometry.block_size nothing_found past block) ≡ true

-- a GET of the block is open, of which the answer tells
abbrev pub IsAsked : List Entry → ℕ → ℕ → Type 0
IsAsked past block told = (told ≡ block) × (is_some (fetch_of past block) ≡ true)

-- the victim leaves a cache that is full
abbrev pub DropCause : Geometry → Settings → List Entry → ℕ → Type 0
DropCause geometry settings past victim =
    IsFull geometry settings nothing_found past
    × (victim_of geometry.block_size geometry.blocks nothing_found past ≡ Some victim)

-- why a read of a block waits: a GET of it is open, or it is unknown, no entry can be had by a drop, and the put rule
-- waits
abbrev pub ReadPuts : Geometry → Settings → List Entry → ℕ → ℕ → Result ℕ Why → Type 0
ReadPuts geometry settings past now block answer =
    IsUnknown geometry past block × HasNoVictim geometry settings nothing_found past
    × PutCause geometry settings past now None answer

abbrev pub ReadWaits : Geometry → Settings → List Entry → ℕ → ℕ → Why → Type 0
ReadWaits geometry settings past now block (Busy told) = IsAsked past block told
ReadWaits geometry settings past now block (Spaced until) = ReadPuts geometry settings past now block (Err (Spaced until))
ReadWaits geometry settings past now block (WindowFull until) =
    ReadPuts geometry settings past now block (Err (WindowFull until))
ReadWaits geometry settings past now block NoRoom = ReadPuts geometry settings past now block (Err NoRoom)

-- why a read of a block is answered so: it is done where the block is held, or takes no entry and is known to be zeros
abbrev pub ReadCause : Geometry → Settings → List Entry → ℕ → ℕ → ReadStep → Type 0
ReadCause geometry settings past now block read.Done =
    IsCached geometry past block ⊎ (IsAbsent geometry past block × (known_zero geometry past block ≡ true))
ReadCause geometry settings past now block (read.Wait why) = ReadWaits geometry settings past now block why
ReadCause geometry settings past now block (read.Get job) =
    IsUnknown geometry past block × HasRoom geometry settings past
ReadCause geometry settings past now block (read.Dropped victim) =
    IsUnknown geometry past block × DropCause geometry settings past victim
ReadCause geometry settings past now block (read.Put job) =
    ReadPuts geometry settings past now block (Ok job.block)

abbrev pub ReadsHaveCauses : Type 0
ReadsHaveCauses =
    (core : Core) (past : List Entry) (now block : ℕ) (step : ReadStep) → Represents core past
    → block < core.geometry.blocks → AnswersRead core now block step
    → ReadCause core.geometry core.settings past now block step

-- a write leaves zeros in a block that is known to be zeros
abbrev pub keeps_zero : Geometry → List Entry → Part → List ℕ → Bool
keeps_zero geometry past part bytes =
    known_zero geometry past part.block
    && is_zeros (outcome geometry.block_size (cached_content geometry.block_size nothing_found past part.block) part
    bytes)

-- the block takes no entry, and a write of the part alone says what it holds: it is known to be zeros, or the part is all
-- of it
abbrev pub IsFilled : Geometry → List Entry → Part → Type 0
IsFilled geometry past part =
    IsAbsent geometry past part.block
    × ((known_zero geometry past part.block ≡ true) ⊎ (part.length ≡ geometry.block_size))

-- a write of a part would make one more block dirty: of one that is clean or is filled by it, and doesn't stay zeros
abbrev pub DirtiesOne : Geometry → List Entry → Part → List ℕ → Type 0
DirtiesOne geometry past part bytes =
    ((is_clean geometry.block_size nothing_found past part.block ≡ true) ⊎ IsFilled geometry past part)
    × (keeps_zero geometry past part bytes ≡ false)

-- a write needs an entry that the block doesn't have
abbrev pub NeedsEntry : Geometry → List Entry → Part → List ℕ → Type 0
NeedsEntry geometry past part bytes =
    IsAbsent geometry past part.block × (keeps_zero geometry past part bytes ≡ false)

-- the put rule decides a write: too many blocks would be dirty, or it needs an entry, and none can be had by a drop
abbrev pub WritePuts : Geometry → Settings → List Entry → ℕ → Part → List ℕ → Result ℕ Why → Type 0
WritePuts geometry settings past now part bytes answer =
    ((DirtiesOne geometry past part bytes × IsTooDirty geometry settings nothing_found past)
    ⊎ (NeedsEntry geometry past part bytes × HasNoVictim geometry settings nothing_found past))
    × PutCause geometry settings past now None answer

abbrev pub WriteWaits : Geometry → Settings → List Entry → ℕ → Part → List ℕ → Why → Type 0
WriteWaits geometry settings past now part bytes (Busy told) = IsAsked past part.block told
WriteWaits geometry settings past now part bytes (Spaced until) =
    WritePuts geometry settings past now part bytes (Err (Spaced until))
WriteWaits geometry settings past now part bytes (WindowFull until) =
    WritePuts geometry settings past now part bytes (Err (WindowFull until))
WriteWaits geometry settings past now part bytes NoRoom =
    WritePuts geometry settings past now part bytes (Err NoRoom)

-- a write is done: of a block that is held, of one that it fills where an entry is free, or where the block stays zeros
-- and takes no entry; and if it makes one more block dirty, not too many are
abbrev pub WriteDone : Geometry → Settings → List Entry → Part → List ℕ → Type 0
WriteDone geometry settings past part bytes =
    (IsCached geometry past part.block
    ⊎ (IsFilled geometry past part × HasRoom geometry settings past)
    ⊎ (IsAbsent geometry past part.block × (keeps_zero geometry past part bytes ≡ true)))
    × (DirtiesOne geometry past part bytes → IsTooDirty geometry settings nothing_found past → ⊥)

-- why a write of bytes to a part is answered so
abbrev pub WriteCause : Geometry → Settings → List Entry → ℕ → Part → List ℕ → WriteStep → Type 0
WriteCause geometry settings past now part bytes (write.Done dirtied) = WriteDone geometry settings past part bytes
WriteCause geometry settings past now part bytes (write.Wait why) =
    WriteWaits geometry settings past now part bytes why
WriteCause geometry settings past now part bytes (write.Get job) =
    IsUnknown geometry past part.block × HasRoom geometry settings past × (part.length ≢ geometry.block_size)
WriteCause geometry settings past now part bytes (write.Dropped victim) =
    NeedsEntry geometry past part bytes × DropCause geometry settings past victim
WriteCause geometry settings past now part bytes (write.Put job) =
    WritePuts geometry settings past now part bytes (Ok job.block)

abbrev pub WritesHaveCauses : Type 0
WritesHaveCauses =
    (core : Core) (past : List Entry) (now : ℕ) (part : Part) (bytes : List ℕ) (step : WriteStep)
    → Represents core past → IsPart core.geometry part → length bytes ≡ part.length
    → AnswersWrite core now part bytes step
    → WriteCause core.geometry core.settings past now part bytes step

-- the PUT of a block is open that a flush of this mark has to wait for
abbrev pub IsBeingPut : Geometry → List Entry → ℕ → ℕ → Type 0
IsBeingPut geometry past mark block =
    (put_open past block ≡ true) × (is_stamped geometry.block_size nothing_found past mark block ≡ true)

-- why a step of a flush waits: none may be put, and one has a reading to wait for, or else one is being put
abbrev pub FlushWaits : Geometry → Settings → List Entry → ℕ → ℕ → Why → Type 0
FlushWaits geometry settings past now mark (Busy block) =
    PutCause geometry settings past now (Some mark) (Err NoRoom) × IsBeingPut geometry past mark block
    × ((other : ℕ) → IsBeingPut geometry past mark other → block ≤ other)
FlushWaits geometry settings past now mark (Spaced until) =
    PutCause geometry settings past now (Some mark) (Err (Spaced until))
FlushWaits geometry settings past now mark (WindowFull until) =
    PutCause geometry settings past now (Some mark) (Err (WindowFull until))
FlushWaits geometry settings past now mark NoRoom =
    PutCause geometry settings past now (Some mark) (Err NoRoom)
    × ((block : ℕ) → IsBeingPut geometry past mark block → ⊥)
    × ((block : ℕ) × IsCovered geometry.block_size past (Some mark) block)

-- why a step of a flush of this mark is answered so: it is done where it has to wait for no block
abbrev pub FlushCause : Geometry → Settings → List Entry → ℕ → ℕ → FlushStep → Type 0
FlushCause geometry settings past now mark flush.Done =
    (block : ℕ) → is_stamped geometry.block_size nothing_found past mark block ≡ false
FlushCause geometry settings past now mark (flush.Put job) =
    PutCause geometry settings past now (Some mark) (Ok job.block)
FlushCause geometry settings past now mark (flush.Wait why) = FlushWaits geometry settings past now mark why

abbrev pub FlushesHaveCauses : Type 0
FlushesHaveCauses =
    (core : Core) (past : List Entry) (now mark : ℕ) (step : FlushStep) → Represents core past
    → is_some (flush_place past mark) ≡ true → AnswersFlush core now mark step
    → FlushCause core.geometry core.settings past now mark step
