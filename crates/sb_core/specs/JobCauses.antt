-- Why a worker is told so, said of a history that the core stands for.
use Rattle.std.specs.Prelude.{ℕ, ◌≡◌, ◌≤◌, ◌⊎◌, true, false, List, Some}
use Rattle.sb_base.specs.declared.geometry.Geometry.{Geometry}
use Rattle.sb_base.specs.declared.settings.Settings.{Settings}
use Rattle.sb_base.specs.declared.entry.Entry.{Entry}
use Rattle.sb_history.specs.Writes.{is_dirty, dirty_since}
use Rattle.sb_history.specs.Eviction.{victim_of}
use Rattle.sb_history.specs.CachePolicy.{IsAged, IsFlushed, IsTooDirty, IsUnused}
use Rattle.sb_window.specs.declared.window.PutWhen.TheVariants as when
use Rattle.sb_window.specs.Windows.{WindowState, put_when}
use Rattle.sb_core.specs.declared.machine.Core.{Core}
use Rattle.sb_core.specs.declared.step.JobStep.{JobStep}
use Rattle.sb_core.specs.declared.step.JobStep.TheVariants as job
use Rattle.sb_core.specs.PutWindow.{IsWindowOf, HasPutsOf}
use Rattle.sb_core.specs.Represents.{nothing_found}
use Rattle.sb_core.specs.Standing.{is_closed, StandsFor}
use Rattle.sb_core.specs.Jobs.{ComesAt, AnswersJob}

-- the block is dirty and due: dirty for the write delay, a flush that has begun has to wait for it, or as many blocks
-- are dirty as may be
abbrev pub IsDueBlock : Geometry → Settings → List Entry → ℕ → ℕ → Type 0
IsDueBlock geometry settings past now block =
    (is_dirty geometry.block_size nothing_found past block ≡ true)
    × (IsAged geometry settings nothing_found past now block ⊎ (IsFlushed geometry nothing_found past block
    ⊎ IsTooDirty geometry settings nothing_found past))

-- the first of these that may be put: it is dirty for longest, the lowest at a tie
pub record IsFirstDue (geometry : Geometry) (settings : Settings) (past : List Entry) (window : WindowState)
    (now block : ℕ) : Type 0 where
  pub due : IsDueBlock geometry settings past now block
  pub ready : put_when window block now ≡ when.Now
  pub oldest : (other : ℕ) → IsDueBlock geometry settings past now other → put_when window other now ≡ when.Now
      → dirty_since geometry.block_size nothing_found past block ≤ dirty_since geometry.block_size nothing_found past other
  pub lowest : (other : ℕ) → IsDueBlock geometry settings past now other → put_when window other now ≡ when.Now
      → dirty_since geometry.block_size nothing_found past other ≡ dirty_since geometry.block_size nothing_found past block
      → block ≤ other

-- one of them may be put
abbrev pub HasDue : Geometry → Settings → List Entry → WindowState → ℕ → Type 0
HasDue geometry settings past window now =
    (block : ℕ) × IsDueBlock geometry settings past now block × (put_when window block now ≡ when.Now)

-- the block is the victim, and wasn't used for the clean time
abbrev pub IsUnusedVictim : Geometry → Settings → List Entry → ℕ → ℕ → Type 0
IsUnusedVictim geometry settings past now block =
    (victim_of geometry.block_size geometry.blocks nothing_found past ≡ Some block)
    × IsUnused settings nothing_found past now block

-- a worker has something to do
abbrev pub HasWork : Geometry → Settings → List Entry → WindowState → ℕ → Type 0
HasWork geometry settings past window now =
    HasDue geometry settings past window now ⊎ ((block : ℕ) × IsUnusedVictim geometry settings past now block)

-- what a worker of a disk that isn't closed is told: to put the first due block that may be put, else that the unused
-- victim was dropped, else to rest until one of these can come if nothing else happens
abbrev pub WorksSo : Geometry → Settings → List Entry → WindowState → ℕ → JobStep → Type 0
WorksSo geometry settings past window now job.Closed = ⊥
WorksSo geometry settings past window now (job.Put put) = IsFirstDue geometry settings past window now put.block
WorksSo geometry settings past window now (job.Dropped block) =
    (HasDue geometry settings past window now → ⊥) × IsUnusedVictim geometry settings past now block
WorksSo geometry settings past window now (job.Sleep until) = ComesAt (HasWork geometry settings past window) now until

-- the same by a window that has the puts of the history
pub record WorkCause (geometry : Geometry) (settings : Settings) (past : List Entry) (now : ℕ) (step : JobStep) : Type 0
  where
    pub unclosed : is_closed past ≡ false
    pub window : WindowState
    pub is_window : IsWindowOf geometry settings window
    pub puts : HasPutsOf settings window past
    pub rule : WorksSo geometry settings past window now step

-- why a worker is told so: there is nothing more to do just where the disk was closed
abbrev pub JobCause : Geometry → Settings → List Entry → ℕ → JobStep → Type 0
JobCause geometry settings past now job.Closed = is_closed past ≡ true
JobCause geometry settings past now (job.Put put) = WorkCause geometry settings past now (job.Put put)
JobCause geometry settings past now (job.Dropped block) = WorkCause geometry settings past now (job.Dropped block)
JobCause geometry settings past now (job.Sleep until) = WorkCause geometry settings past now (job.Sleep until)

abbrev pub JobsHaveCauses : Type 0
JobsHaveCauses =
    (core : Core) (past : List Entry) (now : ℕ) (step : JobStep) → StandsFor core past → AnswersJob core now step
    → JobCause core.geometry core.settings past now step
