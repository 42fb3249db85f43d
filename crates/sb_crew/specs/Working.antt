-- What a worker of a disk that has many callers did. Entries, calls of the link and ticks are newest first.
use Rattle.std.specs.Prelude.{ℕ, ◌≡◌, true, false, List, [], ◌∷◌}
use Rattle.sb_turn.specs.declared.stands.Stands.{Ghosts}
use Rattle.sb_base.specs.declared.entry.Entry.{Entry}
use Rattle.sb_base.specs.declared.entry.EntryKind.TheVariants as kind
use Rattle.sb_core.specs.declared.machine.Core.{Core}
use Rattle.sb_core.specs.declared.standing.Timed.{Timed}
use Rattle.sb_core.specs.declared.standing.Fixed.{Fixed}
use Rattle.sb_core.specs.declared.step.JobStep.{JobStep}
use Rattle.sb_core.specs.declared.step.JobStep.TheVariants as job
use Rattle.sb_core.specs.Standing.{is_closed}
use Rattle.sb_crew.specs.declared.disk.Disk.{Disk}
use Rattle.sb_crew.specs.Names.{Naming}
use Rattle.sb_crew.specs.Scenes.{Deed}
use Rattle.sb_crew.specs.Outcomes.{outcomes_of, AsksOnly}
use Rattle.sb_crew.specs.Sharing.{BeginsPut, CallerScene, PassDid, seen_by}

-- what has begun with an answer to a worker
abbrev pub JobBegins : List Entry → ℕ → List ℕ → JobStep → Type 0
JobBegins past pass room job.Closed = Unit {0}
JobBegins past pass room (job.Put put) = BeginsPut past pass room put
JobBegins past pass room (job.Dropped block) = Unit {0}
JobBegins past pass room (job.Sleep until) = Unit {0}

-- a worker is told to stop just where the disk was closed before
abbrev pub StopsClosed : List Entry → JobStep → Type 0
StopsClosed past job.Closed = is_closed past ≡ true
StopsClosed past (job.Put put) = is_closed past ≡ false
StopsClosed past (job.Dropped block) = is_closed past ≡ false
StopsClosed past (job.Sleep until) = is_closed past ≡ false

module _ {g : Ghosts Core Timed Fixed} where
  -- what a worker did so far: it read, wrote and flushed nothing, and asked for no GET
  pub record WorkSoFar (names : Naming) (fixed : Fixed) (a b : CallerScene g) : Type 0 where
    pub deed : Deed
    pub done : PassDid names fixed a b deed
    pub outcomes : outcomes_of deed.entries ≡ []
    pub asks : AsksOnly [] deed.entries

  -- what a worker did until it stopped: its newest entry says so, and the disk was closed then
  pub record PassStopped (names : Naming) (fixed : Fixed) (a b : CallerScene g) : Type 0 where
    pub so_far : WorkSoFar names fixed a b
    pub last : Entry
    pub earlier : List Entry
    pub newest : so_far.deed.entries ≡ last ∷ earlier
    pub is_stopped : last.kind ≡ kind.Stopped
    pub closed : is_closed (seen_by b.pass) ≡ true

  -- what a worker of a disk did
  abbrev pub WorkerStopped : Disk → CallerScene g → CallerScene g → Type 0
  WorkerStopped disk before after = PassStopped disk.names disk.fixed before after
