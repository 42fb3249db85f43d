-- What begins with an answer to a worker, and where a worker is told to stop.
use Rattle.std.proofs.Common.{ℕ, ◌≡◌, Bool, true, false, List, ◌∷◌, sym, ◌∙◌, subst}
use Rattle.sb_base.specs.declared.entry.Entry.{Entry}
use Rattle.sb_core.specs.declared.machine.Core.{Core}
use Rattle.sb_core.specs.declared.step.JobStep.{JobStep}
use Rattle.sb_core.specs.declared.step.JobStep.TheVariants as job
use Rattle.sb_core.specs.Cores.{closed_of, last_mark_of}
use Rattle.sb_core.specs.Jobs.{job_kind, JobRule, AnswersJob, CopiesJob, JobOpens}
use Rattle.sb_core.specs.Standing.{is_closed, StandsFor}
use Rattle.sb_crew.specs.Working.{JobBegins, StopsClosed}
use Rattle.sb_crew.specs.Runs.{IsPutOf}
use Rattle.sb_crew.proofs.Turning.{put_newest}
use Rattle.sb_crew.proofs.SharedTurns.{put_opened}

-- what has begun with an answer, in the history that the core stands for then
pub job_begins : {core : Core} {past : List Entry} (old : Core) (n : ℕ) (room : List ℕ) (step : JobStep)
    (of reading : ℕ) (before : List Entry)
    → past ≡ record { pass = of; reading = reading; kind = job_kind room step } ∷ before
    → StandsFor core past → JobOpens core n step → CopiesJob old room step → JobBegins past n room step
job_begins old n room job.Closed of reading before heads stands opens copies = tt
job_begins old n room (job.Put put) of reading before heads stands opens copies = (
  put_opened n put stands opens,
  copies.zeros,
  subst (IsPutOf put.block room) (sym heads) (put_newest of reading put.block room before),
)
job_begins old n room (job.Dropped block) of reading before heads stands opens copies = tt
job_begins old n room (job.Sleep until) of reading before heads stands opens copies = tt

-- a worker is told to stop just where the disk is closed
stops_by : (old : Core) (now : ℕ) (closed : Bool) (past : List Entry) (step : JobStep) → closed ≡ is_closed past
    → JobRule old.window old.settings (last_mark_of old) old.blocks.cached now closed step → StopsClosed past step
stops_by old now true past step is rule = subst (StopsClosed past) (sym rule) (sym is)
stops_by old now false past job.Closed is rule = absurd rule
stops_by old now false past (job.Put put) is rule = sym is
stops_by old now false past (job.Dropped block) is rule = sym is
stops_by old now false past (job.Sleep until) is rule = sym is

pub stops_closed : {past : List Entry} (old core : Core) (now : ℕ) (step : JobStep) → StandsFor core past
    → closed_of core ≡ closed_of old → AnswersJob old now step → StopsClosed past step
stops_closed {past} old core now step stands keeps answers =
    stops_by old now (closed_of old) past step (sym keeps ∙ stands.closed) answers
