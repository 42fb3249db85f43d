-- What the core's answer to a question means for the one who asked: a GET begins at the reading of the event, and what
-- is waited for is ahead.
use Rattle.std.proofs.Common.{ℕ, ◌≡◌, ◌<◌, max, Option, sym, ap, arith}
use Rattle.sb_base.specs.declared.line.Why.{Why}
use Rattle.sb_base.specs.declared.entry.Entry.{Entry}
use Rattle.sb_base.specs.declared.entry.EntryKind.TheVariants as kind
use Rattle.sb_core.specs.declared.machine.Core.{Core}
use Rattle.sb_core.specs.declared.job.GetJob.{GetJob}
use Rattle.sb_core.specs.Leads.{IsUntil, WaitsForWindow}
use Rattle.sb_crew.specs.Turns.{get_begun}

-- the entry of the begin of a GET, by the reading of its event
pub begun_entry : (job : GetJob) (reading : ℕ) → job.begun ≡ reading
    → ◌≡◌ {A = Entry}
    (record { pass = 1; reading = reading; kind = kind.GetBegin job.block job.expect job.verify }) (get_begun job)
begun_entry job reading is =
    ap (λ (n : ℕ). record { pass = 1; reading = n; kind = kind.GetBegin job.block job.expect job.verify }) (sym is)

-- what is waited for is ahead of the reading that was taken for the event
pub ahead : {mark : Option ℕ} {old new : Core} {why : Why} (now reading : ℕ) → WaitsForWindow mark old new why → reading ≡ new.reading
    → reading ≡ max now old.reading → (until : ℕ) × IsUntil until why × (now < until)
ahead now reading waits current is = (waits.until, waits.reason, omega (arith, waits.ahead, current, is))
