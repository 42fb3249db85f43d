-- How a core under a lock goes from the history that it stands for to the next.
use Rattle.std.proofs.Common.{ℕ, zero, suc, ◌≡◌, ◌<◌, ◌==◌, Bool, true, false, if◌then◌else◌, List, [], ◌∷◌, Option, Some}
use Rattle.std.proofs.Common.{None, IsSome, refl, sym, ◌∙◌, ap, arith}
use Rattle.std.proofs.lemmas.Bool.Decides.{nat_tests}
use Rattle.sb_base.specs.declared.part.Part.{Part}
use Rattle.sb_base.specs.declared.entry.Shown.{Shown}
use Rattle.sb_base.specs.declared.entry.Entry.{Entry}
use Rattle.sb_base.specs.declared.entry.EntryKind.{EntryKind}
use Rattle.sb_base.specs.declared.entry.EntryKind.TheVariants.{KnownZero}
use Rattle.sb_history.specs.Flushes.{flush_place}
use Rattle.sb_turn.specs.Histories.{entries_of_pass}
use Rattle.sb_core.specs.declared.machine.Core.{Core}
use Rattle.sb_core.specs.declared.job.GetJob.{GetJob}
use Rattle.sb_core.specs.declared.job.PutJob.{PutJob}
use Rattle.sb_core.specs.declared.step.ReadStep.{ReadStep}
use Rattle.sb_core.specs.declared.step.ReadStep.TheVariants as read
use Rattle.sb_core.specs.declared.step.WriteStep.{WriteStep}
use Rattle.sb_core.specs.declared.step.WriteStep.TheVariants as write
use Rattle.sb_core.specs.declared.step.FlushStep.{FlushStep}
use Rattle.sb_core.specs.declared.step.FlushStep.TheVariants as flush
use Rattle.sb_core.specs.declared.step.GetDone.{GetDone}
use Rattle.sb_core.specs.Opening.{known_entry, opening}
use Rattle.sb_core.specs.Cores.{marks_of, closed_of, last_mark_of, Represents, Adds, AddsAfterPut, AddsAfterFlush, KeepsSignals}
use Rattle.sb_core.specs.PutWindow.{IsPutDigest}
use Rattle.sb_core.specs.Steps.{read_kind, read_entry, get_end_entry, put_end_entry}
use Rattle.sb_core.specs.Writing.{write_kind, write_entry}
use Rattle.sb_core.specs.Flushing.{flush_begin_entry, flush_kind, flush_step_entry}
use Rattle.sb_core.specs.declared.step.JobStep.{JobStep}
use Rattle.sb_core.specs.declared.step.JobStep.TheVariants as job
use Rattle.sb_core.specs.Jobs.{closing_entry, job_kind, job_entry}
use Rattle.sb_core.specs.Standing.{entries_in, timed, closed_after, is_closed, last_mark_after, last_mark_in, StandsFor}
use Rattle.sb_core.specs.Standing.{timed_opening, opening_of, AddsByMark, Signals}

-- the opening list of a lock is that of the disk
pub opening_entries : (marks : ℕ → Bool) (n : ℕ) → entries_in (timed_opening marks n) ≡ opening marks n
opening_entries marks zero = refl
opening_entries marks (suc n) = by (marks n) (opening_entries marks n) where
  by : (t : Bool) → entries_in (timed_opening marks n) ≡ opening marks n
      → entries_in (if t then (0, timed 0 (KnownZero n)) ∷ timed_opening marks n else timed_opening marks n)
      ≡ (if t then known_entry n ∷ opening marks n else opening marks n)
  by true below = ap (λ es. known_entry n ∷ es) below
  by false below = below

-- no pass but 0 has an entry in it
pub opens_by_no_pass : (marks : ℕ → Bool) (n pass : ℕ) → 0 < pass → entries_of_pass pass (timed_opening marks n) ≡ []
opens_by_no_pass marks zero pass some = refl
opens_by_no_pass marks (suc n) pass some = by (marks n) (opens_by_no_pass marks n pass some) where
  other : (0 == pass) ≡ false
  other = grind (arith, nat_tests)

  by : (t : Bool) → entries_of_pass pass (timed_opening marks n) ≡ []
      → entries_of_pass pass
      (if t then (0, timed 0 (KnownZero n)) ∷ timed_opening marks n else timed_opening marks n) ≡ []
  by true below =
      ap (λ t. if t then (0, timed 0 (KnownZero n)) ∷ entries_of_pass pass (timed_opening marks n)
      else entries_of_pass pass (timed_opening marks n)) other ∙ below
  by false below = below

-- it is of a disk that isn't closed, and in which no flush has begun
pub opening_unclosed : (marks : ℕ → Bool) (n : ℕ) → is_closed (opening marks n) ≡ false
opening_unclosed marks zero = refl
opening_unclosed marks (suc n) = by (marks n) (opening_unclosed marks n) where
  by : (t : Bool) → is_closed (opening marks n) ≡ false
      → is_closed (if t then known_entry n ∷ opening marks n else opening marks n) ≡ false
  by true below = below
  by false below = below

pub opening_unflushed : (marks : ℕ → Bool) (n : ℕ) → last_mark_in (opening marks n) ≡ None
opening_unflushed marks zero = refl
opening_unflushed marks (suc n) = by (marks n) (opening_unflushed marks n) where
  by : (t : Bool) → last_mark_in (opening marks n) ≡ None
      → last_mark_in (if t then known_entry n ∷ opening marks n else opening marks n) ≡ None
  by true below = below
  by false below = below

-- a core to which nothing has happened stands for its opening list
pub new_stands : (core : Core) → closed_of core ≡ false → last_mark_of core ≡ None
    → Represents core (opening (marks_of core) core.geometry.blocks) → StandsFor core (entries_in (opening_of core))
new_stands core closed mark represents =
    rw (opening_entries (marks_of core) core.geometry.blocks)
    (record {
      represents = represents;
      closed = closed ∙ sym (opening_unclosed (marks_of core) core.geometry.blocks);
      last_mark = mark ∙ sym (opening_unflushed (marks_of core) core.geometry.blocks);
    })

-- what an event adds to a history that a core represents, it adds to one that the core stands for
pub stands_after : (old new : Core) (past : List Entry) (entry : Entry) → Signals old new entry.kind
    → Represents new (entry ∷ past) → StandsFor old past → StandsFor new (entry ∷ past)
stands_after old new past entry signals represents stands = record {
  represents = represents;
  closed = signals.closed ∙ ap (closed_after entry.kind) stands.closed;
  last_mark = signals.last_mark ∙ ap (last_mark_after entry.kind) stands.last_mark;
}

-- the same of the entries of each event but a close and the begin of a flush, which leave that as it is
quiet : (old new : Core) (k : EntryKind) → KeepsSignals old new
    → ((before : Bool) → closed_after k before ≡ before) → ((before : Option ℕ) → last_mark_after k before ≡ before)
    → Signals old new k
quiet old new k keeps closes marks = record {
  closed = keeps.closed ∙ sym (closes (closed_of old));
  last_mark = keeps.last_mark ∙ sym (marks (last_mark_of old));
}

-- an event adds this entry to every history that a core stood for
abbrev pub StandsOn : Core → Core → Entry → Type 0
StandsOn old new entry = (past : List Entry) → StandsFor old past → StandsFor new (entry ∷ past)

pub read_stands : (old new : Core) (pass reading : ℕ) (part : Part) (out space : List ℕ) (step : ReadStep)
    → KeepsSignals old new → Adds old new (read_entry pass reading part out space step)
    → StandsOn old new (read_entry pass reading part out space step)
read_stands old new pass reading part out space step keeps adds past stands =
    stands_after old new past (read_entry pass reading part out space step)
    (quiet old new (read_kind part out space step) keeps (closes step) (marks step)) (adds past stands.represents) stands
  where
    closes : (of : ReadStep) (before : Bool) → closed_after (read_kind part out space of) before ≡ before
    closes read.Done before = refl
    closes (read.Wait why) before = refl
    closes (read.Get job) before = refl
    closes (read.Dropped block) before = refl
    closes (read.Put job) before = refl

    marks : (of : ReadStep) (before : Option ℕ) → last_mark_after (read_kind part out space of) before ≡ before
    marks read.Done before = refl
    marks (read.Wait why) before = refl
    marks (read.Get job) before = refl
    marks (read.Dropped block) before = refl
    marks (read.Put job) before = refl

pub write_stands : (old new : Core) (pass reading : ℕ) (part : Part) (bytes out : List ℕ) (step : WriteStep)
    → KeepsSignals old new → Adds old new (write_entry pass reading part bytes out step)
    → StandsOn old new (write_entry pass reading part bytes out step)
write_stands old new pass reading part bytes out step keeps adds past stands =
    stands_after old new past (write_entry pass reading part bytes out step)
    (quiet old new (write_kind part bytes out step) keeps (closes step) (marks step)) (adds past stands.represents) stands
  where
    closes : (of : WriteStep) (before : Bool) → closed_after (write_kind part bytes out of) before ≡ before
    closes (write.Done dirtied) before = refl
    closes (write.Wait why) before = refl
    closes (write.Get job) before = refl
    closes (write.Dropped block) before = refl
    closes (write.Put job) before = refl

    marks : (of : WriteStep) (before : Option ℕ) → last_mark_after (write_kind part bytes out of) before ≡ before
    marks (write.Done dirtied) before = refl
    marks (write.Wait why) before = refl
    marks (write.Get job) before = refl
    marks (write.Dropped block) before = refl
    marks (write.Put job) before = refl

pub get_end_stands : (old new : Core) (pass reading : ℕ) (job : GetJob) (answer : Shown) (outcome : GetDone)
    → KeepsSignals old new → Adds old new (get_end_entry pass reading job answer outcome)
    → StandsOn old new (get_end_entry pass reading job answer outcome)
get_end_stands old new pass reading job answer outcome keeps adds past stands =
    stands_after old new past (get_end_entry pass reading job answer outcome)
    (record { closed = keeps.closed; last_mark = keeps.last_mark }) (adds past stands.represents) stands

-- a PUT ends where the digest is that of its content
pub put_end_stands : (old new : Core) (pass reading : ℕ) (job : PutJob) (ok : Bool) (digest : List ℕ)
    → KeepsSignals old new → AddsAfterPut digest job.block old new (put_end_entry pass reading job ok)
    → (past : List Entry) → IsPutDigest old.settings past job.block digest → StandsFor old past
    → StandsFor new (put_end_entry pass reading job ok ∷ past)
put_end_stands old new pass reading job ok digest keeps adds past is stands =
    stands_after old new past (put_end_entry pass reading job ok)
    (record { closed = keeps.closed; last_mark = keeps.last_mark }) (adds past is stands.represents) stands

-- a step of a flush goes on where the flush has begun
pub flush_step_stands : (old new : Core) (pass reading mark : ℕ) (out : List ℕ) (step : FlushStep)
    → KeepsSignals old new → AddsAfterFlush mark old new (flush_step_entry pass reading mark out step)
    → (past : List Entry) → IsSome (flush_place past mark) → StandsFor old past
    → StandsFor new (flush_step_entry pass reading mark out step ∷ past)
flush_step_stands old new pass reading mark out step keeps adds past began stands =
    stands_after old new past (flush_step_entry pass reading mark out step)
    (quiet old new (flush_kind mark out step) keeps (closes step) (marks step)) (adds past began stands.represents)
    stands
  where
    closes : (of : FlushStep) (before : Bool) → closed_after (flush_kind mark out of) before ≡ before
    closes flush.Done before = refl
    closes (flush.Wait why) before = refl
    closes (flush.Put job) before = refl

    marks : (of : FlushStep) (before : Option ℕ) → last_mark_after (flush_kind mark out of) before ≡ before
    marks flush.Done before = refl
    marks (flush.Wait why) before = refl
    marks (flush.Put job) before = refl

-- the begin of a flush makes its mark the last one
pub flush_begin_stands : (old new : Core) (pass reading mark : ℕ) → closed_of new ≡ closed_of old
    → last_mark_of new ≡ Some mark → Adds old new (flush_begin_entry pass reading mark)
    → StandsOn old new (flush_begin_entry pass reading mark)
flush_begin_stands old new pass reading mark closed is adds past stands =
    stands_after old new past (flush_begin_entry pass reading mark) (record { closed = closed; last_mark = is })
    (adds past stands.represents) stands

-- a close closes
pub close_stands : (old new : Core) (pass reading : ℕ) → closed_of new ≡ true → last_mark_of new ≡ last_mark_of old
    → Adds old new (closing_entry pass reading) → StandsOn old new (closing_entry pass reading)
close_stands old new pass reading closed is adds past stands =
    stands_after old new past (closing_entry pass reading) (record { closed = closed; last_mark = is })
    (adds past stands.represents) stands

-- what a worker is told
pub next_job_stands : (old new : Core) (pass reading : ℕ) (out : List ℕ) (step : JobStep) → KeepsSignals old new
    → AddsByMark old new (job_entry pass reading out step) → StandsOn old new (job_entry pass reading out step)
next_job_stands old new pass reading out step keeps adds past stands =
    stands_after old new past (job_entry pass reading out step)
    (quiet old new (job_kind out step) keeps (closes step) (marks step)) (adds past stands.last_mark stands.represents)
    stands
  where
    closes : (of : JobStep) (before : Bool) → closed_after (job_kind out of) before ≡ before
    closes job.Closed before = refl
    closes (job.Put put) before = refl
    closes (job.Dropped block) before = refl
    closes (job.Sleep until) before = refl

    marks : (of : JobStep) (before : Option ℕ) → last_mark_after (job_kind out of) before ≡ before
    marks job.Closed before = refl
    marks (job.Put put) before = refl
    marks (job.Dropped block) before = refl
    marks (job.Sleep until) before = refl
