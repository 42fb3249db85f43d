-- From which reading on a dirty block may be put by a worker.
use Rattle.std.proofs.Common.{ℕ, ◌≡◌, ◌<◌, ◌+◌, Bool, true, false, ◌&&◌, ◌||◌, if◌then◌else◌, min, Option, Some, None}
use Rattle.std.proofs.Common.{refl, ap, ◌∙◌, arith}
use Rattle.std.specs.Prelude.{nat_le}
use Rattle.std.proofs.lemmas.Bool.Decides.{nat_tests}
use Rattle.sb_base.specs.declared.settings.Settings.{Settings}
use Rattle.sb_history.specs.Flushes.{last_number}
use Rattle.sb_window.specs.declared.window.PutWhen.{PutWhen}
use Rattle.sb_window.specs.declared.window.PutWhen.TheVariants as when
use Rattle.sb_window.specs.Windows.{WindowState, put_when}
use Rattle.sb_blocks.specs.declared.cached.State.{State}
use Rattle.sb_blocks.specs.declared.cached.State.TheVariants.{Reading, Clean, Dirty, Writing, Writing2}
use Rattle.sb_blocks.specs.declared.cached.Cached.{Cached}
use Rattle.sb_blocks.specs.Cached.{stamp_in, since_in}
use Rattle.sb_blocks.specs.Orders.{rank_of}
use Rattle.sb_core.specs.Rules.{ready_if}
use Rattle.sb_core.specs.Jobs.{is_given, is_due, due_by, job_rank}
use Rattle.sb_core.specs.JobSearches.{is_now, starts_by, due_from, from_by, put_from}

-- a block is due from a reading on
due_since : (due reading : ℕ) (t : Bool) → reading < last_number
    → (nat_le due reading || t) ≡ nat_le (if t then 0 else min due last_number) reading
due_since due reading true below = grind (arith, nat_tests)
due_since due reading false below = grind (arith, nat_tests)

-- it may be put from the later of both on
starts_from : (at : PutWhen) (due reading : ℕ) → reading < last_number
    → (nat_le due reading && starts_by reading at) ≡ nat_le (from_by at due) reading
starts_from when.Now due reading below = grind (arith, nat_tests)
starts_from when.Busy due reading below = grind (arith, nat_tests)
starts_from (when.At until) due reading below = grind (arith, nat_tests)
starts_from (when.Full until) due reading below = grind (arith, nat_tests)

ready_now : (at : PutWhen) (d : Bool) (since : ℕ)
    → ready_if at (if d then Some since else None) ≡ (if d && is_now at then Some since else None)
ready_now when.Now true since = refl
ready_now when.Busy true since = refl
ready_now (when.At until) true since = refl
ready_now (when.Full until) true since = refl
ready_now at false since = refl

-- no rank
abbrev pub no_rank : Option ℕ
no_rank = None

either_none : (t : Bool) → no_rank ≡ (if t then None else None)
either_none true = refl
either_none false = refl

-- the rank of a block at a reading, by what is known before
pub job_rank_is : (window : WindowState) (settings : Settings) (now reading : ℕ) (given : Option ℕ) (too_dirty : Bool)
    (block : ℕ) (found : Option Cached)
    → is_now (put_when window block reading) ≡ starts_by reading (put_when window block now) → reading < last_number
    → rank_of (job_rank window settings reading given too_dirty) block found
    ≡ (if nat_le (put_from window settings now given too_dirty block (stamp_in found) (since_in found)) reading
    then since_in found else None)
job_rank_is window settings now reading given too_dirty block None starts below = either_none _
job_rank_is window settings now reading given too_dirty block (Some entry) starts below = by entry.state where
  dirty : (stamp since : ℕ)
      → ready_if (put_when window block reading)
      (if is_due settings reading given too_dirty stamp since then Some since else None)
      ≡ (if nat_le (from_by (put_when window block now) (due_from settings given too_dirty (Some stamp) since)) reading
      then Some since else None)
  dirty stamp since =
      ready_now (put_when window block reading) (is_due settings reading given too_dirty stamp since) since
      ∙ ap (λ t. if is_due settings reading given too_dirty stamp since && t then Some since else None) starts
      ∙ ap (λ t. if t && starts_by reading (put_when window block now) then Some since else None)
      (due_since (since + settings.write_delay) reading (is_given given stamp || too_dirty) below)
      ∙ ap (λ t. if t then Some since else None)
      (starts_from (put_when window block now) (due_from settings given too_dirty (Some stamp) since) reading below)

  by : (state : State) → ready_if (put_when window block reading) (due_by settings reading given too_dirty state)
      ≡ (if nat_le (put_from window settings now given too_dirty block
      (stamp_in (Some (record entry { state = state }))) (since_in (Some (record entry { state = state })))) reading
      then since_in (Some (record entry { state = state })) else None)
  by (Reading get_) = either_none _
  by Clean = either_none _
  by (Dirty stamp since) = dirty stamp since
  by (Writing put stamp) = either_none _
  by (Writing2 put stamp later since) = either_none _
