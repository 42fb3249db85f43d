-- How far a worker's search for the next PUT is.
use Rattle.std.specs.Prelude.{ℕ, ◌≡◌, ◌<◌, ◌≤◌, ◌+◌, ◌^◌, Bool, true, false, ◌||◌, nat_le, nat_eq, if◌then◌else◌, min, max}
use Rattle.std.specs.Prelude.{Option, Some, None}
use Rattle.std.specs.FinMap.{get}
use Rattle.sb_base.specs.declared.settings.Settings.{Settings}
use Rattle.sb_history.specs.Flushes.{last_number}
use Rattle.sb_window.specs.declared.window.PutWhen.{PutWhen}
use Rattle.sb_window.specs.declared.window.PutWhen.TheVariants as when
use Rattle.sb_window.specs.Windows.{WindowState, put_when}
use Rattle.sb_blocks.specs.Cached.{stamp_in, since_in}
use Rattle.sb_blocks.specs.Caches.{CachedBlocks}
use Rattle.sb_core.specs.declared.jobs.Due.{Due}
use Rattle.sb_core.specs.declared.jobs.Due.TheVariants as due
use Rattle.sb_core.specs.Jobs.{is_given, PutsJob, HasPutJob, DropsUnused, HasDropJob, ComesAt}
use Rattle.sb_core.specs.Searches.{IsSeen}

-- a put may begin at once
abbrev pub is_now : PutWhen → Bool
is_now when.Now = true
is_now when.Busy = false
is_now (when.At until) = false
is_now (when.Full until) = false

-- a put may begin at a later reading, if nothing else happens
abbrev pub starts_by : ℕ → PutWhen → Bool
starts_by reading when.Now = true
starts_by reading when.Busy = false
starts_by reading (when.At until) = nat_le until reading
starts_by reading (when.Full until) = nat_le until reading

-- the greatest mark that was given covers a block of this stamp
abbrev pub given_in : Option ℕ → Option ℕ → Bool
given_in given None = false
given_in given (Some stamp) = is_given given stamp

-- the reading from which on a dirty block is due
abbrev pub due_from : Settings → Option ℕ → Bool → Option ℕ → ℕ → ℕ
due_from settings given too_dirty stamp since =
    if given_in given stamp || too_dirty then 0 else min (since + settings.write_delay) last_number

-- the reading from which on a block that is due from then on may be put, or the last number where there is none
abbrev pub from_by : PutWhen → ℕ → ℕ
from_by when.Now reading = reading
from_by when.Busy reading = last_number
from_by (when.At until) reading = max reading until
from_by (when.Full until) reading = max reading until

-- the same of a block, by its stamp and the reading since which it is dirty
abbrev pub put_from : WindowState → Settings → ℕ → Option ℕ → Bool → ℕ → Option ℕ → Option ℕ → ℕ
put_from window settings now given too_dirty block stamp None = last_number
put_from window settings now given too_dirty block stamp (Some since) =
    from_by (put_when window block now) (due_from settings given too_dirty stamp since)

abbrev pub put_from_at : WindowState → Settings → ℕ → Option ℕ → Bool → CachedBlocks → ℕ → ℕ
put_from_at window settings now given too_dirty cached block =
    put_from window settings now given too_dirty block (stamp_in (get cached block)) (since_in (get cached block))

-- of the blocks that were seen none may be put now, and the first may be put then, if any before the last reading
pub record RestsSeen (from : ℕ → ℕ) (now : ℕ) (cached : CachedBlocks) (after : Option (ℕ × ℕ)) (until : ℕ) : Type 0
  where
    pub later : (block : ℕ) → IsSeen cached after block → (now < from block) × (until ≤ from block)
    pub comes : until < 2 ^ 62 → (block : ℕ) × IsSeen cached after block × (from block ≡ until)
    pub limit : until ≤ 2 ^ 62

-- the reading from which on a block that was used last then is unused, or the last number
abbrev pub drop_from : Settings → Option ℕ → ℕ
drop_from settings None = last_number
drop_from settings (Some used) =
    if nat_eq settings.clean_time 0 then last_number else min (used + settings.clean_time) last_number

-- the next PUT of a worker: this one now, or at the earliest then
abbrev pub PutIsDue : WindowState → Settings → Option ℕ → CachedBlocks → ℕ → Due → Type 0
PutIsDue window settings given cached now (due.Now block) = PutsJob window settings given cached now block
PutIsDue window settings given cached now (due.From until) =
    ComesAt (HasPutJob window settings given cached) now until

-- the same of the drop of a block that is unused
abbrev pub DropIsDue : Settings → CachedBlocks → ℕ → Due → Type 0
DropIsDue settings cached now (due.Now block) = DropsUnused settings cached now block
DropIsDue settings cached now (due.From until) = ComesAt (HasDropJob settings cached) now until
