-- The MD5 window and the spacing of puts, and when they cover the delays of a store.
use Rattle.std.specs.Prelude.{ℕ, ◌≡◌, ◌≢◌, ◌+◌, ◌≤◌, ◌⊎◌, Bool, true, false, ◌&&◌, ◌||◌, nat_eq, nat_lt, if◌then◌else◌}
use Rattle.std.specs.Prelude.{List, [], ◌∷◌, Option, Some, None}
use Rattle.md5.specs.Md5.{md5}
use Rattle.sb_base.specs.declared.settings.Settings.{Settings}
use Rattle.sb_base.specs.declared.line.Expect.{Expect}
use Rattle.sb_base.specs.declared.entry.Shown.{Shown}
use Rattle.sb_base.specs.declared.entry.Shown.TheVariants as shown
use Rattle.sb_base.specs.declared.entry.Entry.{Entry}
use Rattle.sb_history.specs.Contents.{zeros}
use Rattle.sb_history.specs.Puts.{Ending, Put, puts_of}
use Rattle.sb_history.specs.Visibility.{Delays}
use Rattle.sb_history.specs.Eviction.{count}

-- the settings cover the delays: puts of a block are spaced by the one, MD5s are kept for the other, and without a
-- window nothing is stale
pub record CoversDelays (settings : Settings) (delays : Delays) : Type 0 where
  pub spacing : delays.order ≤ settings.min_write_delay
  pub window : (settings.md5_time ≡ 0) ⊎ (delays.show ≤ settings.md5_time)
  pub off : settings.md5_size ≡ 0 → delays.show ≡ 0

-- at a reading, what ended then is still in the window: for md5_time, and for ever where that is 0
abbrev pub is_in_time : Settings → ℕ → ℕ → Bool
is_in_time settings reading since = nat_eq settings.md5_time 0 || nat_lt reading (since + settings.md5_time)

-- a put of this end takes an entry of the window: while it is open, and after that in time
abbrev pub ending_counts : Settings → ℕ → Option Ending → Bool
ending_counts settings reading None = true
ending_counts settings reading (Some ending) = is_in_time settings reading ending.reading

-- the newest of these puts takes an entry of the window
abbrev pub put_counts : Settings → ℕ → List Put → Bool
put_counts settings reading [] = false
put_counts settings reading (put ∷ puts) = ending_counts settings reading put.ending

-- the digest that a GET has to show after a put of this content and end
abbrev pub expected_ending : Settings → ℕ → List ℕ → Option Ending → Option Expect
expected_ending settings reading content None = None
expected_ending settings reading content (Some ending) =
    if (nat_lt 0 settings.md5_size && ending.ok) && is_in_time settings reading ending.reading
    then Some (record { digest = md5 content; since = ending.reading }) else None

-- the digest that a GET has to show: that of the newest put, where the window is on, that put ended ok and is in time
abbrev pub expected : Settings → ℕ → List Put → Option Expect
expected settings reading [] = None
expected settings reading (put ∷ puts) = expected_ending settings reading put.content put.ending

-- the digest that an answer has
abbrev pub answer_digest : ℕ → Option (List ℕ) → Shown → Option (List ℕ)
answer_digest block_size verify shown.Absent = Some (md5 (zeros block_size))
answer_digest block_size verify (shown.Bytes bytes) = Some (md5 bytes)
answer_digest block_size verify shown.Same = verify
answer_digest block_size verify shown.Failed = None

-- the spacing is over since this end
abbrev pub SpacedFromEnding : ℕ → ℕ → Option Ending → Type 0
SpacedFromEnding spacing reading None = ⊥
SpacedFromEnding spacing reading (Some ending) = ending.reading + spacing ≤ reading

-- the spacing is over since the end of the newest put, ok or not
abbrev pub SpacedFrom : ℕ → ℕ → List Put → Type 0
SpacedFrom spacing reading [] = Unit {0}
SpacedFrom spacing reading (put ∷ puts) = SpacedFromEnding spacing reading put.ending

-- the window, where it is on, has room for a put of the block
abbrev pub HasRoom : ℕ → Settings → List Entry → ℕ → ℕ → Type 0
HasRoom blocks settings past reading block =
    settings.md5_size ≢ 0
    → count (λ other. nat_eq other block || put_counts settings reading (puts_of past other)) blocks ≤ settings.md5_size
