-- Begun and ended puts, and the window that goes with them.
use Rattle.std.specs.Prelude.{ℕ, zero, suc, ◌≡◌, ◌≢◌, ◌<◌, ◌≤◌, ◌+◌, ◌⊎◌, Bool, nat_eq, if◌then◌else◌, List, [], ◌∷◌}
use Rattle.std.specs.Prelude.{Option, Some, None, is_some, IsTrue}
use Rattle.std.specs.FinMap.{get, len}
use Rattle.sb_base.specs.declared.settings.Settings.{Settings}
use Rattle.sb_window.specs.declared.last_put.Ending.{Ending}
use Rattle.sb_window.specs.declared.last_put.LastPut.{LastPut}
use Rattle.sb_window.specs.declared.window.PutWhen.{PutWhen}
use Rattle.sb_window.specs.declared.window.PutWhen.TheVariants.{Now, Busy, At, Full}
use Rattle.sb_window.specs.LastPuts.{if_kept}
use Rattle.sb_window.specs.Windows.{WindowState, new_window, put_when, begun, ended, purged, is_open, expected}
use Rattle.sb_window.specs.Windows.{expected_by}

-- the begin of a put of a block, and its end with its reading, its outcome and its digest
pub data PutEvent : Type 0 where
  Begin : ℕ → PutEvent
  End : ℕ → Ending → PutEvent

-- a put after its end
abbrev pub end_put : Ending → Option LastPut → Option LastPut
end_put ending None = None
end_put ending (Some put) = Some (record { ending = Some ending })

-- the last put of a block, the newest event first
abbrev pub last_put_of : List PutEvent → ℕ → Option LastPut
last_put_of [] block = None
last_put_of (Begin other ∷ past) block =
    if nat_eq other block then Some (record { ending = None }) else last_put_of past block
last_put_of (End other ending ∷ past) block =
    if nat_eq other block then end_put ending (last_put_of past block) else last_put_of past block

-- the window has the last put of each block at least while it is kept, and no other put
pub record Represents (window : WindowState) (past : List PutEvent) : Type 0 where
  pub kept : (block now : ℕ) → window.reading ≤ now
      → if_kept window.md5_time now (get window.puts block) ≡ if_kept window.md5_time now (last_put_of past block)
  pub own : (block : ℕ) → (get window.puts block ≡ None) ⊎ (get window.puts block ≡ last_put_of past block)

-- a new window goes with no event, and each call adds its event
abbrev pub NewRepresents : Type 0
NewRepresents = (settings : Settings) → Represents (new_window settings) []

abbrev pub BeginRepresents : Type 0
BeginRepresents =
    (window : WindowState) (past : List PutEvent) (block now : ℕ) → window.md5_size ≢ 0
    → window.reading ≤ now → Represents window past → Represents (begun window block now) (Begin block ∷ past)

abbrev pub EndRepresents : Type 0
EndRepresents =
    (window : WindowState) (past : List PutEvent) (block now : ℕ) (ok : Bool) (digest : List ℕ)
    → window.reading ≤ now → IsTrue (is_open (get window.puts block)) → Represents window past
    → Represents (ended window block now ok digest)
    (End block (record { reading = now; ok = ok; digest = digest }) ∷ past)

abbrev pub PurgeRepresents : Type 0
PurgeRepresents =
    (window : WindowState) (past : List PutEvent) (now : ℕ) → window.reading ≤ now → Represents window past
    → Represents (purged window now) past

-- a GET has to show the digest of the last put, where that ended ok and is kept
abbrev pub ExpectsTheLastPut : Type 0
ExpectsTheLastPut =
    (window : WindowState) (past : List PutEvent) (block now : ℕ) → window.reading ≤ now → Represents window past
    → expected window block now ≡ expected_by window.md5_time now (last_put_of past block)

-- what a GET has to show stays until that put is past its time, if nothing else happens
abbrev pub ExpectationStays : Type 0
ExpectationStays =
    (window : WindowState) (block now later : ℕ) → now ≤ later
    → (expected window block later ≡ None) ⊎ (expected window block later ≡ expected window block now)

-- the spacing since this end is over
abbrev pub IsOver : ℕ → ℕ → Option Ending → Type 0
IsOver delay now None = ⊥
IsOver delay now (Some ending) = ending.reading + delay ≤ now

-- the last put ended, and the spacing since its end is over, ok or not
abbrev pub IsSpaced : ℕ → ℕ → Option LastPut → Type 0
IsSpaced delay now None = Unit {0}
IsSpaced delay now (Some put) = IsOver delay now put.ending

-- a put that may begin is spaced from the block's last one, where puts are kept as long as they are spaced
abbrev pub PutsAreSpaced : Type 0
PutsAreSpaced =
    (window : WindowState) (past : List PutEvent) (block now : ℕ) → window.md5_size ≢ 0 → window.reading ≤ now
    → (window.md5_time ≢ 0 → window.min_write_delay ≤ window.md5_time) → Represents window past
    → put_when window block now ≡ Now → IsSpaced window.min_write_delay now (last_put_of past block)

-- how many of the first n blocks pass a test
abbrev pub count : (ℕ → Bool) → ℕ → ℕ
count test zero = 0
count test (suc n) = if test n then 1 + count test n else count test n

-- the window has an entry for each block whose last put is kept, and so there are at most as many
abbrev pub PutsFit : Type 0
PutsFit =
    (window : WindowState) (past : List PutEvent) (now blocks : ℕ) → window.reading ≤ now
    → len window.puts ≤ window.md5_size → Represents window past
    → count (λ block. is_some (if_kept window.md5_time now (last_put_of past block))) blocks ≤ window.md5_size

-- what is waited for lies ahead, where puts are not kept for ever
abbrev pub LiesAhead : ℕ → PutWhen → Type 0
LiesAhead now Now = Unit {0}
LiesAhead now Busy = Unit {0}
LiesAhead now (At until) = now < until
LiesAhead now (Full until) = now < until

abbrev pub WaitsLieAhead : Type 0
WaitsLieAhead = (window : WindowState) (block now : ℕ) → window.md5_time ≢ 0 → LiesAhead now (put_when window block now)
