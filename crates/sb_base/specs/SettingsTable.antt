-- Which settings a disk may have.
use Rattle.std.specs.Prelude.{ℕ, ◌≡◌, ◌≢◌, ◌<◌, ◌≤◌, Bool, ◌||◌, ◌&&◌, not, nat_eq, nat_lt, if◌then◌else◌, Option, Some}
use Rattle.std.specs.Prelude.{None, IfSome, Result, Ok, Err}
use Rattle.sb_base.specs.declared.settings.Settings.{Settings}
use Rattle.sb_base.specs.declared.settings.SettingsFault.{SettingsFault}
use Rattle.sb_base.specs.declared.settings.SettingsFault.TheVariants.{TimesWithoutWindow, WindowSize, WindowShort}
use Rattle.sb_base.specs.declared.settings.SettingsFault.TheVariants.{WindowSmall, CacheSize, MaxDirty, StaleLimit}
use Rattle.sb_base.specs.declared.settings.SettingsFault.TheVariants.{ReadAhead, Threads, Clients}

-- settings for a disk of so many blocks, where they are known
pub record IsChecked (settings : Settings) (blocks : Option ℕ) : Type 0 where
  -- without a window nothing is spaced and no MD5 is kept
  pub times : settings.md5_size ≡ 0 → (settings.min_write_delay ≡ 0) × (settings.md5_time ≡ 0)
  pub window_size : settings.md5_size ≤ 1048576
  -- an MD5 is kept as long as puts are spaced
  pub window_long : settings.md5_time ≢ 0 → settings.min_write_delay ≤ settings.md5_time
  -- where an MD5 is kept for ever the window holds each block
  pub window_holds : settings.md5_size ≢ 0 → settings.md5_time ≡ 0 → IfSome blocks (λ known. known ≤ settings.md5_size)
  pub cache_size : (0 < settings.cache_size) × (settings.cache_size ≤ 1048576)
  pub max_dirty : settings.max_dirty ≤ settings.cache_size
  pub stale_limit : settings.stale_limit ≤ 3600000
  pub read_ahead : settings.read_ahead ≤ 1024
  pub threads : (0 < settings.threads) × (settings.threads ≤ 64)
  pub clients : (0 < settings.clients) × (settings.clients ≤ 16)

-- not from 1 to a limit
abbrev pub is_outside : ℕ → ℕ → Bool
is_outside limit number = nat_eq number 0 || nat_lt limit number

-- the first fault of the cache and of the numbers behind it
abbrev pub numbers_check : Settings → Result Unit SettingsFault
numbers_check settings =
    if is_outside 1048576 settings.cache_size then Err (CacheSize settings.cache_size)
    else if nat_lt settings.cache_size settings.max_dirty then Err (MaxDirty settings.max_dirty settings.cache_size)
    else if nat_lt 3600000 settings.stale_limit then Err (StaleLimit settings.stale_limit)
    else if nat_lt 1024 settings.read_ahead then Err (ReadAhead settings.read_ahead)
    else if is_outside 64 settings.threads then Err (Threads settings.threads)
    else if is_outside 16 settings.clients then Err (Clients settings.clients)
    else Ok tt

-- the blocks for which a window that keeps each MD5 for ever is too small, where they are known
abbrev pub uncovered_blocks : Settings → Option ℕ → Option ℕ
uncovered_blocks settings None = None
uncovered_blocks settings (Some blocks) =
    if (nat_lt 0 settings.md5_size && nat_eq settings.md5_time 0) && nat_lt settings.md5_size blocks
    then Some blocks else None

-- a window that is too small for these blocks, else what follows
abbrev pub unless_small : ℕ → Option ℕ → Result Unit SettingsFault → Result Unit SettingsFault
unless_small md5_size None following = following
unless_small md5_size (Some blocks) following = Err (WindowSmall md5_size blocks)

-- the answer of a check: the first fault, in the order of the table
abbrev pub check_of : Settings → Option ℕ → Result Unit SettingsFault
check_of settings blocks =
    if nat_eq settings.md5_size 0 && not (nat_eq settings.min_write_delay 0 && nat_eq settings.md5_time 0)
    then Err (TimesWithoutWindow settings.min_write_delay settings.md5_time)
    else if nat_lt 1048576 settings.md5_size then Err (WindowSize settings.md5_size)
    else if not (nat_eq settings.md5_time 0) && nat_lt settings.md5_time settings.min_write_delay
    then Err (WindowShort settings.md5_time settings.min_write_delay)
    else unless_small settings.md5_size (uncovered_blocks settings blocks) (numbers_check settings)
