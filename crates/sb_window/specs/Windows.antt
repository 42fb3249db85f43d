-- The MD5 window: when a put may begin, and which digest a GET has to show.
use Rattle.std.specs.Prelude.{ℕ, ◌≤◌, ◌+◌, ◌^◌, Bool, true, false, ◌&&◌, nat_eq, nat_lt, if◌then◌else◌, List, Option}
use Rattle.std.specs.Prelude.{Some, None, refl}
use Rattle.std.specs.Coded.{Coded, code_by, coded×, coded_ℕ}
use Rattle.std.specs.FinMap.{get, len, entries, insert, empty}
use Rattle.sb_base.specs.declared.line.Expect.{Expect}
use Rattle.sb_base.specs.declared.settings.Settings.{Settings}
use Rattle.sb_window.specs.declared.last_put.Ending.{Ending}
use Rattle.sb_window.specs.declared.last_put.LastPut.{LastPut}
use Rattle.sb_window.specs.declared.window.PutWhen.{PutWhen}
use Rattle.sb_window.specs.declared.window.PutWhen.TheVariants.{Now, Busy, At, Full}
use Rattle.sb_window.specs.LastPuts.{LastPuts, is_end_kept, kept_puts, earliest_end, AllEndBy}
use Rattle.sb_window.specs.Tables.{Table, puts_code}

-- the settings of a window, the greatest reading that it was given, and the last puts that it has
pub record WindowState : Type 0 where
  pub min_write_delay : ℕ
  pub md5_time : ℕ
  pub md5_size : ℕ
  pub reading : ℕ
  pub puts : LastPuts

-- a window of these settings, at a reading, with what its table has
abbrev pub window_of : ℕ → ℕ → ℕ → Table → WindowState
window_of delay time reading table = record {
  min_write_delay = delay;
  md5_time = time;
  md5_size = table.room;
  reading = reading;
  puts = table.puts;
}

-- what is true of a window's reading and puts
pub record IsWindow (reading : ℕ) (table : Table) : Type 0 where
  pub limit : reading ≤ 2 ^ 62
  pub fits : len table.puts ≤ table.room
  pub ends : AllEndBy reading (entries table.puts)

-- a window is stored as the tuple of its parts
abbrev pub window_code : Coded WindowState
window_code =
    code_by (ℕ × (ℕ × (ℕ × (ℕ × LastPuts))))
    (coded× coded_ℕ (coded× coded_ℕ (coded× coded_ℕ (coded× coded_ℕ puts_code))))
    (λ w. (w.min_write_delay, (w.md5_time, (w.md5_size, (w.reading, w.puts)))))
    (λ p. record { min_write_delay = p.0; md5_time = p.1.0; md5_size = p.1.1.0; reading = p.1.1.1.0; puts = p.1.1.1.1 })
    (λ _. refl)

-- the window of a disk that was put nothing
abbrev pub new_window : Settings → WindowState
new_window settings = record {
  min_write_delay = settings.min_write_delay;
  md5_time = settings.md5_time;
  md5_size = settings.md5_size;
  reading = 0;
  puts = empty;
}

-- once the spacing is over
abbrev pub when_spaced : ℕ → ℕ → PutWhen
when_spaced until now = if nat_lt now until then At until else Now

-- after an open put once it has ended, and after an ended one, ok or not, once the spacing since its end is over
abbrev pub when_after : WindowState → ℕ → Option Ending → PutWhen
when_after window now None = Busy
when_after window now (Some ending) = when_spaced (ending.reading + window.min_write_delay) now

-- where there is no room: once the put that ended first is past its time
abbrev pub when_full : ℕ → Option ℕ → PutWhen
when_full time None = Busy
when_full time (Some end) = Full (end + time)

-- a block without an entry: at once, where those that are kept leave room
abbrev pub when_new : WindowState → ℕ → PutWhen
when_new window now =
    let kept = kept_puts window.md5_time now window.puts in
    if nat_lt (len kept) window.md5_size then Now else when_full window.md5_time (earliest_end (entries kept))

abbrev pub when_by : WindowState → ℕ → Option LastPut → PutWhen
when_by window now None = when_new window now
when_by window now (Some put) = when_after window now put.ending

-- when a put of a block may begin; at once where the window is off
abbrev pub put_when : WindowState → ℕ → ℕ → PutWhen
put_when window block now =
    if nat_eq window.md5_size 0 then Now else when_by window now (get window.puts block)

-- the window with other puts at a reading
abbrev pub with_puts : WindowState → ℕ → LastPuts → WindowState
with_puts window now puts = record window { reading = now; puts = puts }

-- after the puts that are past their time were given up
abbrev pub purged : WindowState → ℕ → WindowState
purged window now = with_puts window now (kept_puts window.md5_time now window.puts)

-- after a put of a block began: it is the block's last one. A window that is off has none
abbrev pub begun : WindowState → ℕ → ℕ → WindowState
begun window block now =
    let kept = kept_puts window.md5_time now window.puts in
    with_puts window now
    (if nat_eq window.md5_size 0 then kept else insert kept block (record { ending = None }))

abbrev pub has_no_ending : Option Ending → Bool
has_no_ending None = true
has_no_ending (Some ending) = false

-- the put is begun and not ended
abbrev pub is_open : Option LastPut → Bool
is_open None = false
is_open (Some put) = has_no_ending put.ending

-- the last puts after that of the block ended
abbrev pub puts_ended : LastPuts → ℕ → Ending → Option LastPut → LastPuts
puts_ended puts block ending None = puts
puts_ended puts block ending (Some put) = insert puts block (record { ending = Some ending })

-- after the put of a block ended, ok or not, with a content of this digest
abbrev pub ended : WindowState → ℕ → ℕ → Bool → List ℕ → WindowState
ended window block now ok digest =
    with_puts window now
    (puts_ended window.puts block (record { reading = now; ok = ok; digest = digest }) (get window.puts block))

-- the digest of a put that ended so, if it ended ok and is kept
abbrev pub expected_after : ℕ → ℕ → Option Ending → Option Expect
expected_after time now None = None
expected_after time now (Some ending) =
    if ending.ok && is_end_kept time now (Some ending.reading)
    then Some (record { digest = ending.digest; since = ending.reading }) else None

abbrev pub expected_by : ℕ → ℕ → Option LastPut → Option Expect
expected_by time now None = None
expected_by time now (Some put) = expected_after time now put.ending

-- the digest that a GET of a block has to show, and since when: that of its last put, where that ended ok and is kept
abbrev pub expected : WindowState → ℕ → ℕ → Option Expect
expected window block now = expected_by window.md5_time now (get window.puts block)
