-- What a window answers, and that what it keeps fits.
use Rattle.std.proofs.Common.{◌≡◌, ◌≢◌, ℕ, ◌<◌, ◌≤◌, ◌+◌, ◌^◌, Bool, true, false, cond, [], length, Option, Some, None}
use Rattle.std.proofs.Common.{IsTrue, refl, sym, ap, subst, ◌∙◌, arith}
use Rattle.std.specs.Prelude.{IfSome, nat_lt}
use Rattle.std.specs.List.{filter}
use Rattle.std.specs.Ordering.{nat_cmp}
use Rattle.std.specs.Cmp.{nat_cmp_total}
use Rattle.std.specs.FinMap.{FinMap, get, len, entries, insert, contains_key, entries_sorted, entries-from_sorted}
use Rattle.std.specs.FinMap.{len-entries, get-entries, same_entries_map, entries-insert, len-insert, get-insert, empty}
use Rattle.std.specs.FinMap.{len-empty}
use Rattle.std.proofs.lemmas.Bool.Decides.{nat_tests}
use Rattle.sb_window.specs.declared.last_put.LastPut.{LastPut}
use Rattle.sb_window.specs.declared.window.PutWhen.TheVariants.{Now}
use Rattle.sb_window.specs.LastPuts.{LastPuts, end_of, is_end_kept, is_kept, kept_puts, earliest_end, EndBy, AllEndBy}
use Rattle.sb_window.specs.LastPuts.{if_kept}
use Rattle.sb_window.specs.Windows.{WindowState, window_of, IsWindow, put_when, when_new, when_by, when_full, is_open}
use Rattle.sb_window.specs.Tables.{Table}
use Rattle.sb_rows.specs.RowLaws.{entries_rows, no_rows}
use Rattle.sb_rows.specs.RowLaws.{from_true, to_true, sorted_filter, filter_short}
use Rattle.sb_window.proofs.KeptLemmas.{all_kept, fewer_kept, found_goes, found_kept, found_by, filter_by, later_by}
use Rattle.sb_window.proofs.KeptLemmas.{put_by}

pub entries_kept : (time now : ℕ) (puts : LastPuts)
    → entries (kept_puts time now puts) ≡ filter (λ e. is_kept time now e.1) (entries puts)
entries_kept time now puts =
    entries-from_sorted nat_cmp _ (from_true _ (sorted_filter _ (entries puts) (to_true _ (entries_sorted puts))))

len_kept : (time now : ℕ) (puts : LastPuts)
    → len (kept_puts time now puts) ≡ length (filter (λ e. is_kept time now e.1) (entries puts))
len_kept time now puts = len-entries (kept_puts time now puts) ∙ ap length (entries_kept time now puts)

pub kept_short : (time now : ℕ) (puts : LastPuts) → len (kept_puts time now puts) ≤ len puts
kept_short time now puts =
    omega (arith, len_kept time now puts, len-entries puts, filter_short (λ e. is_kept time now e.1) (entries puts))

-- where the earliest end is kept the puts stay
pub kept_same : (time now : ℕ) (puts : LastPuts) → is_end_kept time now (earliest_end (entries puts)) ≡ true
    → kept_puts time now puts ≡ puts
kept_same time now puts h = same_entries_map _ _ (entries_kept time now puts ∙ all_kept time now (entries puts) h)

pub kept_fewer : (time now : ℕ) (puts : LastPuts) → is_end_kept time now (earliest_end (entries puts)) ≡ false
    → len (kept_puts time now puts) < len puts
kept_fewer time now puts h =
    omega (arith, len_kept time now puts, len-entries puts, fewer_kept time now (entries puts) h)

-- a block's put among those that are kept
pub get_kept : (time now block : ℕ) (puts : LastPuts)
    → get (kept_puts time now puts) block ≡ if_kept time now (get puts block)
get_kept time now block puts =
    get-entries (kept_puts time now puts) block
    ∙ ap (λ es. Rattle.std.specs.FinMap.find nat_cmp block es) (entries_kept time now puts)
    ∙ found_kept time now block (entries puts) (to_true _ (entries_sorted puts))
    ∙ ap (if_kept time now) (sym (get-entries puts block))

pub get_gone : (time now block : ℕ) (puts : LastPuts) (last : LastPut) → get puts block ≡ Some last
    → is_kept time now last ≡ false → len (kept_puts time now puts) < len puts
get_gone time now block puts last is gone =
    omega (
      arith,
      len_kept time now puts,
      len-entries puts,
      found_goes time now block last (entries puts)
          (sym (get-entries puts block) ∙ is) gone,
    )

-- a window that has room answers Now
never_full : (time : ℕ) (end : Option ℕ) → when_full time end ≢ Now
never_full time None is = cc
never_full time (Some end) is = cc

room_new : (window : WindowState) (now : ℕ) (b : Bool)
    → cond b Now (when_full window.md5_time (earliest_end (entries (kept_puts window.md5_time now window.puts)))) ≡ Now
    → b ≡ true
room_new window now true is = refl
room_new window now false is = absurd (never_full _ _ is)

-- a put that may begin fits
fits_by : (window : WindowState) (now block : ℕ) (last : LastPut) (held : Option LastPut)
    → get window.puts block ≡ held → len window.puts ≤ window.md5_size → when_by window now held ≡ Now
    → len (insert (kept_puts window.md5_time now window.puts) block last) ≤ window.md5_size
fits_by window now block last None is fits ready =
    let kept = kept_puts window.md5_time now window.puts in
    let some : len kept < window.md5_size = grind (arith, nat_tests, room_new window now _ ready) in
    let grown = len-insert nat_cmp_total kept block last in
    grind (arith, nat_tests)
fits_by window now block last (Some old) is fits ready =
    let kept = kept_puts window.md5_time now window.puts in
    let grown = len-insert nat_cmp_total kept block last in
    let there = get_kept window.md5_time now block window.puts in
    let short = kept_short window.md5_time now window.puts in
    let gone = get_gone window.md5_time now block window.puts old is in
    grind (arith, nat_tests, grown, there, short, gone, is)

pub fits_begun : (window : WindowState) (block now : ℕ) (last : LastPut) → len window.puts ≤ window.md5_size
    → window.md5_size ≢ 0 → put_when window block now ≡ Now
    → len (insert (kept_puts window.md5_time now window.puts) block last) ≤ window.md5_size
fits_begun window block now last fits on ready =
    fits_by window now block last (get window.puts block) refl fits (grind (arith, nat_tests))

-- an end that a window has is at most the reading by which all ended
pub get_by : (reading block : ℕ) (puts : LastPuts) → AllEndBy reading (entries puts)
    → IfSome (get puts block) (λ last. EndBy reading (end_of last.ending))
get_by reading block puts all =
    subst (λ held. IfSome held (λ last. EndBy reading (end_of last.ending))) (sym (get-entries puts block))
    (found_by reading block (entries puts) all)

pub kept_by : (time now reading later : ℕ) (puts : LastPuts) → reading ≤ later → AllEndBy reading (entries puts)
    → AllEndBy later (entries (kept_puts time now puts))
kept_by time now reading later puts le all =
    subst (AllEndBy later) (sym (entries_kept time now puts))
    (filter_by _ later (entries puts) (later_by reading later (entries puts) le all))

pub insert_by : (reading block : ℕ) (last : LastPut) (puts : LastPuts) → EndBy reading (end_of last.ending)
    → AllEndBy reading (entries puts) → AllEndBy reading (entries (insert puts block last))
insert_by reading block last puts by all =
    subst (AllEndBy reading) (sym (entries-insert nat_cmp_total puts block last))
    (put_by reading block last (entries puts) by all)

-- a window without puts, with a later reading, without the puts that are past their time, and with one put set
pub new_shape : (room : ℕ) → IsWindow 0 (record { room = room; puts = empty })
new_shape room = record {
  limit = omega arith;
  fits = omega (arith, len-empty nat_cmp LastPut);
  ends = subst (AllEndBy 0) (sym (ap entries (sym (no_rows [] refl)) ∙ entries_rows [] refl)) tt;
}

pub later_shape : (reading now : ℕ) (table : Table) → reading ≤ now → now ≤ 2 ^ 62 → IsWindow reading table
    → IsWindow now table
later_shape reading now table le limit shape =
    record { limit = limit; fits = shape.fits; ends = later_by reading now (entries table.puts) le shape.ends }

pub purged_shape : (time reading now : ℕ) (table : Table) → reading ≤ now → now ≤ 2 ^ 62 → IsWindow reading table
    → IsWindow now (record { room = table.room; puts = kept_puts time now table.puts })
purged_shape time reading now table le limit shape = record {
  limit = limit;
  fits = omega (arith, shape.fits, kept_short time now table.puts);
  ends = kept_by time now reading now table.puts le shape.ends;
}

pub set_shape : (reading block : ℕ) (last : LastPut) (table : Table) → EndBy reading (end_of last.ending)
    → len (insert table.puts block last) ≤ table.room → IsWindow reading table
    → IsWindow reading (record { room = table.room; puts = insert table.puts block last })
set_shape reading block last table by fits shape =
    record { limit = shape.limit; fits = fits; ends = insert_by reading block last table.puts by shape.ends }

-- a block without a put: there is room, or each put is kept, or one isn't
pub new_now : (delay time reading now : ℕ) (table : Table) → len table.puts < table.room
    → when_new (window_of delay time reading table) now ≡ Now
new_now delay time reading now table room =
    let short = kept_short time now table.puts in
    let fewer : len (kept_puts time now table.puts) < table.room = omega arith in
    grind (arith, nat_tests)

pub new_full : (delay time reading now : ℕ) (table : Table) → table.room ≤ len table.puts
    → is_end_kept time now (earliest_end (entries table.puts)) ≡ true
    → when_new (window_of delay time reading table) now ≡ when_full time (earliest_end (entries table.puts))
new_full delay time reading now table full kept =
    let same = kept_same time now table.puts kept in
    let test : nat_lt (len table.puts) table.room ≡ false = grind (arith, nat_tests) in
    rw (same, test) refl

pub new_past : (delay time reading now : ℕ) (table : Table) → len table.puts ≤ table.room
    → is_end_kept time now (earliest_end (entries table.puts)) ≡ false
    → when_new (window_of delay time reading table) now ≡ Now
new_past delay time reading now table fits past =
    let fewer = kept_fewer time now table.puts past in
    let some : len (kept_puts time now table.puts) < table.room = omega arith in
    grind (arith, nat_tests)

-- what an end that is past or kept is
pub some_past : (time now end : ℕ) (ends : Option ℕ) → ends ≡ Some end → time ≢ 0 → end + time ≤ now
    → is_end_kept time now ends ≡ false
some_past time now end ends is on past = rw is (grind (arith, nat_tests))

pub some_kept : (time now end : ℕ) (ends : Option ℕ) → ends ≡ Some end → (time ≢ 0 → now < end + time)
    → is_end_kept time now ends ≡ true
some_kept time now end ends is kept = rw is (grind (arith, nat_tests))

-- to set the put of a block that has one takes no more room
pub held_stays : (table : Table) (block : ℕ) (last old : LastPut) → get table.puts block ≡ Some old
    → len table.puts ≤ table.room → len (insert table.puts block last) ≤ table.room
held_stays table block last old is fits =
    let grown = len-insert nat_cmp_total table.puts block last in
    grind (arith, nat_tests, grown, is)

-- after a put began
pub begun_shape : (delay time reading now block : ℕ) (last : LastPut) (table : Table) → EndBy now (end_of last.ending)
    → reading ≤ now → now ≤ 2 ^ 62 → IsWindow reading table → table.room ≢ 0
    → put_when (window_of delay time reading table) block now ≡ Now
    → IsWindow now (record { room = table.room; puts = insert (kept_puts time now table.puts) block last })
begun_shape delay time reading now block last table by le limit shape on ready =
    set_shape now block last (record { room = table.room; puts = kept_puts time now table.puts }) by
    (fits_begun (window_of delay time reading table) block now last shape.fits on ready)
    (purged_shape time reading now table le limit shape)

-- a put that was set without an end is open
pub set_open : (puts : LastPuts) (block : ℕ) (last : LastPut) → last.ending ≡ None
    → IsTrue (is_open (get (insert puts block last) block))
set_open puts block last none =
    let set = get-insert nat_cmp_total puts block last block in
    grind (arith, nat_tests, set, none)
