-- What the rows of a table are as a finite map.
use Rattle.std.proofs.Common.{◌≡◌, ℕ, ◌≤◌, List, IsTrue}
use Rattle.std.proofs.Common.{sym, ap, arith}
use Rattle.std.specs.List.{filter}
use Rattle.std.specs.Ordering.{nat_cmp}
use Rattle.std.specs.FinMap.{put, is_sorted, len, insert, from_sorted}
use Rattle.sb_window.specs.declared.last_put.LastPut.{LastPut}
use Rattle.sb_window.specs.LastPuts.{LastPuts, is_kept, kept_puts}
use Rattle.sb_window.specs.Tables.{Table, IsTable}
use Rattle.sb_rows.specs.RowLaws.{entries_rows, sorted_put, insert_rows, length_put, sorted_filter, filter_short}

-- after a put was set
pub set_table : (room : ℕ) (rows after : List (ℕ × LastPut)) (block : ℕ) (last : LastPut) → IsTable room rows
    → put nat_cmp block last rows ≡ after → len (insert (from_sorted {R = nat_cmp} rows) block last) ≤ room
    → IsTable room after
set_table room rows after block last shaped is fits =
    record {
      rising = sorted_put rows after block last shaped.rising is;
      fits =
          omega (arith, length_put rows after block last shaped.rising is);
    }

-- the table of a room and puts
abbrev pub table : ℕ → LastPuts → Table
table room puts = record { room = room; puts = puts }

pub set_view : (room : ℕ) (rows after : List (ℕ × LastPut)) (block : ℕ) (last : LastPut) → IsTable room rows
    → put nat_cmp block last rows ≡ after
    → table room (from_sorted after) ≡ table room (insert (from_sorted rows) block last)
set_view room rows after block last shaped is = ap (table room) (insert_rows rows after block last shaped.rising is)

-- after puts were given up
pub purged_table : (room time now : ℕ) (rows : List (ℕ × LastPut)) → IsTable room rows
    → IsTable room (filter (λ e. is_kept time now e.1) rows)
purged_table room time now rows shaped =
    record {
      rising = sorted_filter _ rows shaped.rising;
      fits =
          omega (arith, shaped.fits, filter_short (λ e. is_kept time now e.1) rows);
    }

pub purge_rows : (time now : ℕ) (rows : List (ℕ × LastPut)) → IsTrue (is_sorted nat_cmp rows)
    → from_sorted (filter (λ e. is_kept time now e.1) rows) ≡ kept_puts time now (from_sorted rows)
purge_rows time now rows sorted =
    ap (λ es. from_sorted (filter (λ e. is_kept time now e.1) es)) (sym (entries_rows rows sorted))
