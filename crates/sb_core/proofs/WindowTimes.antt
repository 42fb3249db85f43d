-- When a put of a block may begin, by a later reading, if nothing else happens.
use Rattle.std.proofs.Common.{ℕ, ◌≡◌, ◌≢◌, ◌<◌, ◌≤◌, ◌+◌, Bool, true, false, List, [], ◌∷◌, length, Option, Some, None, is_some}
use Rattle.std.proofs.Common.{refl, sym, ap, ◌∙◌, if◌then◌else◌, arith}
use Rattle.std.specs.Prelude.{nat_lt, nat_le, nat_eq}
use Rattle.std.specs.List.{filter}
use Rattle.std.specs.Ordering.{nat_cmp}
use Rattle.std.specs.FinMap.{find, get, len, entries, entries_sorted, get-entries, len-entries}
use Rattle.std.proofs.lemmas.Bool.Decides.{nat_tests}
use Rattle.sb_window.specs.declared.last_put.Ending.{Ending}
use Rattle.sb_window.specs.declared.last_put.LastPut.{LastPut}
use Rattle.sb_window.specs.declared.window.PutWhen.TheVariants.{Now, At}
use Rattle.sb_window.specs.LastPuts.{end_of, is_end_kept, is_kept, kept_puts, earliest_end}
use Rattle.sb_window.specs.Windows.{WindowState, when_after, when_full, when_new, when_by, put_when}
use Rattle.sb_window.specs.Waits.{HoldsEach}
use Rattle.sb_window.proofs.WindowLemmas.{entries_kept, kept_same, kept_fewer}
use Rattle.sb_window.proofs.EventLemmas.{kept_earliest}
use Rattle.sb_rows.specs.RowLaws.{to_true, rows_fewer}
use Rattle.sb_core.specs.JobSearches.{is_now, starts_by}

-- a window for each block has room for one that it has no put of
spare : (window : WindowState) (blocks block : ℕ) → HoldsEach window blocks block → get window.puts block ≡ None
    → len window.puts < window.md5_size
spare window blocks block each none =
    let es = entries window.puts in
    let within = λ (b : ℕ) (is : is_some (find nat_cmp b es) ≡ true).
    each.others b (ap is_some (get-entries window.puts b) ∙ is) in
    let fewer = rows_fewer blocks es (to_true _ (entries_sorted window.puts)) within block each.on_disk
    (sym (get-entries window.puts block) ∙ none) in
    omega (arith, fewer, len-entries window.puts, each.enough)

-- what is kept later is kept before
kept_before : (time now reading : ℕ) (end : Option ℕ) → now ≤ reading → is_end_kept time reading end ≡ true
    → is_end_kept time now end ≡ true
kept_before time now reading None le kept = refl
kept_before time now reading (Some end) le kept = grind (arith, nat_tests)

fewer_later : (time now reading : ℕ) (es : List (ℕ × LastPut)) → now ≤ reading
    → length (filter (λ e. is_kept time reading e.1) es) ≤ length (filter (λ e. is_kept time now e.1) es)
fewer_later time now reading [] le = omega arith
fewer_later time now reading (e ∷ es) le =
    by (is_kept time reading e.1) (is_kept time now e.1) (kept_before time now reading (end_of e.1.ending) le)
    (fewer_later time now reading es le) where
      by : (b c : Bool) → (b ≡ true → c ≡ true)
          → length (filter (λ e. is_kept time reading e.1) es) ≤ length (filter (λ e. is_kept time now e.1) es)
          → length (if b then e ∷ filter (λ e. is_kept time reading e.1) es else filter (λ e. is_kept time reading e.1) es)
          ≤ length (if c then e ∷ filter (λ e. is_kept time now e.1) es else filter (λ e. is_kept time now e.1) es)
      by true true both less = omega (arith, less)
      by true false both less = absurd (let clash = both refl in cc)
      by false true both less = omega (arith, less)
      by false false both less = less

module _ (window : WindowState) (blocks block now reading : ℕ) (fits : len window.puts ≤ window.md5_size)
    (each : window.md5_size ≢ 0 → window.md5_time ≡ 0 → HoldsEach window blocks block) (le : now ≤ reading)
    (on : nat_eq window.md5_size 0 ≡ false) where
  abbrev kept_at : ℕ → ℕ
  kept_at r = len (kept_puts window.md5_time r window.puts)

  size : window.md5_size ≢ 0
  size = grind (arith, nat_tests)

  less_later : kept_at reading ≤ kept_at now
  less_later =
      let more = len-entries (kept_puts window.md5_time now window.puts) ∙ ap length (entries_kept window.md5_time now window.puts) in
      let less = len-entries (kept_puts window.md5_time reading window.puts)
      ∙ ap length (entries_kept window.md5_time reading window.puts) in
      omega (arith, more, less, fewer_later window.md5_time now reading (entries window.puts) le)

  -- a window that is full keeps all
  kept_all : (r : ℕ) (t : Bool) → is_end_kept window.md5_time r (earliest_end (entries window.puts)) ≡ t
      → nat_lt (kept_at r) window.md5_size ≡ false → kept_puts window.md5_time r window.puts ≡ window.puts
  kept_all r true is full = kept_same window.md5_time r window.puts is
  kept_all r false is full =
      let fewer = kept_fewer window.md5_time r window.puts is in absurd (grind (arith, nat_tests))

  timed : get window.puts block ≡ None → nat_lt (len window.puts) window.md5_size ≡ false → window.md5_time ≢ 0
  timed held full for_ever =
      let fewer = spare window blocks block (each size for_ever) held in
      absurd (grind (arith, nat_tests))

  after_later : (ending : Option Ending)
      → is_now (when_after window reading ending) ≡ starts_by reading (when_after window now ending)
  after_later None = refl
  after_later (Some ending) =
      by (ending.reading + window.min_write_delay) (nat_lt now (ending.reading + window.min_write_delay)) refl
      (nat_lt reading (ending.reading + window.min_write_delay)) refl where
        by : (until : ℕ) (t : Bool) → nat_lt now until ≡ t → (u : Bool) → nat_lt reading until ≡ u
            → is_now (if u then At until else Now) ≡ starts_by reading (if t then At until else Now)
        by until true here true there = sym (grind (arith, nat_tests))
        by until true here false there = sym (grind (arith, nat_tests))
        by until false here true there = absurd (grind (arith, nat_tests))
        by until false here false there = refl

  -- a full window lets a put begin once its first end is past its time
  full_later : (end : Option ℕ) → earliest_end (entries window.puts) ≡ end
      → get window.puts block ≡ None → nat_lt (len window.puts) window.md5_size ≡ false
      → (t : Bool) → nat_lt (kept_at reading) window.md5_size ≡ t
      → is_now (if t then Now
      else when_full window.md5_time (earliest_end (entries (kept_puts window.md5_time reading window.puts))))
      ≡ starts_by reading (when_full window.md5_time end)
  full_later None first held full true room =
      let all = kept_same window.md5_time reading window.puts (ap (is_end_kept window.md5_time reading) first) in
      let here : nat_lt (len window.puts) window.md5_size ≡ true =
      sym (ap (λ puts. nat_lt (len puts) window.md5_size) all) ∙ room in
      absurd (let clash = sym full ∙ here in cc)
  full_later None first held full false room =
      let all = kept_all reading _ refl room in
      ap (λ puts. is_now (when_full window.md5_time (earliest_end (entries puts)))) all
      ∙ ap (λ e. is_now (when_full window.md5_time e)) first
  full_later (Some end) first held full true room =
      by (is_end_kept window.md5_time reading (Some end)) refl where
        by : (t : Bool) → is_end_kept window.md5_time reading (Some end) ≡ t → true ≡ nat_le (end + window.md5_time) reading
        by true kept =
            let all = kept_same window.md5_time reading window.puts (ap (is_end_kept window.md5_time reading) first ∙ kept) in
            let here : nat_lt (len window.puts) window.md5_size ≡ true =
            sym (ap (λ puts. nat_lt (len puts) window.md5_size) all) ∙ room in
            absurd (let clash = sym full ∙ here in cc)
        by false kept = sym (grind (arith, nat_tests))
  full_later (Some end) first held full false room =
      let all = kept_all reading _ refl room in
      let time = timed held full in
      let kept = sym (ap (is_end_kept window.md5_time reading) first)
      ∙ ap (λ puts. is_end_kept window.md5_time reading (earliest_end (entries puts))) (sym all)
      ∙ ap (λ es. is_end_kept window.md5_time reading (earliest_end es)) (entries_kept window.md5_time reading window.puts)
      ∙ kept_earliest window.md5_time reading (entries window.puts) in
      ap (λ puts. is_now (when_full window.md5_time (earliest_end (entries puts)))) all
      ∙ ap (λ e. is_now (when_full window.md5_time e)) first
      ∙ not_past end time kept where
        not_past : (e : ℕ) → window.md5_time ≢ 0 → is_end_kept window.md5_time reading (Some e) ≡ true
            → false ≡ nat_le (e + window.md5_time) reading
        not_past e time kept = sym (grind (arith, nat_tests))

  new_later : (t : Bool) → nat_lt (kept_at now) window.md5_size ≡ t → get window.puts block ≡ None
      → is_now (when_new window reading)
      ≡ starts_by reading (if t then Now
      else when_full window.md5_time (earliest_end (entries (kept_puts window.md5_time now window.puts))))
  new_later true room held =
      let there : nat_lt (kept_at reading) window.md5_size ≡ true =
      (let less = less_later in grind (arith, nat_tests)) in
      rw there refl
  new_later false full held =
      let all = kept_all now _ refl full in
      let full_too : nat_lt (len window.puts) window.md5_size ≡ false =
      sym (ap (λ puts. nat_lt (len puts) window.md5_size) all) ∙ full in
      full_later _ refl held full_too _ refl
      ∙ ap (λ puts. starts_by reading (when_full window.md5_time (earliest_end (entries puts)))) (sym all)

  by_later : (held : Option LastPut) → get window.puts block ≡ held
      → is_now (when_by window reading held) ≡ starts_by reading (when_by window now held)
  by_later None held = new_later _ refl held
  by_later (Some put) held = after_later put.ending

-- whether it may begin at a later reading is known before
pub put_later : (window : WindowState) (blocks block now reading : ℕ) → len window.puts ≤ window.md5_size
    → (window.md5_size ≢ 0 → window.md5_time ≡ 0 → HoldsEach window blocks block) → now ≤ reading
    → is_now (put_when window block reading) ≡ starts_by reading (put_when window block now)
put_later window blocks block now reading fits each le = by (nat_eq window.md5_size 0) refl where
  by : (t : Bool) → nat_eq window.md5_size 0 ≡ t
      → is_now (if t then Now else when_by window reading (get window.puts block))
      ≡ starts_by reading (if t then Now else when_by window now (get window.puts block))
  by true off = refl
  by false on = by_later window blocks block now reading fits each le on (get window.puts block) refl
