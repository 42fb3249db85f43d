-- A put that may not begin yet may begin from a reading ahead on.
use Rattle.std.proofs.Common.{◌≡◌, ◌≢◌, ℕ, ◌<◌, ◌≤◌, ◌+◌, Bool, true, false, cond, List, [], ◌∷◌}
use Rattle.std.proofs.Common.{length}
use Rattle.std.proofs.Common.{Option, Some, None, is_some, refl, sym, ap, ◌∙◌, arith}
use Rattle.std.specs.Prelude.{nat_lt, nat_eq}
use Rattle.std.specs.Ordering.{nat_cmp, eq_by_cmp}
use Rattle.std.specs.FinMap.{find, get, len, entries, entries_sorted, get-entries, len-entries}
use Rattle.std.proofs.lemmas.Bool.Decides.{nat_tests}
use Rattle.sb_window.specs.declared.last_put.Ending.{Ending}
use Rattle.sb_window.specs.declared.last_put.LastPut.{LastPut}
use Rattle.sb_window.specs.declared.window.PutWhen.TheVariants.{Now, At}
use Rattle.sb_window.specs.LastPuts.{end_of, earlier, is_end_kept, if_kept, kept_puts, earliest_end}
use Rattle.sb_window.specs.Windows.{WindowState, when_by, when_after, when_full, put_when, is_open, has_no_ending}
use Rattle.sb_window.specs.Waits.{NoneOpen, HoldsEach, EndsAhead, WaitsEnd}
use Rattle.sb_rows.specs.RowLaws.{to_true, rows_fewer}
use Rattle.sb_window.proofs.WindowLemmas.{entries_kept, kept_same, kept_fewer, some_past}
use Rattle.sb_window.proofs.EventLemmas.{kept_earliest}

-- a window for each block has room for one that it has no put of
spare : (window : WindowState) (blocks block : ℕ) → HoldsEach window blocks block → get window.puts block ≡ None
    → len window.puts < window.md5_size
spare window blocks block each none =
    let es = entries window.puts in
    let within = λ (b : ℕ) (is : is_some (find nat_cmp b es) ≡ true).
    each.others b (ap is_some (get-entries window.puts b) ∙ is) in
    let fewer = rows_fewer blocks es (to_true _ (entries_sorted window.puts)) within block each.on_disk
    (sym (get-entries window.puts block) ∙ none) in
    omega (arith, fewer, len-entries window.puts, each.enough)

-- the first of some rows that all have ended has an end
ended_first : (es : List (ℕ × LastPut)) → 0 < length es
    → ((b : ℕ) → is_open (find nat_cmp b es) ≡ false) → earliest_end es ≡ None → ⊥
ended_first [] some ended none = omega arith
ended_first (e ∷ es) some ended none = by e.1.ending refl (here e es (ended e.0)) none where
  here : (e : ℕ × LastPut) (es : List (ℕ × LastPut)) → is_open (find nat_cmp e.0 (e ∷ es)) ≡ false
      → has_no_ending e.1.ending ≡ false
  here e es is =
      let mine : eq_by_cmp nat_cmp e.0 e.0 ≡ true = grind (arith, nat_tests) in
      ap (λ t. is_open (cond t (Some e.1) (find nat_cmp e.0 es))) (sym mine) ∙ is

  earlier_some : (end : ℕ) (other : Option ℕ) → earlier (Some end) other ≡ None → ⊥
  earlier_some end None is = cc
  earlier_some end (Some o) is = cc

  by : (ending : Option Ending) → e.1.ending ≡ ending → has_no_ending e.1.ending ≡ false
      → earlier (end_of e.1.ending) (earliest_end es) ≡ None → ⊥
  by None is closed none = cc
  by (Some ending) is closed none =
      earlier_some ending.reading (earliest_end es)
      (ap (λ (o : Option Ending). earlier (end_of o) (earliest_end es)) (sym is) ∙ none)

pub kept_ended : (time now : ℕ) (held : Option LastPut) → is_open held ≡ false → is_open (if_kept time now held) ≡ false
kept_ended time now None is = refl
kept_ended time now (Some put) is = elim (is_end_kept time now (end_of put.ending)) as
    (λ t. is_open (cond t (Some put) None) ≡ false) [ true ↦ is | false ↦ refl ]

module _ (window : WindowState) (blocks block now : ℕ) (fits : len window.puts ≤ window.md5_size)
    (none : NoneOpen window) (each : window.md5_size ≢ 0 → window.md5_time ≡ 0 → HoldsEach window blocks block)
    (on : nat_eq window.md5_size 0 ≡ false) where
  size : window.md5_size ≢ 0
  size = grind (arith, nat_tests)

  -- after the spacing
  spaced_later : (put : LastPut) (ending : Ending) → get window.puts block ≡ Some put → put.ending ≡ Some ending
      → (reading : ℕ) → ending.reading + window.min_write_delay ≤ reading → put_when window block reading ≡ Now
  spaced_later put ending held is reading le =
      let past : nat_lt reading (ending.reading + window.min_write_delay) ≡ false = grind (arith, nat_tests) in
      rw (on, held, is, past) refl

  spaced_ends : (put : LastPut) (ending : Ending) → get window.puts block ≡ Some put → put.ending ≡ Some ending
      → (t : Bool) → nat_lt now (ending.reading + window.min_write_delay) ≡ t
      → EndsAhead window block now (cond t (At (ending.reading + window.min_write_delay)) Now)
  spaced_ends put ending held is true lt =
      record { ahead = grind (arith, nat_tests); later = spaced_later put ending held is }
  spaced_ends put ending held is false lt = tt

  after_ends : (put : LastPut) (ending : Option Ending) → get window.puts block ≡ Some put → put.ending ≡ ending
      → EndsAhead window block now (when_after window now ending)
  after_ends put None held is =
      absurd (is_closed put is (ap is_open (sym held) ∙ none block)) where
        is_closed : (put : LastPut) → put.ending ≡ None → has_no_ending put.ending ≡ false → ⊥
        is_closed put is closed = cc
  after_ends put (Some ending) held is = spaced_ends put ending held is _ refl

  -- once the first end is past its time
  kept_all : (t : Bool) → is_end_kept window.md5_time now (earliest_end (entries window.puts)) ≡ t
      → nat_lt (len (kept_puts window.md5_time now window.puts)) window.md5_size ≡ false
      → kept_puts window.md5_time now window.puts ≡ window.puts
  kept_all true is full = kept_same window.md5_time now window.puts is
  kept_all false is full =
      let fewer = kept_fewer window.md5_time now window.puts is in absurd (grind (arith, nat_tests))

  full_later : (end : ℕ) → get window.puts block ≡ None → earliest_end (entries window.puts) ≡ Some end
      → window.md5_time ≢ 0 → (reading : ℕ) → end + window.md5_time ≤ reading → put_when window block reading ≡ Now
  full_later end held first timed reading le =
      let past = some_past window.md5_time reading end (earliest_end (entries window.puts)) first timed le in
      let fewer = kept_fewer window.md5_time reading window.puts past in
      let room : nat_lt (len (kept_puts window.md5_time reading window.puts)) window.md5_size ≡ true =
      grind (arith, nat_tests) in
      rw (on, held, room) refl

  never_full : get window.puts block ≡ None → kept_puts window.md5_time now window.puts ≡ window.puts
      → nat_lt (len (kept_puts window.md5_time now window.puts)) window.md5_size ≡ false → window.md5_time ≢ 0
  never_full held all full for_ever =
      let fewer = spare window blocks block (each size for_ever) held in
      let full_too : nat_lt (len window.puts) window.md5_size ≡ false =
      sym (ap (λ puts. nat_lt (len puts) window.md5_size) all) ∙ full in
      grind (arith, nat_tests)

  none_first : kept_puts window.md5_time now window.puts ≡ window.puts
      → nat_lt (len (kept_puts window.md5_time now window.puts)) window.md5_size ≡ false
      → earliest_end (entries window.puts) ≡ None → ⊥
  none_first all full first =
      let full_too : nat_lt (len window.puts) window.md5_size ≡ false =
      sym (ap (λ puts. nat_lt (len puts) window.md5_size) all) ∙ full in
      let some : 0 < length (entries window.puts) =
      (let count = len-entries window.puts in let on_size = size in grind (arith, nat_tests)) in
      ended_first (entries window.puts) some
      (λ b. ap is_open (sym (get-entries window.puts b)) ∙ none b) first

  full_ends : (end : Option ℕ) → earliest_end (entries (kept_puts window.md5_time now window.puts)) ≡ end
      → get window.puts block ≡ None
      → nat_lt (len (kept_puts window.md5_time now window.puts)) window.md5_size ≡ false
      → EndsAhead window block now (when_full window.md5_time end)
  full_ends None first held full =
      let all = kept_all _ refl full in
      none_first all full (ap (λ puts. earliest_end (entries puts)) (sym all) ∙ first)
  full_ends (Some end) first held full =
      let all = kept_all _ refl full in
      let timed = never_full held all full in
      let first_too = ap (λ puts. earliest_end (entries puts)) (sym all) ∙ first in
      let kept = sym (ap (is_end_kept window.md5_time now) first)
      ∙ ap (λ es. is_end_kept window.md5_time now (earliest_end es)) (entries_kept window.md5_time now window.puts)
      ∙ kept_earliest window.md5_time now (entries window.puts) in
      (timed, record { ahead = full_ahead end timed kept; later = full_later end held first_too timed }) where
        full_ahead : (end : ℕ) → window.md5_time ≢ 0 → is_end_kept window.md5_time now (Some end) ≡ true
            → now < end + window.md5_time
        full_ahead end timed kept = grind (arith, nat_tests)

  new_ends : (t : Bool) → nat_lt (len (kept_puts window.md5_time now window.puts)) window.md5_size ≡ t
      → get window.puts block ≡ None
      → EndsAhead window block now (cond t Now
      (when_full window.md5_time (earliest_end (entries (kept_puts window.md5_time now window.puts)))))
  new_ends true room held = tt
  new_ends false full held = full_ends _ refl held full

  by_ends : (held : Option LastPut) → get window.puts block ≡ held
      → EndsAhead window block now (when_by window now held)
  by_ends None held = new_ends _ refl held
  by_ends (Some put) held = after_ends put put.ending held refl

pub waits_end : WaitsEnd
waits_end window blocks block now fits none each = by (nat_eq window.md5_size 0) refl where
  by : (t : Bool) → nat_eq window.md5_size 0 ≡ t
      → EndsAhead window block now (cond t Now (when_by window now (get window.puts block)))
  by true off = tt
  by false on = by_ends window blocks block now fits none each on (get window.puts block) refl
