-- How many blocks have a put that is kept.
use Rattle.std.proofs.Common.{◌≡◌, ℕ, zero, suc, ◌≤◌, ◌+◌, Bool, true, false, cond, List, length, Option, Some}
use Rattle.std.proofs.Common.{None, IsTrue, is_some, refl, sym, ap, ◌∙◌, arith}
use Rattle.std.specs.Prelude.{nat_lt, ◌&&◌}
use Rattle.std.specs.Ordering.{nat_cmp}
use Rattle.std.specs.FinMap.{find, is_sorted, get, entries, entries_sorted, get-entries, len-entries}
use Rattle.sb_window.specs.declared.last_put.LastPut.{LastPut}
use Rattle.sb_window.specs.LastPuts.{if_kept}
use Rattle.sb_window.specs.Events.{last_put_of, count, PutsFit}
use Rattle.sb_rows.specs.RowLaws.{to_true, filter_short, passing_below, passing_next}

-- the rows of the first n blocks
abbrev first_rows : ℕ → List (ℕ × LastPut) → List (ℕ × LastPut)
first_rows n es = passing_below {X = LastPut} is_some refl n es

count_next : (b c : Bool) (counted rows next : ℕ) → (b ≡ true → c ≡ true) → counted ≤ rows
    → next ≡ cond c (1 + rows) rows → cond b (1 + counted) counted ≤ next
count_next true true counted rows next finds le is = omega arith
count_next true false counted rows next finds le is = absurd (grind (arith, finds refl))
count_next false true counted rows next finds le is = omega arith
count_next false false counted rows next finds le is = omega arith

count_rows : (test : ℕ → Bool) (es : List (ℕ × LastPut)) → IsTrue (is_sorted nat_cmp es)
    → ((block : ℕ) → test block ≡ true → is_some (find nat_cmp block es) ≡ true) → (n : ℕ)
    → count test n ≤ length (first_rows n es)
count_rows test es sorted finds zero = omega arith
count_rows test es sorted finds (suc n) =
    count_next (test n) _ (count test n) (length (first_rows n es)) _ (finds n) (count_rows test es sorted finds n)
    (passing_next {X = LastPut} is_some refl n es sorted)

some_held : (time now : ℕ) (held : Option LastPut) → is_some (if_kept time now held) ≡ true → is_some held ≡ true
some_held time now None some = some
some_held time now (Some put) some = refl

pub puts_fit : PutsFit
puts_fit window past now blocks le fits stands =
    let finds : (block : ℕ) → is_some (if_kept window.md5_time now (last_put_of past block)) ≡ true
    → is_some (find nat_cmp block (entries window.puts)) ≡ true =
    λ block some. ap is_some (sym (get-entries window.puts block))
    ∙ some_held window.md5_time now (get window.puts block) (ap is_some (stands.kept block now le) ∙ some) in
    let counted =
    count_rows (λ block. is_some (if_kept window.md5_time now (last_put_of past block))) (entries window.puts)
    (to_true _ (entries_sorted window.puts)) finds blocks in
    let held : ℕ × LastPut → Bool = λ e. nat_lt e.0 blocks && is_some (Some e.1) in
    let short = filter_short held (entries window.puts) in
    omega (arith, counted, short, len-entries window.puts, fits)
