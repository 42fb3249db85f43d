-- How many entries a cache has after a change, and which one is dropped next.
use Rattle.std.proofs.Common.{◌≡◌, ℕ, zero, suc, ◌<◌, ◌+◌, Bool, true, false, cond}
use Rattle.std.proofs.Common.{length, Option, Some, None, is_some, refl, sym, ◌∙◌, ap, arith}
use Rattle.std.specs.List.{filter}
use Rattle.std.specs.Ordering.{nat_cmp}
use Rattle.std.specs.Cmp.{nat_cmp_total}
use Rattle.std.specs.FinMap.{find, get, insert, remove, len, entries, entries_sorted, get-entries, len-entries}
use Rattle.std.specs.FinMap.{len-insert, entries-insert}
use Rattle.sb_history.specs.Eviction.{count}
use Rattle.sb_rows.specs.Rows.{one_if}
use Rattle.sb_rows.specs.RowLaws.{get_set, get_set_other, get_gone, get_gone_other, same_by}
use Rattle.sb_rows.specs.RowLaws.{to_true, passing_put, passing_below, passing_next, passing_none, passing_all, rows_fewer}
use Rattle.sb_blocks.specs.declared.cached.State.{State}
use Rattle.sb_blocks.specs.declared.cached.Cached.{Cached}
use Rattle.sb_blocks.specs.Cached.{passes}
use Rattle.sb_blocks.specs.Caches.{CachedBlocks, count_in}
use Rattle.sb_blocks.specs.Laws.{SetsOne, RemovesOne, CountsHeld, CountsPassing, OnDisk, FreeForEach, CountsEach}

pub sets_one : SetsOne
sets_one cached block entry = (get_set cached block entry, get_set_other cached block entry)

pub removes_one : RemovesOne
removes_one cached block = (get_gone cached block, get_gone_other cached block)

-- what was removed is there again where it is set, and what isn't there stays so
set_again : (cached : CachedBlocks) (block : ℕ) (entry : Cached) → get cached block ≡ Some entry
    → insert (remove cached block) block entry ≡ cached
set_again cached block entry is =
    same_by _ block cached (get_set (remove cached block) block entry ∙ sym is)
    (λ q apart. get_set_other (remove cached block) block entry q apart ∙ get_gone_other cached block q apart)

stays_gone : (cached : CachedBlocks) (block : ℕ) → get cached block ≡ None → remove cached block ≡ cached
stays_gone cached block is =
    same_by _ block cached (get_gone cached block ∙ sym is) (get_gone_other cached block)

-- how many entries pass a test
counts_set : (test : State → Bool) (cached : CachedBlocks) (block : ℕ) (entry : Cached)
    → count_in test (insert cached block entry) + one_if (passes test (get cached block))
    ≡ count_in test cached + one_if (test entry.state)
counts_set test cached block entry =
    let rows = passing_put (passes test) refl block entry (entries cached) (to_true _ (entries_sorted cached)) in
    let after = ap (λ es. length (filter (λ e. test e.1.state) es)) (entries-insert nat_cmp_total cached block entry) in
    let found = ap (λ f. one_if (passes test f)) (get-entries cached block) in
    omega (arith, rows, after, found)

counts_gone : (test : State → Bool) (cached : CachedBlocks) (block : ℕ)
    → count_in test (remove cached block) + one_if (passes test (get cached block)) ≡ count_in test cached
counts_gone test cached block = by (get cached block) refl where
  by : (found : Option Cached) → get cached block ≡ found
      → count_in test (remove cached block) + one_if (passes test found) ≡ count_in test cached
  by None is = let same = ap (count_in test) (stays_gone cached block is) in omega (arith, same)
  by (Some entry) is =
      let again = ap (count_in test) (set_again cached block entry is) in
      let set = counts_set test (remove cached block) block entry in
      let gone = ap (λ f. one_if (passes test f)) (removes_one cached block).0 in
      omega (arith, again, set, gone)

pub counts_passing : CountsPassing
counts_passing test cached block entry = (counts_set test cached block entry, counts_gone test cached block)

-- how many there are
pub counts_held : CountsHeld
counts_held cached block entry = (held_set, held_gone) where
  set_by : (b : Bool) (before after : ℕ) → after ≡ cond b before (before + 1) → after + one_if b ≡ before + 1
  set_by true before after is = omega (arith, is)
  set_by false before after is = omega (arith, is)

  held_set : len (insert cached block entry) + one_if (is_some (get cached block)) ≡ len cached + 1
  held_set = set_by (is_some (get cached block)) (len cached) _ (len-insert nat_cmp_total cached block entry)

  held_gone : len (remove cached block) + one_if (is_some (get cached block)) ≡ len cached
  held_gone = by (get cached block) refl where
    by : (found : Option Cached) → get cached block ≡ found
        → len (remove cached block) + one_if (is_some found) ≡ len cached
    by None is = let same = ap len (stays_gone cached block is) in omega (arith, same)
    by (Some before) is =
        let again = ap len (set_again cached block before is) in
        let set = set_by (is_some (get (remove cached block) block)) (len (remove cached block)) _
        (len-insert nat_cmp_total (remove cached block) block before) in
        let gone = ap (λ (f : Option Cached). one_if (is_some f)) (removes_one cached block).0 in
        omega (arith, again, set, gone)

-- block by block
found_on : (blocks : ℕ) (cached : CachedBlocks) → OnDisk blocks cached → (b : ℕ)
    → is_some (find nat_cmp b (entries cached)) ≡ true → b < blocks
found_on blocks cached on b some = on b (ap is_some (get-entries cached b) ∙ some)

pub free_for_each : FreeForEach
free_for_each blocks room cached block enough on below absent =
    let fewer = rows_fewer blocks (entries cached) (to_true _ (entries_sorted cached)) (found_on blocks cached on) block below
    (sym (get-entries cached block) ∙ absent) in
    omega (arith, fewer, enough, len-entries cached)

count_same : (one two : ℕ → Bool) → ((n : ℕ) → one n ≡ two n) → (n : ℕ) → count one n ≡ count two n
count_same one two same zero = refl
count_same one two same (suc n) = rw (same n, count_same one two same n) refl

count_rows : (test : State → Bool) (cached : CachedBlocks) (n : ℕ)
    → count (λ b. passes test (find nat_cmp b (entries cached))) n
    ≡ length (passing_below (passes test) refl n (entries cached))
count_rows test cached zero = sym (passing_none (passes test) refl (entries cached))
count_rows test cached (suc n) =
    rw (count_rows test cached n)
    (sym (passing_next (passes test) refl n (entries cached) (to_true _ (entries_sorted cached))))

pub counts_each : CountsEach
counts_each test cached blocks on =
    count_same (λ b. passes test (get cached b)) (λ b. passes test (find nat_cmp b (entries cached)))
    (λ b. ap (passes test) (get-entries cached b)) blocks
    ∙ count_rows test cached blocks
    ∙ ap length (passing_all (passes test) refl blocks (entries cached) (found_on blocks cached on))
