-- Each request that succeeds, and each drop, brings a call closer to its end.
use Rattle.std.proofs.Common.{ℕ, ◌≡◌, ◌+◌, ◌<◌, ◌≤◌, Bool, true, false, nat_eq, if◌then◌else◌, List, [], ◌∷◌}
use Rattle.std.proofs.Common.{Option, Some, None, IsTrue, refl, sym, ◌∙◌, ap, subst, arith}
use Rattle.std.specs.Prelude.{nat_lt}
use Rattle.std.proofs.lemmas.Bool.{eqb-true}
use Rattle.std.proofs.lemmas.Bool.Decides.{nat_tests}
use Rattle.std.specs.Ordering.{nat_cmp}
use Rattle.std.specs.Cmp.{nat_cmp_total}
use Rattle.std.specs.FinMap.{find, put, is_sorted, get, len, insert, remove, entries, entries_sorted, entries-insert}
use Rattle.std.specs.FinMap.{get-entries, same_map, nat_cmp-IsAntisymmetric}
use Rattle.std.specs.FinMap.Entries.{below_all}
use Rattle.sb_blocks.specs.declared.cached.Cached.{Cached}
use Rattle.sb_blocks.specs.Caches.{CachedBlocks, CacheState, with_entry, without}
use Rattle.sb_rows.specs.RowLaws.{to_true, sorted_head, sorted_tail, absent_below}
use Rattle.sb_core.specs.Progress.{events_until_clean, sum_rows, events_until_all_clean, events_by_state}
use Rattle.sb_core.specs.Progress.{events_until_held, steps_left_in}
use Rattle.sb_core.proofs.Maps.{get_same, get_other, gone_same, gone_other, len_held, len_fresh}

-- what a row that is found counts
abbrev found_events : Option Cached → ℕ
found_events None = 0
found_events (Some entry) = events_until_clean entry.state

sum_put : (k : ℕ) (v : Cached) (es : List (ℕ × Cached)) → IsTrue (is_sorted nat_cmp es)
    → sum_rows (put nat_cmp k v es) + found_events (find nat_cmp k es) ≡ sum_rows es + events_until_clean v.state
sum_put k v [] sorted = omega arith
sum_put k v (e ∷ es) sorted =
    let gone : k ≡ e.0 → find nat_cmp k es ≡ None = λ same. absent_below k es (rw same (sorted_head e es sorted)) in
    let below : k < e.0 → find nat_cmp k es ≡ None = λ less. none_under k e es less sorted in
    let tail = sum_put k v es (sorted_tail e es sorted) in
    grind (arith, nat_tests, tail, gone, below) where
      none_under : (k_ : ℕ) (e_ : ℕ × Cached) (es_ : List (ℕ × Cached)) → k_ < e_.0
          → IsTrue (is_sorted nat_cmp (e_ ∷ es_)) → find nat_cmp k_ es_ ≡ None
      none_under k_ e_ es_ less sorted_ = absent_below k_ es_ (lower es_ (sorted_head e_ es_ sorted_)) where
        lower : (xs : List (ℕ × Cached)) → IsTrue (below_all nat_cmp e_.0 xs) → IsTrue (below_all nat_cmp k_ xs)
        lower [] h = refl
        lower (x ∷ xs) h = grind (arith, nat_tests, lower xs)

-- the sum after an entry was written over
pub sum_held : (m : CachedBlocks) (k : ℕ) (before entry : Cached) → get m k ≡ Some before
    → events_until_all_clean (insert m k entry) + events_until_clean before.state
    ≡ events_until_all_clean m + events_until_clean entry.state
sum_held m k before entry is =
    let one = sum_put k entry (entries m) (to_true _ (entries_sorted m)) in
    let found = ap found_events (sym (get-entries m k) ∙ is) in
    let made = ap sum_rows (entries-insert nat_cmp_total m k entry) in
    omega (arith, one, found, made)

pub sum_fresh : (m : CachedBlocks) (k : ℕ) (entry : Cached) → get m k ≡ None
    → events_until_all_clean (insert m k entry) ≡ events_until_all_clean m + events_until_clean entry.state
sum_fresh m k entry is =
    let one = sum_put k entry (entries m) (to_true _ (entries_sorted m)) in
    let found = ap found_events (sym (get-entries m k) ∙ is) in
    let made = ap sum_rows (entries-insert nat_cmp_total m k entry) in
    omega (arith, one, found, made)

-- a request of a block that begins or ends
held_other : (free : Bool) (m : CachedBlocks) (k b : ℕ) (before entry : Cached) → get m k ≡ Some before
    → events_by_state entry.state ≤ events_by_state before.state
    → events_until_held free (get (insert m k entry) b) ≤ events_until_held free (get m b)
held_other free m k b before entry is less = by (nat_eq k b) refl where
  by : (t : Bool) → nat_eq k b ≡ t → events_until_held free (get (insert m k entry) b) ≤ events_until_held free (get m b)
  by true same =
      let at = eqb-true k b same in
      let one = ap (events_until_held free) (ap (get (insert m k entry)) (sym at) ∙ get_same m k entry) in
      let two = ap (events_until_held free) (ap (get m) (sym at) ∙ is) in
      omega (arith, one, two, less)
  by false other = let same = ap (events_until_held free) (get_other m k b entry other) in omega (arith, same)

-- each block is closer where an entry comes closer to clean
pub closer_held : (cache : CacheState) (k : ℕ) (before entry : Cached) → get cache.cached k ≡ Some before
    → events_until_clean entry.state < events_until_clean before.state
    → events_by_state entry.state ≤ events_by_state before.state → (block : ℕ)
    → steps_left_in (with_entry cache k entry) block < steps_left_in cache block
closer_held cache k before entry is cleaner less block =
    let sum = sum_held cache.cached k before entry is in
    let size = len_held cache.cached k before entry is in
    let free = ap (λ n. events_until_held (nat_lt n cache.room) (get (insert cache.cached k entry) block)) size in
    let held = held_other (nat_lt (len cache.cached) cache.room) cache.cached k block before entry is less in
    omega (arith, sum, free, held, cleaner)

-- a GET of a block that begins brings that block closer, and so does its answer
pub closer_asked : (cache : CacheState) (k : ℕ) (entry : Cached) → get cache.cached k ≡ None
    → nat_lt (len cache.cached) cache.room ≡ true → events_until_clean entry.state ≡ 0
    → events_by_state entry.state ≡ 1
    → steps_left_in (with_entry cache k entry) k < steps_left_in cache k
closer_asked cache k entry is free clean one =
    let sum = sum_fresh cache.cached k entry is in
    let here = ap (events_until_held (nat_lt (len (insert cache.cached k entry)) cache.room)) (get_same cache.cached k entry)
    in
    let there = ap (events_until_held (nat_lt (len cache.cached) cache.room)) is in
    let two = ap {B = ℕ} (λ t. if t then 2 else 3) free in
    omega (arith, sum, here, there, two, clean, one)

pub closer_taken : (cache : CacheState) (k : ℕ) (before entry : Cached) → get cache.cached k ≡ Some before
    → events_until_clean before.state ≡ 0 → events_by_state before.state ≡ 1
    → events_until_clean entry.state ≡ 0 → events_by_state entry.state ≡ 0
    → steps_left_in (with_entry cache k entry) k < steps_left_in cache k
closer_taken cache k before entry is was open_ clean held =
    let sum = sum_held cache.cached k before entry is in
    let here = ap (events_until_held (nat_lt (len (insert cache.cached k entry)) cache.room)) (get_same cache.cached k entry)
    in
    let there = ap (events_until_held (nat_lt (len cache.cached) cache.room)) is in
    omega (arith, sum, here, there, was, open_, clean, held)

-- an entry that was removed and is put back
put_back : (m : CachedBlocks) (k : ℕ) (before : Cached) → get m k ≡ Some before → insert (remove m k) k before ≡ m
put_back m k before is = same_map nat_cmp_total nat_cmp-IsAntisymmetric (insert (remove m k) k before) m (λ q. by q (nat_eq k q) refl)
  where
    by : (q : ℕ) (t : Bool) → nat_eq k q ≡ t → get (insert (remove m k) k before) q ≡ get m q
    by q true same =
        subst (λ x. get (insert (remove m k) k before) x ≡ get m x) (eqb-true k q same)
        (get_same (remove m k) k before ∙ sym is)
    by q false other = get_other (remove m k) k q before other ∙ gone_other m k q other

pub sum_gone : (m : CachedBlocks) (k : ℕ) (before : Cached) → get m k ≡ Some before
    → events_until_all_clean m ≡ events_until_all_clean (remove m k) + events_until_clean before.state
sum_gone m k before is =
    ap events_until_all_clean (sym (put_back m k before is)) ∙ sum_fresh (remove m k) k before (gone_same m k)

pub len_dropped : (m : CachedBlocks) (k : ℕ) (before : Cached) → get m k ≡ Some before → len m ≡ len (remove m k) + 1
len_dropped m k before is = ap len (sym (put_back m k before is)) ∙ len_fresh (remove m k) k before (gone_same m k)

free_after : (a b n : ℕ) → a ≡ b + 1 → a ≤ n → nat_lt b n ≡ true
free_after a b n is le = grind (arith, nat_tests)

-- a drop from a full cache brings each block that has no entry closer
pub closer_dropped : (cache : CacheState) (k block : ℕ) (before : Cached) → get cache.cached k ≡ Some before
    → events_until_clean before.state ≡ 0 → get cache.cached block ≡ None → len cache.cached ≤ cache.room
    → nat_lt (len cache.cached) cache.room ≡ false → steps_left_in (without cache k) block < steps_left_in cache block
closer_dropped cache k block before is clean missing fits full =
    let sum = sum_gone cache.cached k before is in
    let free = free_after (len cache.cached) (len (remove cache.cached k)) cache.room
    (len_dropped cache.cached k before is) fits in
    let gone = still_missing (nat_eq k block) refl in
    let here = ap (events_until_held (nat_lt (len (remove cache.cached k)) cache.room)) gone in
    let there = ap (events_until_held (nat_lt (len cache.cached) cache.room)) missing in
    let two = ap {B = ℕ} (λ t. if t then 2 else 3) free in
    let three = ap {B = ℕ} (λ t. if t then 2 else 3) full in
    omega (arith, sum, here, there, two, three, clean) where
      still_missing : (t : Bool) → nat_eq k block ≡ t → get (remove cache.cached k) block ≡ None
      still_missing true same =
          subst (λ x. get (remove cache.cached k) x ≡ None) (eqb-true k block same) (gone_same cache.cached k)
      still_missing false other = gone_other cache.cached k block other ∙ missing
