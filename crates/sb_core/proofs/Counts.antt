-- Counts and choices among the blocks of a cache: how many are occupied or dirty, and which one is dropped next.
use Rattle.std.proofs.Common.{ℕ, zero, suc, ◌≡◌, ◌≢◌, ◌+◌, ◌<◌, ◌≤◌, Bool, true, false, not, ◌&&◌, ◌||◌, cond}
use Rattle.std.proofs.Common.{List, [], ◌∷◌, length, filter, Option, Some, None, is_some, is_none}
use Rattle.std.proofs.Common.{IsTrue, refl, sym, ◌∙◌, ap, subst, arith}
use Rattle.std.specs.Prelude.{nat_lt}
use Rattle.std.proofs.lemmas.Bool.Decides.{nat_tests}
use Rattle.std.specs.Ordering.{nat_cmp}
use Rattle.std.specs.FinMap.{find, is_sorted, get, entries, entries_sorted, get-entries, len, len-entries}
use Rattle.sb_base.specs.declared.geometry.Geometry.{Geometry}
use Rattle.sb_base.specs.declared.settings.Settings.{Settings}
use Rattle.sb_base.specs.declared.entry.Entry.{Entry}
use Rattle.sb_history.specs.Puts.{puts_of}
use Rattle.sb_history.specs.Gets.{fetch_of}
use Rattle.sb_history.specs.Writes.{is_dirty}
use Rattle.sb_history.specs.Eviction as eviction
use Rattle.sb_history.specs.Eviction.{is_occupied, waits_unverified, is_clean, last_use, count, lighter, lightest}
use Rattle.sb_history.specs.Eviction.{victim_of}
use Rattle.sb_history.specs.CachePolicy.{IsFull, FitsCache, HasNoVictim, IsTooDirty}
use Rattle.sb_blocks.specs.declared.cached.State.{State}
use Rattle.sb_blocks.specs.declared.cached.State.TheVariants.{Reading, Clean, Dirty, Writing, Writing2}
use Rattle.sb_blocks.specs.declared.cached.Cached.{Cached}
use Rattle.sb_blocks.specs.Cached as cached
use Rattle.sb_blocks.specs.Cached.{passes}
use Rattle.sb_blocks.specs.Caches.{CachedBlocks, count_in}
use Rattle.sb_blocks.specs.Orders.{unused_rank, rank_of, IsFirst, NoneRanks}
use Rattle.sb_rows.specs.RowLaws.{to_true, absent_below, sorted_head, sorted_tail, found_head}
use Rattle.sb_core.specs.Represents.{nothing_found, BlockStands}
use Rattle.sb_core.proofs.Histories.{none_unverified, lowest_none, lightest_none}
use Rattle.sb_core.proofs.Fields.{some_get, some_put}
use Rattle.sb_core.proofs.Lightest.{lightest_is}

-- how many of the first n blocks have a row that passes
rows_next : (test : State → Bool) (n : ℕ) (es : List (ℕ × Cached)) → IsTrue (is_sorted nat_cmp es)
    → length (filter (λ e. nat_lt e.0 (suc n) && test e.1.state) es)
    ≡ cond (passes test (find nat_cmp n es)) (1 + length (filter (λ e. nat_lt e.0 n && test e.1.state) es))
    (length (filter (λ e. nat_lt e.0 n && test e.1.state) es))
rows_next test n [] sorted = refl
rows_next test n (e ∷ es) sorted =
    let gone : n ≡ e.0 → find nat_cmp n es ≡ None = λ same. absent_below n es (rw same (sorted_head e es sorted)) in
    let tail = rows_next test n es (sorted_tail e es sorted) in
    grind (arith, nat_tests, tail, gone)

never_below : (n : ℕ) → nat_lt n 0 ≡ false
never_below n = grind (arith, nat_tests)

none_below : (test : State → Bool) (es : List (ℕ × Cached))
    → length (filter (λ e. nat_lt e.0 0 && test e.1.state) es) ≡ 0
none_below test [] = refl
none_below test (e ∷ es) = rw (never_below e.0) (none_below test es)

count_rows : (test : State → Bool) (es : List (ℕ × Cached)) → IsTrue (is_sorted nat_cmp es) → (n : ℕ)
    → count (λ b. passes test (find nat_cmp b es)) n ≡ length (filter (λ e. nat_lt e.0 n && test e.1.state) es)
count_rows test es sorted zero = sym (none_below test es)
count_rows test es sorted (suc n) = rw (count_rows test es sorted n) (sym (rows_next test n es sorted))

keys_tail : (e : ℕ × Cached) (es : List (ℕ × Cached)) (b : ℕ) → is_some (find nat_cmp b es) ≡ true
    → is_some (find nat_cmp b (e ∷ es)) ≡ true
keys_tail e es b some = grind (arith, nat_tests)

all_rows : (test : State → Bool) (n : ℕ) (es : List (ℕ × Cached))
    → ((b : ℕ) → is_some (find nat_cmp b es) ≡ true → b < n)
    → filter (λ e. nat_lt e.0 n && test e.1.state) es ≡ filter (λ e. test e.1.state) es
all_rows test n [] on = refl
all_rows test n (e ∷ es) on =
    let here : nat_lt e.0 n ≡ true = lt_true e.0 n (on e.0 (ap is_some (found_head e es))) in
    let tail = all_rows test n es (λ b some. on b (keys_tail e es b some)) in
    rw (here, tail) refl where
      lt_true : (a b : ℕ) → a < b → nat_lt a b ≡ true
      lt_true a b lt = grind (arith, nat_tests)

pub count_same : (one two : ℕ → Bool) → ((n : ℕ) → one n ≡ two n) → (n : ℕ) → count one n ≡ count two n
count_same one two same zero = refl
count_same one two same (suc n) = rw (same n, count_same one two same n) refl

-- the blocks whose entry passes a test, counted in the cache
pub count_cache : (test : State → Bool) (m : CachedBlocks) (n : ℕ)
    → ((b : ℕ) → is_some (get m b) ≡ true → b < n) → count (λ b. passes test (get m b)) n ≡ count_in test m
count_cache test m n on =
    count_same (λ b. passes test (get m b)) (λ b. passes test (find nat_cmp b (entries m)))
    (λ b. ap (passes test) (get-entries m b)) n
    ∙ count_rows test (entries m) (to_true _ (entries_sorted m)) n
    ∙ ap length (all_rows test n (entries m) (λ b some. on b (ap is_some (get-entries m b) ∙ some)))

filter_all : (es : List (ℕ × Cached)) → filter (λ e. true) es ≡ es
filter_all [] = refl
filter_all (e ∷ es) = ap (λ r. e ∷ r) (filter_all es)

pub count_any : (m : CachedBlocks) → count_in (λ state. true) m ≡ len m
count_any m = ap length (filter_all (entries m)) ∙ sym (len-entries m)

-- what the entry of a block says of it
module _ (block_size : ℕ) (past : List Entry) (block : ℕ) where
  occupied_by : (entry : Option Cached)
      → (is_some (cached.content_in entry) || (false || is_some (cached.get_in entry)))
      ≡ passes (λ state. true) entry
  occupied_by None = refl
  occupied_by (Some entry) = by entry.state entry.body where
    by : (state : State) (body : List ℕ)
        → (is_some (cached.content_by state body) || (false || is_some (cached.get_by state))) ≡ true
    by (Reading get) body = refl
    by Clean body = refl
    by (Dirty stamp since) body = refl
    by (Writing put stamp) body = refl
    by (Writing2 put stamp later since) body = refl

  pub occupied_is : (entry : Option Cached) → BlockStands block_size past block entry
      → is_occupied block_size nothing_found past block ≡ passes (λ state. true) entry
  occupied_is entry s =
      rw (s.content, none_unverified nothing_found (λ b. refl) past block, some_get (fetch_of past block), s.asks)
      (occupied_by entry)

  dirty_by : (entry : Option Cached)
      → (not (is_none (cached.stamp_in entry)) && not (is_some (cached.put_in entry))) ≡ passes cached.is_dirty entry
  dirty_by None = refl
  dirty_by (Some entry) = by entry.state where
    by : (state : State)
        → (not (is_none (cached.stamp_by state)) && not (is_some (cached.put_by state))) ≡ cached.is_dirty state
    by (Reading get) = refl
    by Clean = refl
    by (Dirty stamp since) = refl
    by (Writing put stamp) = refl
    by (Writing2 put stamp later since) = refl

  pub dirty_is : (entry : Option Cached) → BlockStands block_size past block entry
      → is_dirty block_size nothing_found past block ≡ passes cached.is_dirty entry
  dirty_is entry s = rw (s.stamp.some, some_put (puts_of past block), s.puts) (dirty_by entry)

  clean_by : (entry : Option Cached)
      → (is_some (cached.content_in entry) && (is_none (cached.stamp_in entry) && not (is_some (cached.put_in entry))))
      ≡ passes cached.is_clean entry
  clean_by None = refl
  clean_by (Some entry) = by entry.state entry.body where
    by : (state : State) (body : List ℕ)
        → (is_some (cached.content_by state body)
        && (is_none (cached.stamp_by state) && not (is_some (cached.put_by state)))) ≡ cached.is_clean state
    by (Reading get) body = refl
    by Clean body = refl
    by (Dirty stamp since) body = refl
    by (Writing put stamp) body = refl
    by (Writing2 put stamp later since) body = refl

  pub clean_is : (entry : Option Cached) → BlockStands block_size past block entry
      → is_clean block_size nothing_found past block ≡ passes cached.is_clean entry
  clean_is entry s = rw (s.content, s.stamp.some, some_put (puts_of past block), s.puts) (clean_by entry)

  -- the rank of a clean block is the place of its last use
  clean_weight : (entry : Option Cached) → BlockStands block_size past block entry
      → passes cached.is_clean entry ≡ true → rank_of unused_rank block entry ≡ Some (last_use past block).place
  clean_weight None s clean = absurd (cc)
  clean_weight (Some entry) s clean = by entry.state refl where
    by : (state : State) → entry.state ≡ state
        → rank_of unused_rank block (Some entry) ≡ Some (last_use past block).place
    by (Reading get) is = absurd (let e = sym (ap cached.is_clean is) ∙ clean in cc)
    by Clean is =
        let used = rw is at s.used in
        rw is (ap (λ (u : eviction.Use). Some u.place) (sym used))
    by (Dirty stamp since) is = absurd (let e = sym (ap cached.is_clean is) ∙ clean in cc)
    by (Writing put stamp) is = absurd (let e = sym (ap cached.is_clean is) ∙ clean in cc)
    by (Writing2 put stamp later since) is = absurd (let e = sym (ap cached.is_clean is) ∙ clean in cc)

  pub rank_clean : (entry : Option Cached) (rank : ℕ) → rank_of unused_rank block entry ≡ Some rank
      → passes cached.is_clean entry ≡ true
  rank_clean None rank is = absurd (cc)
  rank_clean (Some entry) rank is = by entry.state refl where
    by : (state : State) → entry.state ≡ state → cached.is_clean entry.state ≡ true
    by (Reading get) so = absurd (let e = rw so at is in cc)
    by Clean so = ap cached.is_clean so
    by (Dirty stamp since) so = absurd (let e = rw so at is in cc)
    by (Writing put stamp) so = absurd (let e = rw so at is in cc)
    by (Writing2 put stamp later since) so = absurd (let e = rw so at is in cc)

  none_clean : (entry : Option Cached) → rank_of unused_rank block entry ≡ None → passes cached.is_clean entry ≡ false
  none_clean None is = refl
  none_clean (Some entry) is = by entry.state refl where
    by : (state : State) → entry.state ≡ state → cached.is_clean entry.state ≡ false
    by (Reading get) so = ap cached.is_clean so
    by Clean so = absurd (let e = rw so at is in cc)
    by (Dirty stamp since) so = ap cached.is_clean so
    by (Writing put stamp) so = ap cached.is_clean so
    by (Writing2 put stamp later since) so = ap cached.is_clean so

-- the whole cache
module _ (geometry : Geometry) (past : List Entry) (m : CachedBlocks)
    (on_disk : (b : ℕ) → is_some (get m b) ≡ true → b < geometry.blocks)
    (blocks : (b : ℕ) → BlockStands geometry.block_size past b (get m b)) where
  pub count_occupied : count (is_occupied geometry.block_size nothing_found past) geometry.blocks ≡ len m
  count_occupied =
      count_same (is_occupied geometry.block_size nothing_found past) (λ b. passes (λ state. true) (get m b))
      (λ b. occupied_is geometry.block_size past b (get m b) (blocks b)) geometry.blocks
      ∙ count_cache (λ state. true) m geometry.blocks on_disk ∙ count_any m

  pub count_dirty : count (is_dirty geometry.block_size nothing_found past) geometry.blocks ≡ count_in cached.is_dirty m
  count_dirty =
      count_same (is_dirty geometry.block_size nothing_found past) (λ b. passes cached.is_dirty (get m b))
      (λ b. dirty_is geometry.block_size past b (get m b) (blocks b)) geometry.blocks
      ∙ count_cache cached.is_dirty m geometry.blocks on_disk

  pub fits_cache : (settings : Settings) → len m ≤ settings.cache_size
      → FitsCache geometry settings nothing_found past
  fits_cache settings fits = omega (arith, count_occupied, fits)

  pub full_cache : (settings : Settings) → len m ≡ settings.cache_size → IsFull geometry settings nothing_found past
  full_cache settings full = count_occupied ∙ full

  pub too_dirty : (settings : Settings) → settings.max_dirty ≢ 0 → settings.max_dirty ≤ count_in cached.is_dirty m
      → IsTooDirty geometry settings nothing_found past
  too_dirty settings limited reached = (limited, omega (arith, count_dirty, reached))

  none_waits : (b : ℕ) → waits_unverified nothing_found past b ≡ false
  none_waits b = rw (none_unverified nothing_found (λ b. refl) past b) refl

  passed_block : (b : ℕ) → passes cached.is_clean (get m b) ≡ true → b < geometry.blocks
  passed_block b clean = on_disk b (some_passes (get m b) clean) where
    some_passes : (entry : Option Cached) → passes cached.is_clean entry ≡ true → is_some entry ≡ true
    some_passes None is = absurd (cc)
    some_passes (Some entry) is = refl

  -- the first clean block by its use is the victim
  pub victim_is : (rank b : ℕ) → IsFirst unused_rank m rank b
      → victim_of geometry.block_size geometry.blocks nothing_found past ≡ Some b
  victim_is rank b first =
      let size = geometry.block_size in
      let clean = rank_clean size past b (get m b) rank first.ranks_so in
      let here = clean_weight size past b (get m b) (blocks b) clean in
      let mine : rank ≡ (last_use past b).place = same_number rank (last_use past b).place (sym first.ranks_so ∙ here) in
      let theirs : (o : ℕ) → is_clean size nothing_found past o ≡ true
      → rank_of unused_rank o (get m o) ≡ Some (last_use past o).place =
      λ o test. clean_weight size past o (get m o) (blocks o) (sym (clean_is size past o (get m o) (blocks o)) ∙ test)
      in
      rw (lowest_none (waits_unverified nothing_found past) none_waits geometry.blocks)
      (lightest_is (is_clean size nothing_found past) (λ block. (last_use past block).place) b
      (clean_is size past b (get m b) (blocks b) ∙ clean)
      (λ o test. subst (λ r. r ≤ (last_use past o).place) mine (first.least o (last_use past o).place (theirs o test)))
      (λ o test tie. first.lowest o (theirs o test ∙ ap Some (tie ∙ sym mine)))
      geometry.blocks (passed_block b clean)) where
        same_number : (x y : ℕ) → Some x ≡ Some y → x ≡ y
        same_number x y is = cc

  pub victim_none : NoneRanks unused_rank m
      → victim_of geometry.block_size geometry.blocks nothing_found past ≡ None
  victim_none none =
      rw (lowest_none (waits_unverified nothing_found past) none_waits geometry.blocks)
      (lightest_none (is_clean geometry.block_size nothing_found past) (λ block. (last_use past block).place)
      (λ b. clean_is geometry.block_size past b (get m b) (blocks b)
      ∙ none_clean geometry.block_size past b (get m b) (none b)) geometry.blocks)

  pub no_victim : (settings : Settings) → len m ≡ settings.cache_size → NoneRanks unused_rank m
      → HasNoVictim geometry settings nothing_found past
  no_victim settings full none = (full_cache settings full, victim_none none)
