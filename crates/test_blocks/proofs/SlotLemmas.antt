-- A slot for each block as a finite map.
use Rattle.std.proofs.Common.{◌≡◌, ℕ, zero, suc, ◌<◌, ◌≤◌, ◌+◌, ◌-◌, Bool, true, false, cond, List, [], ◌∷◌, length}
use Rattle.std.proofs.Common.{get_or, set, Option, Some, None, is_some, IsTrue, refl, sym, ap, subst, ◌∙◌, arith, replicate}
use Rattle.std.specs.Prelude.{if◌then◌else◌}
use Rattle.std.specs.List.{filter}
use Rattle.std.specs.Ordering.{nat_cmp}
use Rattle.std.specs.Cmp.{nat_cmp_total}
use Rattle.std.specs.FinMap as map
use Rattle.std.specs.FinMap.{find, is_sorted, get, len, len-insert, len-remove}
use Rattle.std.specs.FinMap.Entries.{below_all}
use Rattle.std.proofs.lemmas.List.{get_or-set_same, get_or-set_other, length-set}
use Rattle.sb_base.specs.declared.geometry.Geometry.{Geometry}
use Rattle.sb_rows.specs.RowLaws.{below_join, sorted_join, absent_below, found_head, found_tail, get_rows, no_rows}
use Rattle.sb_rows.specs.RowLaws.{len_rows, entries_rows, get_set, get_set_other, get_gone, get_gone_other, same_by}
use Rattle.sb_blocks.specs.declared.cached.State.{State}
use Rattle.sb_blocks.specs.declared.cached.Cached.{Cached}
use Rattle.sb_blocks.specs.Cached.{passes, get_in, put_in, is_clean, is_dirty, content_by, content_in}
use Rattle.sb_blocks.specs.Caches.{CacheState, with_cached, with_entry, without, count_in, Changes, after_write}
use Rattle.sb_base.specs.declared.entry.Shown.{Shown}
use Rattle.sb_base.specs.declared.entry.Shown.TheVariants as shown
use Rattle.sb_history.specs.Cache.{answer_content}
use Rattle.std.proofs.lemmas.Grind.{common_steps}
use Rattle.std.specs.Prelude.{◌&&◌}
use Rattle.sb_base.specs.declared.part.Part.{Part}
use Rattle.sb_history.specs.Contents.{zeros, is_zeros, overlay}
use Rattle.sb_blocks.specs.declared.cached.State.TheVariants.{Reading, Clean, Dirty, Writing, Writing2}
use Rattle.sb_blocks.specs.Moves.{ShowsContent, written, first_written, used_at}
use Rattle.sb_blocks.specs.Calls.{CopiesBody, MayWritePart}
use Rattle.std.proofs.lemmas.List.{length-replicate}
use Rattle.test_blocks.specs.Slots.{rows_from, cached_of, cache_of, FitsSlot, AllFit, AreSlots}

below_from : (slots : List (Option Cached)) (x n : ℕ) → x < n → IsTrue (below_all nat_cmp x (rows_from n slots))
below_from [] x n lt = refl
below_from (None ∷ slots) x n lt = below_from slots x (n + 1) (omega (arith, lt))
below_from (Some e ∷ slots) x n lt =
    below_join x (n, e) (rows_from (n + 1) slots) lt (below_from slots x (n + 1) (omega (arith, lt)))

sorted_from : (slots : List (Option Cached)) (n : ℕ) → IsTrue (is_sorted nat_cmp (rows_from n slots))
sorted_from [] n = refl
sorted_from (None ∷ slots) n = sorted_from slots (n + 1)
sorted_from (Some e ∷ slots) n =
    sorted_join (n, e) (rows_from (n + 1) slots) (below_from slots n (n + 1) (omega arith)) (sorted_from slots (n + 1))

-- what is found of a block is its slot
find_from : (slots : List (Option Cached)) (n i b : ℕ) → b ≡ n + i
    → find nat_cmp b (rows_from n slots) ≡ get_or slots i None
find_from [] n i b is = refl
find_from (None ∷ slots) n zero b is =
    absent_below b (rows_from (n + 1) slots) (below_from slots b (n + 1) (omega (arith, is)))
find_from (None ∷ slots) n (suc i) b is = find_from slots (n + 1) i b (omega (arith, is))
find_from (Some e ∷ slots) n zero b is =
    let same : b ≡ n = omega (arith, is) in
    ap (λ k. find nat_cmp k ((n, e) ∷ rows_from (n + 1) slots)) same ∙ found_head (n, e) (rows_from (n + 1) slots)
find_from (Some e ∷ slots) n (suc i) b is =
    found_tail b (n, e) (rows_from (n + 1) slots) (λ same. apart same) ∙ find_from slots (n + 1) i b (omega (arith, is))
  where
    apart : b ≡ n → ⊥
    apart same = omega (arith, same, is)

pub get_slot : (slots : List (Option Cached)) (b : ℕ) → get (cached_of slots) b ≡ get_or slots b None
get_slot slots b = get_rows (rows_from 0 slots) b (sorted_from slots 0) ∙ find_from slots 0 b b (omega arith)

-- after a slot was set or emptied
pub set_slot : (slots : List (Option Cached)) (b : ℕ) (entry : Cached) → b < length slots
    → cached_of (set slots b (Some entry)) ≡ map.insert (cached_of slots) b entry
set_slot slots b entry lt =
    same_by _ b _ (get_slot (set slots b (Some entry)) b ∙ get_or-set_same slots b (Some entry) None lt
    ∙ sym (get_set (cached_of slots) b entry))
    (λ q apart. get_slot (set slots b (Some entry)) q ∙ get_or-set_other slots b q (Some entry) None apart
    ∙ sym (get_set_other (cached_of slots) b entry q apart ∙ get_slot slots q))

pub empty_slot : (slots : List (Option Cached)) (b : ℕ) → b < length slots
    → cached_of (set slots b None) ≡ map.remove (cached_of slots) b
empty_slot slots b lt =
    same_by _ b _ (get_slot (set slots b None) b ∙ get_or-set_same slots b None None lt
    ∙ sym (get_gone (cached_of slots) b))
    (λ q apart. get_slot (set slots b None) q ∙ get_or-set_other slots b q None None apart
    ∙ sym (get_gone_other (cached_of slots) b q apart ∙ get_slot slots q))

-- each body is one block long
pub fit_at : (size : ℕ) (slots : List (Option Cached)) (b : ℕ) → AllFit size slots → FitsSlot size (get_or slots b None)
fit_at size [] b fit = tt
fit_at size (s ∷ ss) zero fit = fit.0
fit_at size (s ∷ ss) (suc b) fit = fit_at size ss b fit.1

pub fit_set : (size : ℕ) (slots : List (Option Cached)) (b : ℕ) (slot : Option Cached) → AllFit size slots
    → FitsSlot size slot → AllFit size (set slots b slot)
fit_set size [] b slot fit is = tt
fit_set size (s ∷ ss) zero slot fit is = (is, fit.1)
fit_set size (s ∷ ss) (suc b) slot fit is = (fit.0, fit_set size ss b slot fit.1 is)

-- slots without entries
pub fit_none : (size n : ℕ) → AllFit size (replicate n None)
fit_none size zero = tt
fit_none size (suc n) = (tt, fit_none size n)

none_from : (n b : ℕ) → rows_from b (replicate n None) ≡ []
none_from zero b = refl
none_from (suc n) b = none_from n (b + 1)

pub no_slots : (n : ℕ) → cached_of (replicate n None) ≡ map.empty
no_slots n = no_rows (rows_from 0 (replicate n None)) (none_from n 0)

-- how many there are
passing_rows : (test : State → Bool) (slots : List (Option Cached)) (n : ℕ)
    → length (filter (passes test) slots) ≡ length (filter (λ e. test e.1.state) (rows_from n slots))
passing_rows test [] n = refl
passing_rows test (None ∷ slots) n = passing_rows test slots (n + 1)
passing_rows test (Some e ∷ slots) n = by (test e.state) (passing_rows test slots (n + 1)) where
  by : (b : Bool) → length (filter (passes test) slots) ≡ length (filter (λ e. test e.1.state) (rows_from (n + 1) slots))
      → length (if b then Some e ∷ filter (passes test) slots else filter (passes test) slots)
      ≡ length (if b then (n, e) ∷ filter (λ e. test e.1.state) (rows_from (n + 1) slots)
      else filter (λ e. test e.1.state) (rows_from (n + 1) slots))
  by true is = ap suc is
  by false is = is

pub counts_passing : (test : State → Bool) (slots : List (Option Cached))
    → length (filter (passes test) slots) ≡ count_in test (cached_of slots)
counts_passing test slots =
    passing_rows test slots 0
    ∙ ap (λ es. length (filter (λ e. test e.1.state) es)) (sym (entries_rows (rows_from 0 slots) (sorted_from slots 0)))

held_rows : (slots : List (Option Cached)) (n : ℕ) → length (filter is_some slots) ≡ length (rows_from n slots)
held_rows [] n = refl
held_rows (None ∷ slots) n = held_rows slots (n + 1)
held_rows (Some e ∷ slots) n = ap suc (held_rows slots (n + 1))

pub counts_held : (slots : List (Option Cached)) → length (filter is_some slots) ≡ len (cached_of slots)
counts_held slots = held_rows slots 0 ∙ sym (len_rows (rows_from 0 slots) (sorted_from slots 0))

default_free : (slots : List (Option Cached)) (b : ℕ) (d e : Option Cached) → b < length slots
    → get_or slots b d ≡ get_or slots b e
default_free [] b d e lt = absurd (omega (arith, lt))
default_free (s ∷ ss) zero d e lt = refl
default_free (s ∷ ss) (suc b) d e lt = default_free ss b d e (omega (arith, lt))

beyond : (slots : List (Option Cached)) (b : ℕ) → length slots ≤ b → get_or slots b None ≡ None
beyond [] b le = refl
beyond (s ∷ ss) zero le = absurd (omega (arith, le))
beyond (s ∷ ss) (suc b) le = beyond ss b (omega (arith, le))

module _ (geometry : Geometry) (room : ℕ) (slots : List (Option Cached)) (old : CacheState)
    (view : cache_of geometry room slots ≡ old) (shaped : AreSlots geometry room slots) where
  map_is : cached_of slots ≡ old.cached
  map_is = ap (λ (c : CacheState). c.cached) view

  pub on_slots : (b : ℕ) → b < old.geometry.blocks → b < length slots
  on_slots b on = let same = ap (λ (c : CacheState). c.geometry.blocks) view in omega (arith, on, same, shaped.each)

  pub found : (b : ℕ) (slot d : Option Cached) → b < length slots → slot ≡ get_or slots b d → get old.cached b ≡ slot
  found b slot d on value =
      ap (λ m. get m b) (sym map_is) ∙ get_slot slots b ∙ default_free slots b None d on ∙ sym value

  pub none_beyond : (b : ℕ) → geometry.blocks ≤ b → get old.cached b ≡ None
  none_beyond b past =
      ap (λ m. get m b) (sym map_is) ∙ get_slot slots b ∙ beyond slots b (omega (arith, past, shaped.each))

  fits_slot : (size : ℕ) (slot : Option Cached) (entry : Cached) → slot ≡ Some entry → FitsSlot size slot
      → length entry.body ≡ size
  fits_slot size slot entry is fits = subst (FitsSlot size) is fits

  pub body_sized : (b : ℕ) (entry : Cached) → get old.cached b ≡ Some entry
      → length entry.body ≡ old.geometry.block_size
  body_sized b entry is =
      fits_slot geometry.block_size (get_or slots b None) entry
      (sym (get_slot slots b) ∙ ap (λ m. get m b) map_is ∙ is) (fit_at geometry.block_size slots b shaped.fit)
      ∙ ap (λ (c : CacheState). c.geometry.block_size) view

  -- an entry is set over one
  pub set_shaped : (b : ℕ) (before entry : Cached) → b < length slots → get old.cached b ≡ Some before
      → length entry.body ≡ length before.body → AreSlots geometry room (set slots b (Some entry))
  set_shaped b before entry on is same =
      let size = body_sized b before is in
      let ours = ap (λ (c : CacheState). c.geometry.block_size) view in
      let here = ap (λ m. get m b) map_is ∙ is in
      let held = len-insert nat_cmp_total (cached_of slots) b entry
      ∙ ap (λ (f : Option Cached). cond (is_some f) (len (cached_of slots)) (len (cached_of slots) + 1)) here in
      record {
        each = length-set slots b (Some entry) ∙ shaped.each;
        fit = fit_set geometry.block_size slots b (Some entry) shaped.fit (same ∙ size ∙ sym ours);
        enough = let more = ap len (set_slot slots b entry on) in omega (arith, more, held, shaped.enough);
      }

  -- an entry is set where there was none
  pub fresh_shaped : (b : ℕ) (entry : Cached) → b < length slots → get old.cached b ≡ None
      → len old.cached < old.room → length entry.body ≡ old.geometry.block_size
      → AreSlots geometry room (set slots b (Some entry))
  fresh_shaped b entry on is free sized =
      let ours = ap (λ (c : CacheState). c.geometry.block_size) view in
      let rooms = ap (λ (c : CacheState). c.room) view in
      let lens = ap len map_is in
      let here = ap (λ m. get m b) map_is ∙ is in
      let held = len-insert nat_cmp_total (cached_of slots) b entry
      ∙ ap (λ (f : Option Cached). cond (is_some f) (len (cached_of slots)) (len (cached_of slots) + 1)) here in
      record {
        each = length-set slots b (Some entry) ∙ shaped.each;
        fit = fit_set geometry.block_size slots b (Some entry) shaped.fit (sized ∙ sym ours);
        enough = let more = ap len (set_slot slots b entry on) in omega (arith, more, held, free, rooms, lens);
      }

  pub set_view : (b : ℕ) (entry : Cached) → b < length slots
      → cache_of geometry room (set slots b (Some entry)) ≡ with_entry old b entry
  set_view b entry on =
      ap (λ m. with_cached (cache_of geometry room slots) m) (set_slot slots b entry on)
      ∙ ap (λ (c : CacheState). with_entry c b entry) view

  -- a slot is emptied
  fewer : (t : Bool) (after before : ℕ) → after ≡ cond t (before - 1) before → after ≤ before
  fewer true after before is = omega (arith, is)
  fewer false after before is = omega (arith, is)

  pub gone_shaped : (b : ℕ) → b < length slots → AreSlots geometry room (set slots b None)
  gone_shaped b on =
      let less = fewer (is_some (get (cached_of slots) b)) (len (map.remove (cached_of slots) b)) (len (cached_of slots))
      (len-remove nat_cmp_total (cached_of slots) b) in
      record {
        each = length-set slots b None ∙ shaped.each;
        fit = fit_set geometry.block_size slots b None shaped.fit tt;
        enough = let same = ap len (empty_slot slots b on) in omega (arith, same, less, shaped.enough);
      }

  pub gone_view : (b : ℕ) → b < length slots → cache_of geometry room (set slots b None) ≡ without old b
  gone_view b on =
      ap (λ m. with_cached (cache_of geometry room slots) m) (empty_slot slots b on)
      ∙ ap (λ (c : CacheState). without c b) view

  pub counted : length (filter is_some slots) ≡ len old.cached
  counted = counts_held slots ∙ ap len map_is

  pub passing : (test : State → Bool) → length (filter (passes test) slots) ≡ count_in test old.cached
  passing test = counts_passing test slots ∙ ap (count_in test) map_is

  pub enough_room : len old.cached ≤ room
  enough_room = let lens = ap len map_is in omega (arith, lens, shaped.enough)

pub never_some : (held : Option Cached) → held ≡ None → is_some held ≡ true → ⊥
never_some None none is = cc
never_some (Some entry) none is = cc

-- a clean block of zeros
abbrev pub clean_zeros : ℕ → Cached
clean_zeros size = record { state = Clean; last = record { place = 0; reading = 0 }; body = zeros size }

pub after_fresh : (cache new : CacheState) (known_zero : Bool) (now place epoch : ℕ) (part : Part) (bytes : List ℕ)
    (entry : Cached)
    → entry ≡ written known_zero now place epoch part.offset bytes (clean_zeros cache.geometry.block_size)
    → is_clean entry.state ≡ false → new ≡ with_entry cache part.block entry
    → new ≡ after_write cache known_zero now place epoch part bytes None
after_fresh cache new known_zero now place epoch part bytes entry is kept so =
    by (known_zero && is_zeros (overlay (zeros cache.geometry.block_size) part.offset bytes))
    (sym (ap (λ (e : Cached). is_clean e.state) is) ∙ kept) (so ∙ ap (with_entry cache part.block) is) where
      by : (t : Bool) → is_clean (if t then Clean else Dirty epoch now) ≡ false
          → new ≡ with_entry cache part.block
          (record { state = if t then Clean else Dirty epoch now; last = used_at place now; body = overlay (zeros cache.geometry.block_size) part.offset bytes })
          → new ≡ (if t then cache
          else with_entry cache part.block (first_written now place epoch (overlay (zeros cache.geometry.block_size) part.offset bytes)))
      by true clean is_ = absurd (cc)
      by false clean is_ = is_

pub after_none : (cache : CacheState) (known_zero : Bool) (now place epoch : ℕ) (part : Part) (bytes : List ℕ)
    (entry : Cached)
    → entry ≡ written known_zero now place epoch part.offset bytes (clean_zeros cache.geometry.block_size)
    → is_clean entry.state ≡ true → cache ≡ after_write cache known_zero now place epoch part bytes None
after_none cache known_zero now place epoch part bytes entry is gone =
    by (known_zero && is_zeros (overlay (zeros cache.geometry.block_size) part.offset bytes))
    (sym (ap (λ (e : Cached). is_clean e.state) is) ∙ gone) where
      by : (t : Bool) → is_clean (if t then Clean else Dirty epoch now) ≡ true
          → cache ≡ (if t then cache
          else with_entry cache part.block (first_written now place epoch (overlay (zeros cache.geometry.block_size) part.offset bytes)))
      by true clean = refl
      by false clean = absurd (cc)

-- which write it is
pub may_miss : (cache : CacheState) (known_zero : Bool) (part : Part) (held : Option Cached) → is_some held ≡ false
    → MayWritePart cache known_zero part held → (held ≡ None) × (len cache.cached < cache.room)
may_miss cache known_zero part None is may = (refl, may.0)
may_miss cache known_zero part (Some entry) is may = absurd (cc)
