-- What each change of a core leaves true of its fields.
use Rattle.std.proofs.Common.{ℕ, ◌≡◌, ◌≢◌, ◌<◌, ◌≤◌, Bool, true, false, nat_eq, if◌then◌else◌, List, Option, Some, None}
use Rattle.std.proofs.Common.{is_some, refl, sym, ◌∙◌, ap, cond, eqb, arith}
use Rattle.std.proofs.lemmas.Bool.{eqb-true, eq-eqb}
use Rattle.std.proofs.lemmas.Bool.Decides.{nat_tests}
use Rattle.std.specs.FinMap.{get, len, insert, remove, empty, get-insert, get-empty, len-empty}
use Rattle.std.specs.Cmp.{nat_cmp_total}
use Rattle.std.specs.Ordering.{nat_cmp}
use Rattle.sb_base.specs.declared.geometry.Geometry.{Geometry}
use Rattle.sb_base.specs.declared.settings.Settings.{Settings}
use Rattle.sb_base.specs.SettingsTable.{IsChecked}
use Rattle.sb_window.specs.declared.last_put.Ending.{Ending}
use Rattle.sb_window.specs.declared.last_put.LastPut.{LastPut}
use Rattle.sb_window.specs.LastPuts.{if_kept, is_end_kept, kept_puts}
use Rattle.sb_window.specs.Windows.{WindowState, new_window, begun, ended, puts_ended, is_open, expected}
use Rattle.sb_window.proofs.WindowLemmas.{get_kept, held_stays}
use Rattle.sb_window.proofs.EventLemmas.{same_key}
use Rattle.sb_blocks.specs.declared.cached.Cached.{Cached}
use Rattle.sb_blocks.specs.Cached.{get_in, get_by, put_in, put_by}
use Rattle.sb_blocks.specs.Caches.{CachedBlocks, CacheState, with_entry, without, new_cache}
use Rattle.sb_core.specs.PutWindow.{IsWindowOf, OpensWith}
use Rattle.sb_core.specs.Fitting.{has_expect, IsCacheOf, ExpectsNone}
use Rattle.sb_core.proofs.PutLaws.{none_expected}
use Rattle.sb_core.proofs.Maps.{inserted, removed, len_held, len_fresh, len_gone}

no_open : (held : Option LastPut) → held ≡ None → is_open held ≡ false
no_open held is = ap is_open is

no_some : {X : Type 0} (held : Option X) → held ≡ None → is_some held ≡ true → ⊥
no_some held none some = cc

-- a new window
pub new_is_window : (geometry : Geometry) (settings : Settings) → IsChecked settings (Some geometry.blocks)
    → IsWindowOf geometry settings (new_window settings)
new_is_window geometry settings checked = record {
  delay = refl;
  time = refl;
  size = refl;
  fits = omega (arith, len-empty nat_cmp LastPut);
  on_disk = λ block some. absurd (no_some (get empty block) (get-empty nat_cmp block) some);
  holds_each = checked.window_holds;
}

pub new_opens : (settings : Settings) → OpensWith empty (new_window settings)
new_opens settings = record {
  opened = λ on block. no_open (get empty block) (get-empty nat_cmp block)
      ∙ sym (ap (λ (e : Option Cached). is_some (put_in e)) (get-empty nat_cmp block));
}

pub new_is_cache : (geometry : Geometry) (settings : Settings) → IsChecked settings (Some geometry.blocks)
    → IsCacheOf geometry settings (new_cache geometry settings.cache_size)
new_is_cache geometry settings checked = record {
  block_size = refl;
  blocks = refl;
  room = refl;
  some = checked.cache_size.0;
  fits = omega (arith, len-empty nat_cmp Cached);
  on_disk = λ block some. absurd (no_some (get empty block) (get-empty nat_cmp block) some);
}

pub new_expects : (settings : Settings) → ExpectsNone settings empty
new_expects settings off block = ap (λ (e : Option Cached). has_expect (get_in e)) (get-empty nat_cmp block)

-- the cache after an edit
pub held_is_cache : (geometry : Geometry) (settings : Settings) (cache : CacheState) (block : ℕ) (before entry : Cached)
    → get cache.cached block ≡ Some before → IsCacheOf geometry settings cache
    → IsCacheOf geometry settings (with_entry cache block entry)
held_is_cache geometry settings cache block before entry found is = record {
  block_size = is.block_size;
  blocks = is.blocks;
  room = is.room;
  some = is.some;
  fits = (let same = len_held cache.cached block before entry found in let fits = is.fits in omega (arith, same, fits));
  on_disk = inserted cache.cached block entry (λ b e. is_some e ≡ true → b < geometry.blocks)
      (λ _. is.on_disk block (ap is_some found)) (λ b other. is.on_disk b);
}

pub fresh_is_cache : (geometry : Geometry) (settings : Settings) (cache : CacheState) (block : ℕ) (entry : Cached)
    → get cache.cached block ≡ None → len cache.cached < cache.room → block < geometry.blocks
    → IsCacheOf geometry settings cache → IsCacheOf geometry settings (with_entry cache block entry)
fresh_is_cache geometry settings cache block entry missing free on is = record {
  block_size = is.block_size;
  blocks = is.blocks;
  room = is.room;
  some = is.some;
  fits = (let more = len_fresh cache.cached block entry missing in omega (arith, more, free));
  on_disk = inserted cache.cached block entry (λ b e. is_some e ≡ true → b < geometry.blocks)
      (λ _. on) (λ b other. is.on_disk b);
}

pub gone_is_cache : (geometry : Geometry) (settings : Settings) (cache : CacheState) (block : ℕ)
    → IsCacheOf geometry settings cache → IsCacheOf geometry settings (without cache block)
gone_is_cache geometry settings cache block is = record {
  block_size = is.block_size;
  blocks = is.blocks;
  room = is.room;
  some = is.some;
  fits = (let less = len_gone cache.cached block in let fits = is.fits in omega (arith, less, fits));
  on_disk = removed cache.cached block (λ b e. is_some e ≡ true → b < geometry.blocks) (λ some. absurd (cc))
      (λ b other. is.on_disk b);
}

-- the puts that are open, after an edit that begins and ends none
pub opens_entry : (m : CachedBlocks) (window : WindowState) (block : ℕ) (entry : Cached)
    → is_some (put_in (get m block)) ≡ is_some (put_by entry.state) → OpensWith m window
    → OpensWith (insert m block entry) window
opens_entry m window block entry same is = record {
  opened = λ on. inserted m block entry (λ b e. is_open (get window.puts b) ≡ is_some (put_in e))
      (is.opened on block ∙ same) (λ b other. is.opened on b);
}

pub opens_gone : (m : CachedBlocks) (window : WindowState) (block : ℕ) → is_some (put_in (get m block)) ≡ false
    → OpensWith m window → OpensWith (remove m block) window
opens_gone m window block same is = record {
  opened = λ on. removed m block (λ b e. is_open (get window.puts b) ≡ is_some (put_in e))
      (is.opened on block ∙ same) (λ b other. is.opened on b);
}

pub expects_entry : (settings : Settings) (m : CachedBlocks) (block : ℕ) (entry : Cached)
    → (settings.md5_size ≡ 0 → has_expect (get_by entry.state) ≡ false) → ExpectsNone settings m
    → ExpectsNone settings (insert m block entry)
expects_entry settings m block entry none is off =
    inserted m block entry (λ b e. has_expect (get_in e) ≡ false) (none off) (λ b other. is off b)

pub expects_gone : (settings : Settings) (m : CachedBlocks) (block : ℕ) → ExpectsNone settings m
    → ExpectsNone settings (remove m block)
expects_gone settings m block is off =
    removed m block (λ b e. has_expect (get_in e) ≡ false) refl (λ b other. is off b)

-- a GET that begins expects nothing without a window
pub get_expects : (geometry : Geometry) (settings : Settings) (window : WindowState) (block now : ℕ)
    → IsWindowOf geometry settings window → settings.md5_size ≡ 0 → is_some (expected window block now) ≡ false
get_expects geometry settings window block now is off =
    ap is_some (none_expected window block now is.fits (is.size ∙ off))

-- after the begin of a PUT
pub begun_is_window :
    (geometry : Geometry) (settings : Settings) (window : WindowState) (block now : ℕ)
    → IsWindowOf geometry settings window → block < geometry.blocks
    → len (begun window block now).puts ≤ window.md5_size
    → IsWindowOf geometry settings (begun window block now)
begun_is_window geometry settings window block now is on fits = record {
  delay = is.delay;
  time = is.time;
  size = is.size;
  fits = fits;
  on_disk = λ b some. by b (nat_eq window.md5_size 0) some;
  holds_each = is.holds_each;
} where
  kept_some : (time : ℕ) (held : Option LastPut) → is_some (if_kept time now held) ≡ true → is_some held ≡ true
  kept_some time None some = some
  kept_some time (Some old) some = refl

  kept_on : (b : ℕ) → is_some (get (kept_puts window.md5_time now window.puts) b) ≡ true → b < geometry.blocks
  kept_on b some =
      is.on_disk b (kept_some window.md5_time (get window.puts b)
      (ap is_some (sym (get_kept window.md5_time now b window.puts)) ∙ some))

  set_on : (b : ℕ) (t : Bool) → eqb block b ≡ t
      → is_some (cond t (Some (record { ending = None }))
      (get (kept_puts window.md5_time now window.puts) b)) ≡ true → b < geometry.blocks
  set_on b true here some = let at = eqb-true block b here in omega (arith, at, on)
  set_on b false other some = kept_on b some

  by : (b : ℕ) (t : Bool)
      → is_some (get (if t then kept_puts window.md5_time now window.puts
      else insert (kept_puts window.md5_time now window.puts) block
      (record { ending = None })) b) ≡ true
      → b < geometry.blocks
  by b true some = kept_on b some
  by b false some =
      set_on b _ refl
      (sym (ap is_some (get-insert nat_cmp_total (kept_puts window.md5_time now window.puts) block
      (record { ending = None }) b
      ∙ ap (λ t. cond t (Some (record { ending = None }))
      (get (kept_puts window.md5_time now window.puts) b)) (same_key b block))) ∙ some)

-- an open put is kept
kept_open : (time now : ℕ) (held : Option LastPut) → is_open (if_kept time now held) ≡ is_open held
kept_open time now None = refl
kept_open time now (Some put) = by put.ending where
  either : (t : Bool) (ending : Ending) → is_open (if t then Some (record { ending = Some ending }) else None) ≡ false
  either true ending = refl
  either false ending = refl

  by : (ending : Option Ending)
      → is_open (if_kept time now (Some (record { ending = ending }))) ≡ is_open (Some (record { ending = ending }))
  by None = refl
  by (Some ending) = either (is_end_kept time now (Some ending.reading)) ending

-- a block's PUT that begins is open, and no other changes
keys : (k b : ℕ) → nat_eq k b ≡ false → eqb k b ≡ false
keys k b other = grind (arith, nat_tests)

pub begun_opens : (m : CachedBlocks) (window : WindowState) (block now : ℕ) (entry : Cached)
    → is_some (put_by entry.state) ≡ true → OpensWith m window
    → OpensWith (insert m block entry) (begun window block now)
begun_opens m window block now entry opened is = record {
  opened = λ on. inserted m block entry (λ b e. is_open (get (begun window block now).puts b) ≡ is_some (put_in e))
      (here on (nat_eq window.md5_size 0) refl ∙ sym opened) (λ b other. there on b other (nat_eq window.md5_size 0) refl);
} where
  here : window.md5_size ≢ 0 → (t : Bool) → nat_eq window.md5_size 0 ≡ t
      → is_open (get (if t then kept_puts window.md5_time now window.puts
      else insert (kept_puts window.md5_time now window.puts) block (record { ending = None })) block)
      ≡ true
  here on true off = absurd (on (eqb-true window.md5_size 0 off))
  here on false off =
      ap is_open (get-insert nat_cmp_total (kept_puts window.md5_time now window.puts) block
      (record { ending = None }) block
      ∙ ap (λ t. cond t (Some (record { ending = None }))
      (get (kept_puts window.md5_time now window.puts) block)) (same_key block block ∙ eq-eqb block block refl))

  there : window.md5_size ≢ 0 → (b : ℕ) → nat_eq block b ≡ false → (t : Bool) → nat_eq window.md5_size 0 ≡ t
      → is_open (get (if t then kept_puts window.md5_time now window.puts
      else insert (kept_puts window.md5_time now window.puts) block (record { ending = None })) b)
      ≡ is_some (put_in (get m b))
  there on b other true off = absurd (on (eqb-true window.md5_size 0 off))
  there on b other false off =
      ap is_open (get-insert nat_cmp_total (kept_puts window.md5_time now window.puts) block
      (record { ending = None }) b
      ∙ ap (λ t. cond t (Some (record { ending = None }))
      (get (kept_puts window.md5_time now window.puts) b)) (same_key b block ∙ keys block b other))
      ∙ ap is_open (get_kept window.md5_time now b window.puts)
      ∙ kept_open window.md5_time now (get window.puts b) ∙ is.opened on b

-- after the end of a PUT
pub ended_is_window : (geometry : Geometry) (settings : Settings) (window : WindowState) (block now : ℕ) (ok : Bool) (digest : List ℕ)
    → IsWindowOf geometry settings window → IsWindowOf geometry settings (ended window block now ok digest)
ended_is_window geometry settings window block now ok digest is = record {
  delay = is.delay;
  time = is.time;
  size = is.size;
  fits = fits (get window.puts block) refl;
  on_disk = λ b some. on_disk b (get window.puts block) refl some;
  holds_each = is.holds_each;
} where
  fits : (held : Option LastPut) → get window.puts block ≡ held
      → len (puts_ended window.puts block (record { reading = now; ok = ok; digest = digest }) held) ≤ window.md5_size
  fits None here = is.fits
  fits (Some old) here =
      held_stays (record { room = window.md5_size; puts = window.puts }) block
      (record { ending = Some (record { reading = now; ok = ok; digest = digest }) }) old here is.fits

  set_on : (b : ℕ) (put old : LastPut) → get window.puts block ≡ Some old → (t : Bool) → eqb block b ≡ t
      → is_some (cond t (Some put) (get window.puts b)) ≡ true → b < geometry.blocks
  set_on b put old here true at some =
      let same = eqb-true block b at in
      let on = is.on_disk block (ap is_some here) in
      omega (arith, same, on)
  set_on b put old here false other some = is.on_disk b some

  on_disk : (b : ℕ) (held : Option LastPut) → get window.puts block ≡ held
      → is_some (get (puts_ended window.puts block (record { reading = now; ok = ok; digest = digest }) held) b) ≡ true
      → b < geometry.blocks
  on_disk b None here some = is.on_disk b some
  on_disk b (Some old) here some =
      let put : LastPut = record { ending = Some (record { reading = now; ok = ok; digest = digest }) } in
      set_on b put old here _ refl
      (sym (ap is_some (get-insert nat_cmp_total window.puts block put b
      ∙ ap (λ t. cond t (Some put) (get window.puts b)) (same_key b block))) ∙ some)

-- a block's PUT that ends is not open, and no other changes
pub ended_opens : (m : CachedBlocks) (window : WindowState) (block now : ℕ) (ok : Bool) (digest : List ℕ) (entry : Cached)
    → is_some (put_in (get m block)) ≡ true → is_some (put_by entry.state) ≡ false → OpensWith m window
    → OpensWith (insert m block entry) (ended window block now ok digest)
ended_opens m window block now ok digest entry opened closed is = record {
  opened = λ on. inserted m block entry
      (λ b e. is_open (get (puts_ended window.puts block (record { reading = now; ok = ok; digest = digest }) (get window.puts block)) b)
      ≡ is_some (put_in e))
      (here on (get window.puts block) refl ∙ sym closed) (λ b other. there on b other (get window.puts block) refl);
} where
  not_open : (held : Option LastPut) → held ≡ None → is_open held ≡ true → ⊥
  not_open held none opened = cc

  here : window.md5_size ≢ 0 → (held : Option LastPut) → get window.puts block ≡ held
      → is_open (get (puts_ended window.puts block (record { reading = now; ok = ok; digest = digest }) held) block) ≡ false
  here on None at = absurd (not_open (get window.puts block) at (is.opened on block ∙ opened))
  here on (Some old) at =
      let put : LastPut = record { ending = Some (record { reading = now; ok = ok; digest = digest }) } in
      ap is_open (get-insert nat_cmp_total window.puts block put block
      ∙ ap (λ t. cond t (Some put) (get window.puts block)) (same_key block block ∙ eq-eqb block block refl))

  there : window.md5_size ≢ 0 → (b : ℕ) → nat_eq block b ≡ false → (held : Option LastPut)
      → get window.puts block ≡ held
      → is_open (get (puts_ended window.puts block (record { reading = now; ok = ok; digest = digest }) held) b)
      ≡ is_some (put_in (get m b))
  there on b other None at = is.opened on b
  there on b other (Some old) at =
      let put : LastPut = record { ending = Some (record { reading = now; ok = ok; digest = digest }) } in
      ap is_open (get-insert nat_cmp_total window.puts block put b
      ∙ ap (λ t. cond t (Some put) (get window.puts b)) (same_key b block ∙ keys block b other))
      ∙ is.opened on b
