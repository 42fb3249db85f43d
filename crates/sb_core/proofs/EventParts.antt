-- What each event of a core owes to a history that it represents.
use Rattle.std.proofs.Common.{ℕ, suc, ◌≡◌, ◌<◌, ◌≤◌, Bool, true, false, nat_eq, min, List}
use Rattle.std.proofs.Common.{◌∷◌, length, Option, Some, None, is_some, refl, sym, ◌∙◌, ap, subst}
use Rattle.std.proofs.Common.{arith}
use Rattle.std.proofs.lemmas.Bool.{eqb-true}
use Rattle.std.proofs.lemmas.Bool.Decides.{nat_tests}
use Rattle.std.specs.FinMap.{get, insert, remove, len}
use Rattle.sb_base.specs.declared.geometry.Geometry.{Geometry}
use Rattle.sb_base.specs.declared.settings.Settings.{Settings}
use Rattle.sb_base.specs.declared.entry.EntryKind.{EntryKind}
use Rattle.sb_base.specs.declared.entry.Entry.{Entry}
use Rattle.sb_history.specs.Flushes.{flushes_begun, last_number}
use Rattle.sb_history.specs.Cache.{is_known_zero}
use Rattle.sb_history.specs.AccessRules.{last_reading, MayFollow}
use Rattle.sb_history.specs.CachePolicy.{ObeysPolicy}
use Rattle.sb_window.specs.Windows.{WindowState}
use Rattle.sb_blocks.specs.declared.cached.OpenGet.{OpenGet}
use Rattle.sb_blocks.specs.declared.cached.State.{State}
use Rattle.sb_blocks.specs.declared.cached.State.TheVariants.{Reading, Clean, Dirty, Writing, Writing2}
use Rattle.sb_blocks.specs.declared.cached.Cached.{Cached}
use Rattle.sb_blocks.specs.Cached.{content_by, get_by, is_held, is_clean}
use Rattle.sb_blocks.specs.Cached.{passes}
use Rattle.sb_blocks.specs.Caches.{CachedBlocks}
use Rattle.sb_core.specs.PutWindow.{HasPutsOf}
use Rattle.sb_core.specs.Marking.{SetsMark}
use Rattle.sb_core.specs.Represents.{nothing_found, BlockStands, next_place}
use Rattle.sb_core.specs.Represents.{RepresentsBy}
use Rattle.sb_core.proofs.Counts.{fits_cache}
use Rattle.sb_core.proofs.Maps.{inserted, removed, len_held, len_fresh, len_gone}
use Rattle.sb_core.proofs.BlocksStand.{at, is_of, NoFlush, apart, stays}

pub counted_on : (place n : ℕ) → place ≡ min n last_number → min (suc place) last_number ≡ min (suc n) last_number
counted_on place n is = omega (arith, is)

-- what is held
pub held_content : (state : State) (body : List ℕ) → is_held state ≡ true → content_by state body ≡ Some body
held_content (Reading get) body held = absurd (cc)
held_content Clean body held = refl
held_content (Dirty stamp since) body held = refl
held_content (Writing put stamp) body held = refl
held_content (Writing2 put stamp later since) body held = refl

pub held_unread : (state : State) → is_held state ≡ true → get_by state ≡ None
held_unread (Reading get) held = absurd (cc)
held_unread Clean held = refl
held_unread (Dirty stamp since) held = refl
held_unread (Writing put stamp) held = refl
held_unread (Writing2 put stamp later since) held = refl

pub get_reads : (state : State) (get : OpenGet) → get_by state ≡ Some get → state ≡ Reading get
get_reads (Reading of) get is = (let one : of ≡ get = cc in ap Reading one)
get_reads Clean get is = absurd (cc)
get_reads (Dirty stamp since) get is = absurd (cc)
get_reads (Writing put stamp) get is = absurd (cc)
get_reads (Writing2 put stamp later since) get is = absurd (cc)

pub clean_state : (state : State) → is_clean state ≡ true → state ≡ Clean
clean_state (Reading get) clean = absurd (cc)
clean_state Clean clean = refl
clean_state (Dirty stamp since) clean = absurd (cc)
clean_state (Writing put stamp) clean = absurd (cc)
clean_state (Writing2 put stamp later since) clean = absurd (cc)

pub clean_entry : (found : Option Cached) → passes is_clean found ≡ true
    → (entry : Cached) × (found ≡ Some entry) × (entry.state ≡ Clean)
clean_entry None clean = absurd (cc)
clean_entry (Some entry) clean = (entry, refl, clean_state entry.state clean)

pub none_not_some : {X : Type 0} (x : X) (found : Option X) → found ≡ Some x → found ≡ None → ⊥
none_not_some x found some none = (let clash : Some x ≡ None = sym some ∙ none in cc)

module _ (geometry : Geometry) (settings : Settings) {window : WindowState} (reading epoch place : ℕ)
    {marks : ℕ → Bool} (m : CachedBlocks) (past : List Entry)
    (s : RepresentsBy geometry settings window reading epoch place marks m past) where
  abbrev size : ℕ
  size = geometry.block_size

  -- what each event owes
  pub next : {marks_ : ℕ → Bool} (kept : WindowState) (epoch_ now pass : ℕ) (k : EntryKind) (after : CachedBlocks) → reading ≤ now
      → epoch_ ≡ min (flushes_begun (at pass now k ∷ past)) last_number → len after ≤ settings.cache_size
      → ((b : ℕ) → is_some (get after b) ≡ true → b < geometry.blocks)
      → ((b : ℕ) → BlockStands size (at pass now k ∷ past) b (get after b))
      → HasPutsOf settings kept (at pass now k ∷ past)
      → MayFollow geometry settings nothing_found past pass now k
      → ObeysPolicy geometry settings nothing_found past now k
      → ((b : ℕ) → b < geometry.blocks → is_known_zero size nothing_found (at pass now k ∷ past) b ≡ marks_ b)
      → RepresentsBy geometry settings kept now epoch_ (next_place place) marks_ after (at pass now k ∷ past)
  next {marks_ = marks_} kept epoch_ now pass k after later epochs fits on_disk blocks puts may obeys zeros = record {
    checked = s.checked;
    fits = fits;
    on_disk = on_disk;
    last = refl;
    epochs = epochs;
    places = counted_on place (length past) s.places;
    blocks = blocks;
    zeros = zeros;
    last_puts = puts;
    rules = (may, subst (λ r. r ≤ now) s.last later, s.rules);
    policy = (
      obeys,
      fits_cache geometry (at pass now k ∷ past) after on_disk blocks settings fits,
      s.policy,
    );
  }

  pub stands_at : (block : ℕ) (found : Option Cached) → get m block ≡ found → BlockStands size past block found
  stands_at block found is = subst (BlockStands size past block) is (s.blocks block)

  pub later_last : (now : ℕ) → reading ≤ now → last_reading past ≤ now
  later_last now later = subst (λ r. r ≤ now) s.last later

  -- the other blocks
  pub others : (pass now : ℕ) (k : EntryKind) → NoFlush (at pass now k) past → (b : ℕ) → is_of k b ≡ false
      → BlockStands size (at pass now k ∷ past) b (get m b)
  others pass now k quiet b other =
      stays size (at pass now k) past b (get m b) (s.blocks b) quiet (apart size pass now k past b other)

  -- the marks after an event that sets that of its block
  turned : (a b : ℕ) → nat_eq a b ≡ false → nat_eq b a ≡ false
  turned a b other = grind (arith, nat_tests)

  pub marked : (pass now block : ℕ) (k : EntryKind) (marks_ : ℕ → Bool) (is : Bool) → SetsMark marks marks_ block is
      → is_known_zero size nothing_found (at pass now k ∷ past) block ≡ is
      → ((b : ℕ) → nat_eq block b ≡ false → is_of k b ≡ false) → (b : ℕ) → b < geometry.blocks
      → is_known_zero size nothing_found (at pass now k ∷ past) b ≡ marks_ b
  marked pass now block k marks_ is sets here apart_ b on = by (nat_eq block b) refl where
    by : (t : Bool) → nat_eq block b ≡ t → is_known_zero size nothing_found (at pass now k ∷ past) b ≡ marks_ b
    by true same_ =
        subst (λ x. is_known_zero size nothing_found (at pass now k ∷ past) x ≡ marks_ x) (eqb-true block b same_)
        (here ∙ sym sets.here)
    by false other =
        let same_at = apart size pass now k past b (apart_ b other) in
        same_at.known ∙ s.zeros b on ∙ sym (sets.others b (turned block b other))

  pub on_disk_held : (block : ℕ) (before entry : Cached) → get m block ≡ Some before → (b : ℕ)
      → is_some (get (insert m block entry) b) ≡ true → b < geometry.blocks
  on_disk_held block before entry is =
      inserted m block entry (λ b found. is_some found ≡ true → b < geometry.blocks)
      (λ _. s.on_disk block (ap is_some is)) (λ b other. s.on_disk b)

  pub on_disk_fresh : (block : ℕ) (entry : Cached) → block < geometry.blocks → (b : ℕ)
      → is_some (get (insert m block entry) b) ≡ true → b < geometry.blocks
  on_disk_fresh block entry on =
      inserted m block entry (λ b found. is_some found ≡ true → b < geometry.blocks) (λ _. on) (λ b other. s.on_disk b)

  pub on_disk_gone : (block : ℕ) (b : ℕ) → is_some (get (remove m block) b) ≡ true → b < geometry.blocks
  on_disk_gone block =
      removed m block (λ b found. is_some found ≡ true → b < geometry.blocks) (λ some. absurd (cc))
      (λ b other. s.on_disk b)

  pub fits_held : (block : ℕ) (before entry : Cached) → get m block ≡ Some before
      → len (insert m block entry) ≤ settings.cache_size
  fits_held block before entry is = let same = len_held m block before entry is in omega (arith, same, s.fits)

  pub fits_fresh : (block : ℕ) (entry : Cached) → get m block ≡ None → len m < settings.cache_size
      → len (insert m block entry) ≤ settings.cache_size
  fits_fresh block entry is free = let more = len_fresh m block entry is in omega (arith, more, free)

  pub fits_gone : (block : ℕ) → len (remove m block) ≤ settings.cache_size
  fits_gone block = let less = len_gone m block in omega (arith, less, s.fits)
