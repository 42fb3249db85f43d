-- Each step of the search for the next PUT leaves fewer blocks behind.
use Rattle.std.proofs.Common.{ℕ, ◌≡◌, ◌<◌, ◌≤◌, Bool, true, false, nat_eq}
use Rattle.std.proofs.Common.{if◌then◌else◌, List, [], ◌∷◌, length, filter, Option, Some, None, is_some}
use Rattle.std.proofs.Common.{refl, sym, ◌∙◌, ap, arith}
use Rattle.std.proofs.lemmas.Bool.{eqb-true}
use Rattle.std.proofs.lemmas.Bool.Decides.{nat_tests}
use Rattle.std.specs.Ordering.{nat_cmp}
use Rattle.std.specs.FinMap.{find, get, entries, get-entries}
use Rattle.sb_window.specs.Windows.{WindowState}
use Rattle.sb_blocks.specs.declared.cached.State.{State}
use Rattle.sb_blocks.specs.declared.cached.State.TheVariants.{Reading, Clean, Dirty, Writing, Writing2}
use Rattle.sb_blocks.specs.declared.cached.Cached.{Cached}
use Rattle.sb_blocks.specs.Caches.{CachedBlocks}
use Rattle.sb_blocks.specs.Orders.{rank_of, comes_behind, dirty_by, dirty_rank, IsFirst}
use Rattle.sb_core.specs.Searches.{left_behind}
use Rattle.sb_core.proofs.PutSeen.{seen_here, behind_here}

-- fewer rows pass a test that is narrower at one that was found
pub no_more : (p q : ℕ × Cached → Bool) (es : List (ℕ × Cached)) → ((e : ℕ × Cached) → q e ≡ true → p e ≡ true)
    → length (filter q es) ≤ length (filter p es)
no_more p q [] narrower = omega arith
no_more p q (e ∷ es) narrower = by (q e) (p e) (narrower e) (no_more p q es narrower) where
  by : (b c : Bool) → (b ≡ true → c ≡ true) → length (filter q es) ≤ length (filter p es)
      → length (if b then e ∷ filter q es else filter q es) ≤ length (if c then e ∷ filter p es else filter p es)
  by true true both le = omega (arith, le)
  by true false both le = absurd (let clash = both refl in cc)
  by false true both le = omega (arith, le)
  by false false both le = le

pub fewer : (p q : ℕ × Cached → Bool) (k : ℕ) (v : Cached) (es : List (ℕ × Cached)) → find nat_cmp k es ≡ Some v
    → ((e : ℕ × Cached) → q e ≡ true → p e ≡ true) → ((e : ℕ × Cached) → e.0 ≡ k → e.1 ≡ v → p e ≡ true)
    → ((e : ℕ × Cached) → e.0 ≡ k → e.1 ≡ v → q e ≡ false)
    → length (filter q es) < length (filter p es)
fewer p q k v [] is narrower passes never = absurd (cc)
fewer p q k v (e ∷ es) is narrower passes never =
    by (nat_eq k e.0) refl (λ there. fewer p q k v es there narrower passes never) where
      first : nat_eq k e.0 ≡ true → e.1 ≡ v
      first same = (let one : Some e.1 ≡ Some v = grind (arith, nat_tests) in cc)

      later : nat_eq k e.0 ≡ false → find nat_cmp k es ≡ Some v
      later other = grind (arith, nat_tests)

      drops : (b c : Bool) → b ≡ false → c ≡ true → length (filter q es) ≤ length (filter p es)
          → length (if b then e ∷ filter q es else filter q es) < length (if c then e ∷ filter p es else filter p es)
      drops true c is_b is_c le = absurd (cc)
      drops false true is_b is_c le = omega (arith, le)
      drops false false is_b is_c le = absurd (cc)

      keeps : (b c : Bool) → (b ≡ true → c ≡ true) → length (filter q es) < length (filter p es)
          → length (if b then e ∷ filter q es else filter q es) < length (if c then e ∷ filter p es else filter p es)
      keeps true true both lt = omega (arith, lt)
      keeps true false both lt = absurd (let clash = both refl in cc)
      keeps false true both lt = omega (arith, lt)
      keeps false false both lt = lt

      by : (t : Bool) → nat_eq k e.0 ≡ t → (find nat_cmp k es ≡ Some v → length (filter q es) < length (filter p es))
          → length (filter q (e ∷ es)) < length (filter p (e ∷ es))
      by true same tail =
          let key : e.0 ≡ k = sym (eqb-true k e.0 same) in
          drops (q e) (p e) (never e key (first same)) (passes e key (first same)) (no_more p q es narrower)
      by false other tail = keeps (q e) (p e) (narrower e) (tail (later other))

-- each step of the search leaves fewer behind
pub narrows : (after : Option (ℕ × ℕ)) (since block b : ℕ) (entry : Cached) → comes_behind since block after ≡ true
    → is_some (dirty_rank (Some (since, block)) b entry) ≡ true → is_some (dirty_rank after b entry) ≡ true
narrows after since block b entry there is = by entry.state is where
  further : (after_ : Option (ℕ × ℕ)) (s : ℕ) → comes_behind since block after_ ≡ true
      → comes_behind s b (Some (since, block)) ≡ true → comes_behind s b after_ ≡ true
  further None s one two = refl
  further (Some before) s one two = grind (arith, nat_tests)

  some_if : (t : Bool) (s : ℕ) → is_some (if t then Some s else None) ≡ true → t ≡ true
  some_if true s is = refl
  some_if false s is = absurd (cc)

  by : (state : State) → is_some (dirty_by (Some (since, block)) b state) ≡ true
      → is_some (dirty_by after b state) ≡ true
  by (Reading get_) is = is
  by Clean is = is
  by (Dirty stamp s) is =
      ap (λ t. is_some (if t then Some s else None))
      (further after s there (some_if (comes_behind s b (Some (since, block))) s is))
  by (Writing put stamp) is = is
  by (Writing2 put stamp later s) is = is

pub left_less : (window : WindowState) (now : ℕ) (mark : Option ℕ) (m : CachedBlocks) (after : Option (ℕ × ℕ))
    (since block : ℕ) → IsFirst (dirty_rank after) m since block
    → left_behind m (Some (since, block)) < left_behind m after
left_less window now mark m after since block first = by (get m block) refl where
  by : (found : Option Cached) → get m block ≡ found → left_behind m (Some (since, block)) < left_behind m after
  by None is = absurd (let clash = sym (ap (rank_of (dirty_rank after) block) is) ∙ first.ranks_so in cc)
  by (Some entry) is =
      let ranked = sym (ap (rank_of (dirty_rank after) block) is) ∙ first.ranks_so in
      let gone = sym (ap (rank_of (dirty_rank (Some (since, block))) block) is)
      ∙ seen_here window now mark m after since block first in
      fewer (λ e. is_some (dirty_rank after e.0 e.1)) (λ e. is_some (dirty_rank (Some (since, block)) e.0 e.1)) block entry
      (entries m) (sym (get-entries m block) ∙ is)
      (λ e some. narrows after since block e.0 e.1 (behind_here window now mark m after since block first) some)
      (λ e key value. rw (key, value) (ap is_some ranked))
      (λ e key value. rw (key, value) (ap is_some gone))
