-- The first of the clean entries is what a search through all blocks finds.
use Rattle.std.proofs.Common.{◌≡◌, ℕ, zero, suc, ◌<◌, ◌≤◌, Bool, true, false, nat_eq, if◌then◌else◌, Option, Some}
use Rattle.std.proofs.Common.{None, is_some, refl, sym, ◌∙◌, ap, subst, arith}
use Rattle.std.specs.Prelude.{nat_lt}
use Rattle.std.specs.FinMap.{get}
use Rattle.std.proofs.lemmas.Bool.{eqb-true, eqb-false}
use Rattle.std.proofs.lemmas.Bool.Decides.{nat_tests}
use Rattle.sb_history.specs.Eviction.{lighter, lightest}
use Rattle.sb_blocks.specs.declared.cached.State.{State}
use Rattle.sb_blocks.specs.declared.cached.State.TheVariants.{Reading, Clean, Dirty, Writing, Writing2}
use Rattle.sb_blocks.specs.declared.cached.Cached.{Cached}
use Rattle.sb_blocks.specs.Cached.{passes, is_clean}
use Rattle.sb_blocks.specs.Caches.{CachedBlocks}
use Rattle.sb_blocks.specs.Orders.{unused_by, unused_rank, rank_of, IsFirst, NoneRanks}
use Rattle.sb_blocks.specs.Laws.{OnDisk, use_place, VictimIsLightest}

-- the least weight, the lowest at a tie
abbrev Within : (ℕ → Bool) → ℕ → Option ℕ → Type 0
Within test n None = Unit {0}
Within test n (Some b) = (b < n) × (test b ≡ true)

within_next : (test : ℕ → Bool) (n : ℕ) (best : Option ℕ) → Within test n best → Within test (suc n) best
within_next test n None within = tt
within_next test n (Some b) within = (omega (arith, within.0), within.1)

within_lighter : (test : ℕ → Bool) (weight : ℕ → ℕ) (n : ℕ) (best : Option ℕ) → test n ≡ true → Within test n best
    → Within test (suc n) (lighter weight best n)
within_lighter test weight n None passed within = (omega arith, passed)
within_lighter test weight n (Some b) passed within = by (nat_lt (weight n) (weight b)) where
  by : (t : Bool) → Within test (suc n) (if t then Some n else Some b)
  by true = (omega arith, passed)
  by false = (omega (arith, within.0), within.1)

lightest_within : (test : ℕ → Bool) (weight : ℕ → ℕ) (n : ℕ) → Within test n (lightest test weight n)
lightest_within test weight zero = tt
lightest_within test weight (suc n) = by (test n) refl (lightest_within test weight n) where
  by : (t : Bool) → test n ≡ t → Within test n (lightest test weight n)
      → Within test (suc n) (if t then lighter weight (lightest test weight n) n else lightest test weight n)
  by true passed before = within_lighter test weight n (lightest test weight n) passed before
  by false failed before = within_next test n (lightest test weight n) before

pub lightest_is : (test : ℕ → Bool) (weight : ℕ → ℕ) (b : ℕ) → test b ≡ true
    → ((o : ℕ) → test o ≡ true → weight b ≤ weight o)
    → ((o : ℕ) → test o ≡ true → weight o ≡ weight b → b ≤ o) → (n : ℕ) → b < n → lightest test weight n ≡ Some b
lightest_is test weight b passed least lowest_ zero lt = absurd (omega (arith, lt))
lightest_is test weight b passed least lowest_ (suc n) lt =
    by (λ less. lightest_is test weight b passed least lowest_ n less) (nat_eq b n) refl where
      heavier : (o : ℕ) → o < b → weight b ≤ weight o → (weight o ≡ weight b → b ≤ o) → weight b < weight o
      heavier o below le low = step (nat_eq (weight o) (weight b)) refl where
        step : (t : Bool) → nat_eq (weight o) (weight b) ≡ t → weight b < weight o
        step true is = absurd (let at = low (eqb-true (weight o) (weight b) is) in omega (arith, at, below))
        step false is = let apart = eqb-false (weight o) (weight b) is in omega (arith, le, apart)

      lt_true : (x y : ℕ) → x < y → nat_lt x y ≡ true
      lt_true x y lt = grind (arith, nat_tests)

      lt_false : (x y : ℕ) → y ≤ x → nat_lt x y ≡ false
      lt_false x y le = grind (arith, nat_tests)

      last : (best : Option ℕ) → Within test b best → lighter weight best b ≡ Some b
      last None within = refl
      last (Some o) within =
          ap (λ t. if t then Some b else Some o)
          (lt_true (weight b) (weight o) (heavier o within.0 (least o within.1) (lowest_ o within.1)))

      earlier : (t : Bool) → test n ≡ t → (if t then lighter weight (Some b) n else Some b) ≡ Some b
      earlier true passes_ = ap (λ t. if t then Some n else Some b) (lt_false (weight n) (weight b) (least n passes_))
      earlier false fails = refl

      by : (b < n → lightest test weight n ≡ Some b) → (t : Bool) → nat_eq b n ≡ t
          → lightest test weight (suc n) ≡ Some b
      by below true is =
          let at : b ≡ n = eqb-true b n is in
          subst (λ x. (if test x then lighter weight (lightest test weight x) x else lightest test weight x) ≡ Some b) at
          (ap (λ t. if t then lighter weight (lightest test weight b) b else lightest test weight b) passed
          ∙ last (lightest test weight b) (lightest_within test weight b))
      by below false other =
          let apart = eqb-false b n other in
          let before = below (omega (arith, lt, apart)) in
          ap (λ best. if test n then lighter weight best n else best) before ∙ earlier (test n) refl

lightest_none : (test : ℕ → Bool) (weight : ℕ → ℕ) → ((block : ℕ) → test block ≡ false) → (n : ℕ)
    → lightest test weight n ≡ None
lightest_none test weight none zero = refl
lightest_none test weight none (suc n) = rw (none n) (lightest_none test weight none n)

-- the clean entries are those with a rank, which is the place of their last use
ranks_by : (state : State) (place : ℕ) → unused_by state place ≡ (if is_clean state then Some place else None)
ranks_by (Reading get_) place = refl
ranks_by Clean place = refl
ranks_by (Dirty stamp since) place = refl
ranks_by (Writing put stamp) place = refl
ranks_by (Writing2 put stamp later since) place = refl

ranks_is : (found : Option Cached) (block : ℕ)
    → rank_of unused_rank block found ≡ (if passes is_clean found then Some (use_place found) else None)
ranks_is None block = refl
ranks_is (Some entry) block = ranks_by entry.state entry.last.place

clean_of : (clean : Bool) (place rank : ℕ) → (if clean then Some place else None) ≡ Some rank → clean ≡ true
clean_of true place rank is = refl
clean_of false place rank is = absurd (let clash : None ≡ Some rank = is in cc)

not_clean_of : (clean : Bool) (place : ℕ) → (if clean then Some place else None) ≡ None → clean ≡ false
not_clean_of true place is = absurd (let clash : Some place ≡ None = is in cc)
not_clean_of false place is = refl

same_number : (x y : ℕ) → Some x ≡ Some y → x ≡ y
same_number x y is = cc

module _ (cached : CachedBlocks) (blocks : ℕ) (on : OnDisk blocks cached) where
  rank_clean : (b rank : ℕ) → rank_of unused_rank b (get cached b) ≡ Some rank → passes is_clean (get cached b) ≡ true
  rank_clean b rank is =
      clean_of (passes is_clean (get cached b)) (use_place (get cached b)) rank (sym (ranks_is (get cached b) b) ∙ is)

  clean_rank : (b : ℕ) → passes is_clean (get cached b) ≡ true
      → rank_of unused_rank b (get cached b) ≡ Some (use_place (get cached b))
  clean_rank b is = ranks_is (get cached b) b ∙ ap (λ t. if t then Some (use_place (get cached b)) else None) is

  some_passes : (found : Option Cached) → passes is_clean found ≡ true → is_some found ≡ true
  some_passes None is = absurd (cc)
  some_passes (Some entry) is = refl

  by_first : (rank b : ℕ) → IsFirst unused_rank cached rank b
      → lightest (λ o. passes is_clean (get cached o)) (λ o. use_place (get cached o)) blocks ≡ Some b
  by_first rank b first =
      let here = rank_clean b rank first.ranks_so in
      let mine : rank ≡ use_place (get cached b) = same_number rank _ (sym first.ranks_so ∙ clean_rank b here) in
      lightest_is (λ o. passes is_clean (get cached o)) (λ o. use_place (get cached o)) b here
      (λ o test. subst (λ r. r ≤ use_place (get cached o)) mine (first.least o _ (clean_rank o test)))
      (λ o test tie. first.lowest o (clean_rank o test ∙ ap Some (tie ∙ sym mine)))
      blocks (on b (some_passes (get cached b) here))

  by_none : NoneRanks unused_rank cached
      → lightest (λ o. passes is_clean (get cached o)) (λ o. use_place (get cached o)) blocks ≡ None
  by_none none =
      lightest_none (λ o. passes is_clean (get cached o)) (λ o. use_place (get cached o))
      (λ b. not_clean_of (passes is_clean (get cached b)) _ (sym (ranks_is (get cached b) b) ∙ none b)) blocks

pub victim_is_lightest : VictimIsLightest
victim_is_lightest cached blocks None on none = by_none cached blocks on none
victim_is_lightest cached blocks (Some b) on first = by_first cached blocks on first.0 b first.1
