-- What the search for the next PUT has seen.
use Rattle.std.proofs.Common.{ℕ, ◌≡◌, ◌≤◌, ◌⊎◌, inl, inr, Bool, true, false}
use Rattle.std.proofs.Common.{if◌then◌else◌, Option, Some, None}
use Rattle.std.proofs.Common.{refl, sym, ◌∙◌, ap, arith}
use Rattle.std.proofs.lemmas.Bool.Decides.{nat_tests}
use Rattle.std.specs.FinMap.{get}
use Rattle.sb_window.specs.Windows.{WindowState, put_when}
use Rattle.sb_blocks.specs.declared.cached.Cached.{Cached}
use Rattle.sb_blocks.specs.Cached.{since_in, stamp_in}
use Rattle.sb_blocks.specs.Caches.{CachedBlocks}
use Rattle.sb_blocks.specs.Orders.{rank_of, comes_behind, dirty_rank, IsFirst}
use Rattle.sb_core.specs.Rules.{ready_if, ready_rank, until_if, until_rank}
use Rattle.sb_core.specs.Searches.{IsSeen, Found, NoneReady}
use Rattle.sb_core.proofs.PutDirty.{behind, behind_is, owing, owing_is}

module _ (window : WindowState) (now : ℕ) (mark : Option ℕ) (m : CachedBlocks) where
  abbrev since_at : ℕ → Option ℕ
  since_at b = since_in (get m b)

  abbrev stamp_at : ℕ → Option ℕ
  stamp_at b = stamp_in (get m b)

  pub ready_is : (b : ℕ) → rank_of (ready_rank window now mark) b (get m b)
      ≡ ready_if (put_when window b now) (owing mark (stamp_at b) (since_at b))
  ready_is b = by (get m b) where
    by : (found : Option Cached) → rank_of (ready_rank window now mark) b found
        ≡ ready_if (put_when window b now) (owing mark (stamp_in found) (since_in found))
    by None = refl
    by (Some entry) = owing_is mark (Some entry) (ready_if (put_when window b now)) refl b

  pub until_is : (b : ℕ) → rank_of (until_rank window now mark) b (get m b)
      ≡ until_if (put_when window b now) (owing mark (stamp_at b) (since_at b))
  until_is b = by (get m b) where
    by : (found : Option Cached) → rank_of (until_rank window now mark) b found
        ≡ until_if (put_when window b now) (owing mark (stamp_in found) (since_in found))
    by None = refl
    by (Some entry) = owing_is mark (Some entry) (until_if (put_when window b now)) refl b

  pub not_dirty : (stamp : Option ℕ) → owing mark stamp None ≡ None
  not_dirty None = refl
  not_dirty (Some stamp) = refl

  -- at the start nothing was seen that is dirty
  pub seen_none : (b : ℕ) → IsSeen m None b → since_at b ≡ None
  seen_none b seen = by (since_at b) (sym (behind_is None b (get m b)) ∙ seen) where
    by : (since : Option ℕ) → behind None b since ≡ None → since ≡ None
    by None is = refl
    by (Some since) is = absurd (cc)

  pub clean_ready : (b : ℕ) → since_at b ≡ None → rank_of (ready_rank window now mark) b (get m b) ≡ None
  clean_ready b is =
      ready_is b ∙ ap (λ s. ready_if (put_when window b now) (owing mark (stamp_at b) s)) is
      ∙ ap (ready_if (put_when window b now)) (not_dirty (stamp_at b))

  pub clean_until : (b : ℕ) → since_at b ≡ None → rank_of (until_rank window now mark) b (get m b) ≡ None
  clean_until b is =
      until_is b ∙ ap (λ s. until_if (put_when window b now) (owing mark (stamp_at b) s)) is
      ∙ ap (until_if (put_when window b now)) (not_dirty (stamp_at b))

  pub starts_ready : NoneReady window now mark m None
  starts_ready b seen = clean_ready b (seen_none b seen)

  pub starts_found : Found window now mark m None None
  starts_found b seen = clean_until b (seen_none b seen)

  -- a block that is looked at next
  module _ (after : Option (ℕ × ℕ)) (since block : ℕ) (first : IsFirst (dirty_rank after) m since block) where
    -- it is dirty since then, and behind
    pub here : behind after block (since_at block) ≡ Some since
    here = sym (behind_is after block (get m block)) ∙ first.ranks_so

    pub dirty_here : since_at block ≡ Some since
    dirty_here = by (since_at block) here where
      by : (s : Option ℕ) → behind after block s ≡ Some since → s ≡ Some since
      by None is = absurd (cc)
      by (Some s) is = either (comes_behind s block after) is where
        either : (t : Bool) → (if t then Some s else None) ≡ Some since → Some s ≡ Some since
        either true is = is
        either false is = absurd (cc)

    pub behind_here : comes_behind since block after ≡ true
    behind_here = by (comes_behind since block after) (sym (ap (behind after block) dirty_here) ∙ here) where
      by : (t : Bool) → (if t then Some since else None) ≡ Some since → t ≡ true
      by true is = refl
      by false is = absurd (cc)

    -- what was seen before is seen, and this block alone is new
    pub seen_cases : (b : ℕ) → IsSeen m (Some (since, block)) b → IsSeen m after b ⊎ (b ≡ block)
    seen_cases b seen = by (since_at b) refl where
      not_behind : (s : ℕ) → behind (Some (since, block)) b (Some s) ≡ None → comes_behind s b (Some (since, block)) ≡ false
      not_behind s is = either (comes_behind s b (Some (since, block))) is where
        either : (t : Bool) → (if t then Some s else None) ≡ None → t ≡ false
        either true is = absurd (cc)
        either false is = refl

      at_most : (s : ℕ) → comes_behind s b (Some (since, block)) ≡ false → since ≤ s → (since ≡ s → block ≤ b) → b ≡ block
      at_most s is le low = grind (arith, nat_tests)

      by : (s : Option ℕ) → since_at b ≡ s → IsSeen m after b ⊎ (b ≡ block)
      by None is = inl (behind_is after b (get m b) ∙ ap (behind after b) is)
      by (Some s) is = old (comes_behind s b after) refl where
        same_rank : (x y : ℕ) → x ≡ y → Some x ≡ Some y
        same_rank x y is = ap Some is

        old : (t : Bool) → comes_behind s b after ≡ t → IsSeen m after b ⊎ (b ≡ block)
        old false no_more =
            inl (behind_is after b (get m b) ∙ ap (behind after b) is ∙ ap (λ t. if t then Some s else None) no_more)
        old true more =
            let ranked = behind_is after b (get m b) ∙ ap (behind after b) is ∙ ap (λ t. if t then Some s else None) more in
            let gone = not_behind s (sym (ap (behind (Some (since, block)) b) is)
            ∙ sym (behind_is (Some (since, block)) b (get m b)) ∙ seen) in
            inr (at_most s gone (first.least b s ranked) (λ tie. first.lowest b (ranked ∙ ap Some (sym tie))))

    pub seen_still : (b : ℕ) → IsSeen m after b → IsSeen m (Some (since, block)) b
    seen_still b seen = by (since_at b) refl where
      by : (s : Option ℕ) → since_at b ≡ s → IsSeen m (Some (since, block)) b
      by None is = behind_is (Some (since, block)) b (get m b) ∙ ap (behind (Some (since, block)) b) is
      by (Some s) is =
          behind_is (Some (since, block)) b (get m b) ∙ ap (behind (Some (since, block)) b) is
          ∙ ap (λ t. if t then Some s else None)
          (stays_before after s (old_not (comes_behind s b after)
          (sym (ap (behind after b) is) ∙ sym (behind_is after b (get m b)) ∙ seen)) behind_here) where
            old_not : (t : Bool) → (if t then Some s else None) ≡ None → t ≡ false
            old_not true is = absurd (cc)
            old_not false is = refl

            stays_before : (after_ : Option (ℕ × ℕ)) (s_ : ℕ) → comes_behind s_ b after_ ≡ false
                → comes_behind since block after_ ≡ true → comes_behind s_ b (Some (since, block)) ≡ false
            stays_before None s_ gone there = absurd (cc)
            stays_before (Some before) s_ gone there = grind (arith, nat_tests)

    pub seen_here : IsSeen m (Some (since, block)) block
    seen_here =
        behind_is (Some (since, block)) block (get m block) ∙ ap (behind (Some (since, block)) block) dirty_here
        ∙ ap (λ t. if t then Some since else None) never where
          never : comes_behind since block (Some (since, block)) ≡ false
          never = grind (arith, nat_tests)

    -- what was seen before comes before
    pub order_before : (b s : ℕ) → IsSeen m after b → since_at b ≡ Some s → (s ≤ since) × (s ≡ since → b ≤ block)
    order_before b s seen is =
        by after (old_not (comes_behind s b after)
        (sym (ap (behind after b) is) ∙ sym (behind_is after b (get m b)) ∙ seen)) behind_here where
          old_not : (t : Bool) → (if t then Some s else None) ≡ None → t ≡ false
          old_not true is = absurd (cc)
          old_not false is = refl

          below : (a0 a1 : ℕ) → comes_behind s b (Some (a0, a1)) ≡ false → comes_behind since block (Some (a0, a1)) ≡ true
              → s ≤ since
          below a0 a1 gone there = grind (arith, nat_tests)

          tie : (a0 a1 : ℕ) → comes_behind s b (Some (a0, a1)) ≡ false → comes_behind since block (Some (a0, a1)) ≡ true
              → s ≡ since → b ≤ block
          tie a0 a1 gone there same = grind (arith, nat_tests)

          by : (after_ : Option (ℕ × ℕ)) → comes_behind s b after_ ≡ false → comes_behind since block after_ ≡ true
              → (s ≤ since) × (s ≡ since → b ≤ block)
          by None gone there = absurd (cc)
          by (Some before) gone there = (below before.0 before.1 gone there, tie before.0 before.1 gone there)
          -- fewer are left behind it
