-- A worker's search for the next PUT, step by step.
use Rattle.std.proofs.Common.{ℕ, ◌≡◌, ◌<◌, ◌≤◌, ◌^◌, ◌⊎◌, inl, inr, Bool, true, false, if◌then◌else◌, min, Option, Some, None}
use Rattle.std.proofs.Common.{is_some, refl, sym, ap, subst, ◌∙◌, arith}
use Rattle.std.specs.Prelude.{nat_le}
use Rattle.std.proofs.lemmas.Bool.Decides.{nat_tests}
use Rattle.std.proofs.lemmas.Bool.{leb-true}
use Rattle.std.specs.FinMap.{get}
use Rattle.sb_base.specs.declared.settings.Settings.{Settings}
use Rattle.sb_history.specs.Flushes.{last_number}
use Rattle.sb_window.specs.Windows.{WindowState, put_when}
use Rattle.sb_blocks.specs.declared.cached.Cached.{Cached}
use Rattle.sb_blocks.specs.Cached.{stamp_in, since_in}
use Rattle.sb_blocks.specs.Caches.{CachedBlocks}
use Rattle.sb_blocks.specs.Orders.{rank_of, comes_behind, dirty_rank, IsFirst, NoneRanks}
use Rattle.sb_core.specs.declared.machine.Core.{Core}
use Rattle.sb_core.specs.Searches.{IsSeen}
use Rattle.sb_core.specs.Jobs.{job_rank, ComesAt}
use Rattle.sb_core.specs.JobSearches.{is_now, starts_by, put_from, put_from_at, RestsSeen}
use Rattle.sb_core.proofs.PutDirty.{behind, behind_is}
use Rattle.sb_core.proofs.PutSeen.{seen_none, dirty_here, seen_cases, seen_still, seen_here}
use Rattle.sb_core.proofs.JobRanks.{job_rank_is, no_rank}
use Rattle.sb_core.proofs.WindowTimes.{put_later}

module _ (window : WindowState) (settings : Settings) (now : ℕ) (given : Option ℕ) (too_dirty : Bool)
    (m : CachedBlocks) (limit : now ≤ 2 ^ 62) where
  abbrev from : ℕ → ℕ
  from = put_from_at window settings now given too_dirty m

  -- at the start nothing was seen that is dirty
  pub starts_rest : RestsSeen from now m None (2 ^ 62)
  starts_rest = record { later = later; comes = λ less. absurd (omega (arith, less)); limit = omega arith } where
    later : (b : ℕ) → IsSeen m None b → (now < from b) × (2 ^ 62 ≤ from b)
    later b seen =
        let is : from b ≡ last_number =
        ap (put_from window settings now given too_dirty b (stamp_in (get m b))) (seen_none window now None m b seen) in
        (omega (arith, is, limit), omega (arith, is))

  module _ (after : Option (ℕ × ℕ)) (since block : ℕ) (first : IsFirst (dirty_rank after) m since block) where
    pub from_here : from block
        ≡ put_from window settings now given too_dirty block (stamp_in (get m block)) (Some since)
    from_here =
        ap (put_from window settings now given too_dirty block (stamp_in (get m block)))
        (dirty_here window now None m after since block first)

    -- a block that may not be put yet
    pub next_rest : (until reading : ℕ) → from block ≡ reading → now < reading → RestsSeen from now m after until
        → RestsSeen from now m (Some (since, block)) (min until reading)
    next_rest until reading is ahead before = record { later = later; comes = comes; limit = least } where
      least : min until reading ≤ 2 ^ 62
      least = (let limit_ = before.limit in omega (arith, limit_))

      later : (b : ℕ) → IsSeen m (Some (since, block)) b → (now < from b) × (min until reading ≤ from b)
      later b seen = elim (seen_cases window now None m after since block first b seen) [
        | inl old ↦ (let so = before.later b old in (so.0, narrow so.1))
        | inr same ↦ (let so : from b ≡ reading = ap from same ∙ is in (omega (arith, so, ahead), omega (arith, so)))
      ] where
        narrow : until ≤ from b → min until reading ≤ from b
        narrow le = omega (arith, le)

      comes : min until reading < 2 ^ 62 → (b : ℕ) × IsSeen m (Some (since, block)) b × (from b ≡ min until reading)
      comes less = by (nat_le until reading) refl where
        by : (t : Bool) → nat_le until reading ≡ t
            → (b : ℕ) × IsSeen m (Some (since, block)) b × (from b ≡ min until reading)
        by true le =
            let is_min : min until reading ≡ until = grind (arith, nat_tests) in
            let it = before.comes (omega (arith, is_min, less)) in
            (it.0, seen_still window now None m after since block first it.0 it.1, it.2 ∙ sym is_min)
        by false gt =
            let is_min : min until reading ≡ reading = grind (arith, nat_tests) in
            (block, seen_here window now None m after since block first, is ∙ sym is_min)

  -- by the readings of the window
  module _ (starts : (block reading : ℕ) → is_some (get m block) ≡ true → now ≤ reading
      → is_now (put_when window block reading) ≡ starts_by reading (put_when window block now)) where
    rank_at : (block reading : ℕ) → now ≤ reading → reading < last_number
        → rank_of (job_rank window settings reading given too_dirty) block (get m block)
        ≡ (if nat_le (from block) reading then since_in (get m block) else None)
    rank_at block reading le below = by (get m block) refl where
      none : (t : Bool) → no_rank ≡ (if t then None else None)
      none true = refl
      none false = refl

      by : (found : Option Cached) → get m block ≡ found
          → rank_of (job_rank window settings reading given too_dirty) block found
          ≡ (if nat_le (put_from window settings now given too_dirty block (stamp_in found) (since_in found)) reading
          then since_in found else None)
      by None is = none _
      by (Some entry) is =
          job_rank_is window settings now reading given too_dirty block (Some entry)
          (starts block reading (ap is_some is) le) below

    split_if : (t : Bool) (since : Option ℕ) (rank : ℕ) → (if t then since else None) ≡ Some rank
        → (t ≡ true) × (since ≡ Some rank)
    split_if true since rank is = (refl, is)
    split_if false since rank is = absurd (cc)

    -- a block that may be put at a reading
    from_rank : (block reading rank : ℕ) → now ≤ reading → reading < last_number
        → rank_of (job_rank window settings reading given too_dirty) block (get m block) ≡ Some rank
        → (from block ≤ reading) × (since_in (get m block) ≡ Some rank)
    from_rank block reading rank le below has =
        let so = split_if (nat_le (from block) reading) (since_in (get m block)) rank
        (sym (rank_at block reading le below) ∙ has) in
        (leb-true (from block) reading so.0, so.1)

    -- the first that may be put now
    pub found_job : (after : Option (ℕ × ℕ)) (since block until : ℕ) → IsFirst (dirty_rank after) m since block
        → from block ≤ now → RestsSeen from now m after until
        → (rank : ℕ) × IsFirst (job_rank window settings now given too_dirty) m rank block
    found_job after since block until first ready before = (
      since,
      record {
        ranks_so = rank_at block now same below
            ∙ ap (λ t. if t then since_in (get m block) else None) in_time
            ∙ dirty_here window now None m after since block first;
        least = λ b theirs has. first.least b theirs (unseen b theirs has);
        lowest = λ b has. first.lowest b (unseen b since has);
      },
    ) where
      same : now ≤ now
      same = omega arith

      below : now < last_number
      below = omega (arith, limit)

      in_time : nat_le (from block) now ≡ true
      in_time = grind (arith, nat_tests)

      never : (b : ℕ) → now < from b → from b ≤ now → ⊥
      never b lt le = omega (arith, lt, le)

      unseen : (b theirs : ℕ) → rank_of (job_rank window settings now given too_dirty) b (get m b) ≡ Some theirs
          → rank_of (dirty_rank after) b (get m b) ≡ Some theirs
      unseen b theirs has = by (comes_behind theirs b after) refl where
        so : (from b ≤ now) × (since_in (get m b) ≡ Some theirs)
        so = from_rank b now theirs same below has

        by : (t : Bool) → comes_behind theirs b after ≡ t → rank_of (dirty_rank after) b (get m b) ≡ Some theirs
        by true more =
            behind_is after b (get m b) ∙ ap (behind after b) so.1 ∙ ap (λ t. if t then Some theirs else None) more
        by false gone =
            let seen = behind_is after b (get m b) ∙ ap (behind after b) so.1
            ∙ ap (λ t. if t then Some theirs else None) gone in
            absurd (never b (before.later b seen).0 so.0)

    -- and where none is left, when the first may be
    pub rests_until : (after : Option (ℕ × ℕ)) (until : ℕ) → NoneRanks (dirty_rank after) m
        → RestsSeen from now m after until
        → ComesAt (λ reading. (block : ℕ) × (since : ℕ)
        × (rank_of (job_rank window settings reading given too_dirty) block (get m block) ≡ Some since)) now until
    rests_until after until none before = record {
      not_yet = λ it. (let so = from_rank it.0 now it.1 (omega arith) (omega (arith, limit)) it.2 in
          let later = (before.later it.0 (none it.0)).0 in omega (arith, so.0, later));
      before = λ reading le less it. (let limit_ = before.limit in
          let so = from_rank it.0 reading it.1 le (omega (arith, less, limit_)) it.2 in
          let later = (before.later it.0 (none it.0)).1 in omega (arith, so.0, later, less));
      comes = λ less. comes less (before.comes less);
      limit = before.limit;
    } where
      comes : until < 2 ^ 62 → (block : ℕ) × IsSeen m after block × (from block ≡ until)
          → (block : ℕ) × (since : ℕ)
          × (rank_of (job_rank window settings until given too_dirty) block (get m block) ≡ Some since)
      comes less it = by (since_in (get m it.0)) refl where
        le : now ≤ until
        le = (let later = (before.later it.0 it.1).0 in let is = it.2 in omega (arith, later, is))

        in_time : nat_le (from it.0) until ≡ true
        in_time = (let is = it.2 in grind (arith, nat_tests))

        by : (since : Option ℕ) → since_in (get m it.0) ≡ since
            → (block : ℕ) × (since_ : ℕ)
            × (rank_of (job_rank window settings until given too_dirty) block (get m block) ≡ Some since_)
        by None is =
            let never : from it.0 ≡ last_number =
            ap (put_from window settings now given too_dirty it.0 (stamp_in (get m it.0))) is in
            let one = it.2 in absurd (omega (arith, never, one, less))
        by (Some since) is = (
          it.0,
          since,
          rank_at it.0 until le (omega (arith, less)) ∙ ap (λ t. if t then since_in (get m it.0) else None) in_time ∙ is,
        )

-- the readings of a core's window
pub core_starts : (core : Core) (block reading : ℕ) → is_some (get core.blocks.cached block) ≡ true
    → core.reading ≤ reading
    → is_now (put_when core.window block reading) ≡ starts_by reading (put_when core.window block core.reading)
core_starts core block reading some le =
    put_later core.window core.geometry.blocks block core.reading reading core.its_window.fits
    (λ on for_ever. record {
      enough = core.its_window.holds_each on for_ever;
      on_disk = core.its_cache.on_disk block some;
      others = core.its_window.on_disk;
    }) le

-- of two things the first comes first
pub first_comes : (P Q : ℕ → Type 0) (now one two : ℕ) → ComesAt P now one → ComesAt Q now two
    → ComesAt (λ reading. P reading ⊎ Q reading) now (min one two)
first_comes P Q now one two p q = record {
  not_yet = λ is. elim is [
    | inl is ↦ p.not_yet is
    | inr is ↦ q.not_yet is
  ];
  before = λ reading le less is. elim is [
    | inl is ↦ p.before reading le (before_one reading less) is
    | inr is ↦ q.before reading le (before_two reading less) is
  ];
  comes = comes (nat_le one two) refl;
  limit = (let limit_ = p.limit in omega (arith, limit_));
} where
  before_one : (reading : ℕ) → reading < min one two → reading < one
  before_one reading less = omega (arith, less)

  before_two : (reading : ℕ) → reading < min one two → reading < two
  before_two reading less = omega (arith, less)

  comes : (t : Bool) → nat_le one two ≡ t → min one two < 2 ^ 62 → P (min one two) ⊎ Q (min one two)
  comes true le less =
      let is : one ≡ min one two = grind (arith, nat_tests) in
      inl (subst P is (p.comes (omega (arith, is, less))))
  comes false gt less =
      let is : two ≡ min one two = grind (arith, nat_tests) in
      inr (subst Q is (q.comes (omega (arith, is, less))))
