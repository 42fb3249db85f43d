-- The best of the first blocks, block by block.
use Rattle.std.proofs.Common.{◌≡◌, ℕ, suc, ◌<◌, ◌≤◌, Bool, true, false, Option, Some, None, refl, sym, ap, subst, ◌∙◌, arith}
use Rattle.std.specs.Prelude.{nat_eq, nat_lt, nat_le, if◌then◌else◌}
use Rattle.std.specs.FinMap.{get}
use Rattle.std.proofs.lemmas.Bool.{eqb-true, eqb-false, leb-true, leb-false}
use Rattle.std.proofs.lemmas.Bool.Decides.{nat_tests}
use Rattle.sb_blocks.specs.Caches.{CachedBlocks}
use Rattle.sb_blocks.specs.Orders.{Ranks, rank_of, FirstIs}
use Rattle.test_blocks.specs.Choices.{better, IsBestBelow}

module _ (ranks : Ranks) (cached : CachedBlocks) where
  rank : ℕ → Option ℕ
  rank b = rank_of ranks b (get cached b)

  -- a block below the next is the last one, or below it
  split : (P : ℕ → Type 0) (n : ℕ) → P n → ((b : ℕ) → b < n → P b) → (b : ℕ) → b < suc n → P b
  split P n here there b lt = by (nat_eq b n) refl where
    by : (t : Bool) → nat_eq b n ≡ t → P b
    by true is = subst P (sym (eqb-true b n is)) here
    by false other = let apart = eqb-false b n other in there b (omega (arith, lt, apart))

  some_same : (x y : ℕ) → Some x ≡ Some y → x ≡ y
  some_same x y is = cc

  clash : (x : ℕ) → None ≡ Some x → ⊥
  clash x is = cc

  le_same : (a b c : ℕ) → a ≤ b → Some b ≡ Some c → a ≤ c
  le_same a b c le is = let same : b ≡ c = cc in omega (arith, le, same)

  less_le : (a b : ℕ) → a < b → a ≤ b
  less_le a b lt = omega (arith, lt)

  less_trans : (a b c : ℕ) → a < b → b ≤ c → a ≤ c
  less_trans a b c lt le = omega (arith, lt, le)

  next_lt : (n : ℕ) → n < suc n
  next_lt n = omega arith

  lt_next : (b n : ℕ) → b < n → b < suc n
  lt_next b n lt = omega (arith, lt)

  same_le : (n : ℕ) → n ≤ n
  same_le n = omega arith

  never : (a b : ℕ) → a < b → b ≤ a → ⊥
  never a b lt le = omega (arith, lt, le)

  pub best_next : (n : ℕ) (best : Option (ℕ × ℕ)) (own : Option ℕ) → rank_of ranks n (get cached n) ≡ own
      → IsBestBelow ranks cached n best → IsBestBelow ranks cached (suc n) (better best n own)
  best_next n None None is below = split (λ b. rank_of ranks b (get cached b) ≡ None) n is below
  best_next n (Some best) None is below = (
    below.0,
    λ b theirs lt has. split (λ x. rank_of ranks x (get cached x) ≡ Some theirs → best.0 ≤ theirs) n
        (λ mine. absurd (clash theirs (sym is ∙ mine))) (λ x less. below.1 x theirs less) b lt has,
    λ b lt has. split (λ x. rank_of ranks x (get cached x) ≡ Some best.0 → best.1 ≤ x) n
        (λ mine. absurd (clash best.0 (sym is ∙ mine))) (λ x less. below.2 x less) b lt has,
    lt_next best.1 n below.3,
  )
  best_next n None (Some own) is below = (
    is,
    λ b theirs lt has. split (λ x. rank_of ranks x (get cached x) ≡ Some theirs → own ≤ theirs) n
        (λ mine. le_same own own theirs (same_le own) (sym is ∙ mine))
        (λ x less mine. absurd (clash theirs (sym (below x less) ∙ mine))) b lt has,
    λ b lt has. split (λ x. rank_of ranks x (get cached x) ≡ Some own → n ≤ x) n (λ mine. same_le n)
        (λ x less mine. absurd (clash own (sym (below x less) ∙ mine))) b lt has,
    next_lt n,
  )
  best_next n (Some best) (Some own) is below = by (nat_le best.0 own) refl where
    by : (t : Bool) → nat_le best.0 own ≡ t
        → IsBestBelow ranks cached (suc n) (if t then Some best else Some (own, n))
    by true le = (
      below.0,
      λ b theirs lt has. split (λ x. rank_of ranks x (get cached x) ≡ Some theirs → best.0 ≤ theirs) n
          (λ mine. le_same best.0 own theirs (leb-true best.0 own le) (sym is ∙ mine))
          (λ x less. below.1 x theirs less) b lt has,
      λ b lt has. split (λ x. rank_of ranks x (get cached x) ≡ Some best.0 → best.1 ≤ x) n
          (λ mine. less_le best.1 n below.3) (λ x less. below.2 x less) b lt has,
      lt_next best.1 n below.3,
    )
    by false gt = (
      is,
      λ b theirs lt has. split (λ x. rank_of ranks x (get cached x) ≡ Some theirs → own ≤ theirs) n
          (λ mine. le_same own own theirs (same_le own) (sym is ∙ mine))
          (λ x less mine. less_trans own best.0 theirs (leb-false best.0 own gt) (below.1 x theirs less mine)) b lt has,
      λ b lt has. split (λ x. rank_of ranks x (get cached x) ≡ Some own → n ≤ x) n (λ mine. same_le n)
          (λ x less mine. absurd (never own best.0 (leb-false best.0 own gt) (below.1 x own less mine))) b lt has,
      next_lt n,
    )

  -- where no block behind the first n has an entry, the best of them is the first
  pub best_of_all : (n : ℕ) (best : Option (ℕ × ℕ)) → ((b : ℕ) → n ≤ b → get cached b ≡ None)
      → IsBestBelow ranks cached n best → FirstIs ranks cached best
  best_of_all n None beyond below = λ b. by b (nat_lt b n) refl where
    by : (b : ℕ) (t : Bool) → nat_lt b n ≡ t → rank_of ranks b (get cached b) ≡ None
    by b true lt = below b (below_true b n lt) where
      below_true : (a c : ℕ) → nat_lt a c ≡ true → a < c
      below_true a c is = grind (arith, nat_tests)
    by b false ge = ap (rank_of ranks b) (beyond b (beyond_true b n ge)) where
      beyond_true : (a c : ℕ) → nat_lt a c ≡ false → c ≤ a
      beyond_true a c is = grind (arith, nat_tests)
  best_of_all n (Some best) beyond below = record {
    ranks_so = below.0;
    least = λ b theirs has. below.1 b theirs (inside b theirs has) has;
    lowest = λ b has. below.2 b (inside b best.0 has) has;
  } where
    inside : (b theirs : ℕ) → rank_of ranks b (get cached b) ≡ Some theirs → b < n
    inside b theirs has = by (nat_lt b n) refl where
      by : (t : Bool) → nat_lt b n ≡ t → b < n
      by true lt = grind (arith, nat_tests)
      by false ge =
          let past : n ≤ b = grind (arith, nat_tests) in
          absurd (clash theirs (sym (ap (rank_of ranks b) (beyond b past)) ∙ has))
