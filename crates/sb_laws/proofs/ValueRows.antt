-- Reads of old values and flushes that end too early.
use Rattle.std.proofs.Common.{ℕ, ◌≡◌, List, [], ◌∷◌, Contains, refl, arith}
use Rattle.sb_history.specs.Durability.{FlushesAreDurable}
use Rattle.sb_laws.specs.Histories.{a, b, a_at_0, flushed_too_early, flushed_after_failure}
use Rattle.sb_laws.proofs.Held.{Each}
use Rattle.sb_laws.proofs.Shown.{contained}

-- block 0 has held only b since the flush began
b_alone : (contents : List (List ℕ)) → Each (λ content. content ≡ b) contents → Contains contents a → ⊥
b_alone contents all has =
    let is : a ≡ b = contained (λ content. content ≡ b) a contents has.0 all has.1 has.2 in absurd (cc)

pub flushed_too_early_loses : FlushesAreDurable a_at_0 flushed_too_early → ⊥
flushed_too_early_loses durable =
    b_alone (b ∷ b ∷ b ∷ []) (refl, (refl, (refl, tt))) (durable.0 0 a (1, omega arith, refl))

pub flushed_after_failure_loses : FlushesAreDurable a_at_0 flushed_after_failure → ⊥
flushed_after_failure_loses durable =
    b_alone (b ∷ b ∷ b ∷ b ∷ []) (refl, (refl, (refl, (refl, tt)))) (durable.0 0 a (1, omega arith, refl))
