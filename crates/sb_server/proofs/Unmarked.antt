-- A disk of which nothing is known to be zeros has no history yet.
use Rattle.std.proofs.Common.{ℕ, zero, suc, ◌≡◌, ◌∙◌, Bool, false, if◌then◌else◌, [], ◌∷◌, ap, refl}
use Rattle.sb_base.specs.declared.entry.EntryKind.TheVariants.{KnownZero}
use Rattle.sb_core.specs.Standing.{timed, timed_opening}

pub none_marked : (marks : ℕ → Bool) (blocks : ℕ) → ((block : ℕ) → marks block ≡ false) → timed_opening marks blocks ≡ []
none_marked marks zero unmarked = refl
none_marked marks (suc n) unmarked =
    ap (λ (t : Bool). if t then (0, timed 0 (KnownZero n)) ∷ timed_opening marks n else timed_opening marks n) (unmarked n)
    ∙ none_marked marks n unmarked
