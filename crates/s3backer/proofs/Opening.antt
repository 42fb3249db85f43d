-- A disk of which nothing is known to be zeros has no history yet.
use Rattle.std.proofs.Common.{ℕ, zero, suc, ◌≡◌, ◌∙◌, Bool, false, if◌then◌else◌, List, [], ◌∷◌, ap, refl}
use Rattle.sb_core.specs.Opening.{known_entry, opening}

pub opening_unmarked : (marks : ℕ → Bool) (blocks : ℕ) → ((block : ℕ) → marks block ≡ false) → opening marks blocks ≡ []
opening_unmarked marks zero unmarked = refl
opening_unmarked marks (suc n) unmarked =
    ap (λ (t : Bool). if t then known_entry n ∷ opening marks n else opening marks n) (unmarked n)
    ∙ opening_unmarked marks n unmarked
