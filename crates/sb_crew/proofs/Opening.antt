-- The opening list of a disk by what is marked.
use Rattle.std.proofs.Common.{ℕ, zero, suc, ◌≡◌, ◌+◌, ◌∙◌, Bool, true, false, if◌then◌else◌, List, [], ◌∷◌, ap, refl}
use Rattle.std.proofs.Common.{arith}
use Rattle.sb_base.specs.declared.entry.Entry.{Entry}
use Rattle.sb_history.specs.Eviction.{count}
use Rattle.sb_core.specs.Opening.{known_entry, opening}

-- where no block is marked none is counted
pub count_none : (marks : ℕ → Bool) (n : ℕ) → ((block : ℕ) → marks block ≡ false) → count marks n ≡ 0
count_none marks zero none = refl
count_none marks (suc n) none =
    ap (λ (t : Bool). if t then 1 + count marks n else count marks n) (none n) ∙ count_none marks n none

either_none : (t : Bool) (n : ℕ) (entry : Entry) (entries : List Entry) → (if t then 1 + n else n) ≡ 0
    → (n ≡ 0 → entries ≡ []) → (if t then entry ∷ entries else entries) ≡ []
either_none true n entry entries is none = absurd (omega (arith, is))
either_none false n entry entries is none = none is

-- where none is counted the list is empty
pub opening_none : (marks : ℕ → Bool) (n : ℕ) → count marks n ≡ 0 → opening marks n ≡ []
opening_none marks zero is = refl
opening_none marks (suc n) is =
    either_none (marks n) (count marks n) (known_entry n) (opening marks n) is (opening_none marks n)
