-- The entries of one pass.
use Rattle.std.specs.Prelude.{ℕ, ◌≡◌, nat_eq, List, [], ◌∷◌, filter}
use Rattle.sb_base.specs.declared.entry.Entry.{Entry}

-- the entries of a pass
abbrev pub entries_of_pass : List Entry → ℕ → List Entry
entries_of_pass past pass = filter (λ entry. nat_eq entry.pass pass) past

-- each entry is of the pass
abbrev pub IsOfPass : ℕ → List Entry → Type 0
IsOfPass pass [] = Unit {0}
IsOfPass pass (entry ∷ past) = (entry.pass ≡ pass) × IsOfPass pass past
