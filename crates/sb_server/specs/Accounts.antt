-- The accounts of passes that were joined: a number, with all entries of that pass.
use Rattle.std.specs.Prelude.{ℕ, ◌≡◌, ◌+◌, ◌<◌, ◌≤◌, ◌⊎◌, List, [], ◌∷◌, ◌++◌}
use Rattle.std.specs.List.{AllByRecursion}
use Rattle.sb_turn.specs.Histories.{entries_of_pass}
use Rattle.sb_turn.specs.Views.{Account, count}
use Rattle.sb_core.specs.declared.standing.Timed.{Timed}

-- it stands in the list
abbrev pub IsIn : {X : Type 0} → X → List X → Type 0
IsIn x [] = ⊥
IsIn x (y ∷ ys) = (x ≡ y) ⊎ IsIn x ys

-- all of these stand in the list
abbrev pub AreIn : {X : Type 0} → List X → List X → Type 0
AreIn xs ys = AllByRecursion (λ x. IsIn x ys) xs

-- these accounts came to those that were joined before, and no other account came in the place of two of them
pub record Gathers (before after : List (Account Timed)) (accounts : List (Account Timed)) : Type 0 where
  pub kept : AreIn before after
  pub all_in : AreIn accounts after
  pub apart : (k : ℕ) → count k accounts + count k before ≤ count k after

-- the accounts of these, one after the other
abbrev pub gathered : {X : Type 0} → (X → List (Account Timed)) → List X → List (Account Timed)
gathered accounts [] = []
gathered accounts (x ∷ xs) = accounts x ++ gathered accounts xs

-- of these passes a history has just these entries. 0 is the number of no pass
abbrev pub AreExact : List (ℕ × Timed) → List (Account Timed) → Type 0
AreExact history accounts =
    AllByRecursion (λ account. 0 < account.0 → entries_of_pass account.0 history ≡ account.1) accounts

-- no number stands twice
abbrev pub AreApart : List (Account Timed) → Type 0
AreApart accounts = (k : ℕ) → 0 < k → count k accounts ≤ 1
