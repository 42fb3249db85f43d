-- Rows by rising keys, and the place of a key among them.
use Rattle.std.specs.Prelude.{Bool, if◌then◌else◌, ℕ, ◌≡◌, ◌<◌, ◌≤◌, List, Some, None, length, slice_index_or, slice_set}
use Rattle.std.specs.List.{insert}
use Rattle.std.specs.Ordering.{nat_cmp}
use Rattle.std.specs.FinMap.{find, put}

-- the key's row is at this place
pub record IsRowOf {X : Type 0} (rows : List (ℕ × X)) (key place : ℕ) : Type 0 where
  pub in_range : place < length rows
  pub at : (d : ℕ × X) → (slice_index_or rows place d).0 ≡ key
  pub found : (d : ℕ × X) → find nat_cmp key rows ≡ Some (slice_index_or rows place d).1
  pub written : (value : X) → put nat_cmp key value rows ≡ slice_set rows place (key, value)

-- no row is the key's, and it would be at this place
pub record IsGapFor {X : Type 0} (rows : List (ℕ × X)) (key place : ℕ) : Type 0 where
  pub in_range : place ≤ length rows
  pub absent : find nat_cmp key rows ≡ None
  pub inserted : (value : X) → put nat_cmp key value rows ≡ insert rows place (key, value)

-- one where a fact holds
abbrev pub one_if : Bool → ℕ
one_if holds = if holds then 1 else 0
