-- The pages of a listing.
use Rattle.std.specs.Prelude.{ℕ, ◌≡◌, ◌≤◌, ◌⊎◌, Bool, ◌&&◌, IsTrue, List, length, nat_eq, All, AllPairs}
use Rattle.std.specs.Prelude.{Contains, IsSome}
use Rattle.std.specs.List.{starts_with}
use Rattle.std.specs.Ordering.{nat_cmp, is_gt}
use Rattle.std.specs.Cmp.Lexicographic.{slice_cmp}
use Rattle.std.specs.declared.cmp.Ordering.TheVariants.{Less}
use Rattle.sb_world.specs.Folders.{Files}

-- a name stands before another in byte order
abbrev pub Precedes : List ℕ → List ℕ → Type 0
Precedes left right = slice_cmp nat_cmp left right ≡ Less

-- a listing is asked for an object, which begins with the prefix and stands after the marker
pub record IsAskedFor (prefix marker : List ℕ) (objects : Files) (name : List ℕ) : Type 0 where
  pub there : IsSome (objects name)
  pub begins : IsTrue (starts_with nat_eq name prefix)
  pub after : Precedes marker name

-- the same of a name alone: it begins with the prefix and stands after the marker
abbrev pub is_asked_for : List ℕ → List ℕ → List ℕ → Bool
is_asked_for prefix marker name =
    starts_with nat_eq name prefix && is_gt (slice_cmp nat_cmp name marker)

-- a name stands after all names of a full page, of 1,000 names
pub record StandsBehind (names : List (List ℕ)) (name : List ℕ) : Type 0 where
  pub full : length names ≡ 1000
  pub after : All (λ other. Precedes other name) names

-- a page has the first of the objects that a listing is asked for, in byte order, and tells whether more follow
pub record IsPage (prefix marker : List ℕ) (names : List (List ℕ)) (truncated : Bool) (objects : Files) : Type 0 where
  pub rising : AllPairs Precedes names
  pub asked : All (IsAskedFor prefix marker objects) names
  pub fits : length names ≤ 1000
  pub all : (name : List ℕ) → IsAskedFor prefix marker objects name
      → Contains names name ⊎ (IsTrue truncated × StandsBehind names name)
  pub more : IsTrue truncated → (name : List ℕ) × IsAskedFor prefix marker objects name × StandsBehind names name
