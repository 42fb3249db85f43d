-- The names of all objects of a fake.
use Rattle.std.specs.Prelude.{ℕ, Bool, List, nat_eq, IsSome}
use Rattle.std.specs.List.{list_any, AllByRecursion, Contains, IsDistinct}
use Rattle.std.specs.Cmp.Lexicographic.{pointwise}
use Rattle.sb_world.specs.Folders.{Files}
use Rattle.sb_fakes.specs.Objects.{bodies_of}
use Rattle.sb_fakes.specs.declared.object.Object.{Object}

-- a name is among these
abbrev pub is_among : List ℕ → List (List ℕ) → Bool
is_among name names = list_any (pointwise nat_eq name) names

-- names of these objects, with all of the objects in front, each once
pub record IsListed {X : Type 0} (names : List (List ℕ)) (front objects : List (Object X)) : Type 0 where
  pub each : AllByRecursion (λ name. IsSome (bodies_of objects name)) names
  pub all : (name : List ℕ) → IsSome (bodies_of front name) → Contains names name
  pub once : IsDistinct (pointwise nat_eq) names

-- the names of all objects, each once
abbrev pub AreNames : {X : Type 0} → List (List ℕ) → List (Object X) → Type 0
AreNames names objects = IsListed names objects objects

-- names of files, each once, among them those of all of these names that stand for a file
pub record Collects (names seen : List (List ℕ)) (files : Files) : Type 0 where
  pub each : AllByRecursion (λ name. IsSome (files name)) names
  pub all : (name : List ℕ) → Contains seen name → IsSome (files name) → Contains names name
  pub once : IsDistinct (pointwise nat_eq) names

-- a name of a file is among the names now, and what they were else stays
pub record AddsName (name : List ℕ) (files : Files) (old now : List (List ℕ)) : Type 0 where
  pub kept : (other : List ℕ) → Contains old other → Contains now other
  pub here : IsSome (files name) → Contains now name
  pub each : AllByRecursion (λ other. IsSome (files other)) old → AllByRecursion (λ other. IsSome (files other)) now
  pub once : IsDistinct (pointwise nat_eq) old → IsDistinct (pointwise nat_eq) now
