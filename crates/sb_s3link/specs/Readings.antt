-- What the reading of a name answers.
use Rattle.std.specs.Prelude.{ℕ, ◌≡◌, ◌≤◌, List, [], ◌∷◌, ◌++◌, length, drop, Option, Some, None, Result, Ok, Err}
use Rattle.sb_s3link.specs.declared.name.Name.{Name}
use Rattle.sb_s3link.specs.Names.{HasNoName, IsName}

-- the name that stands there, or that none does; without memory nothing is said
abbrev pub ReadsName : {E : Type 0} → List ℕ → Result (Option Name) E → Type 0
ReadsName text (Ok (Some name)) = IsName text name.text (drop name.length text) × (name.length ≤ length text)
ReadsName text (Ok None) = HasNoName text
ReadsName text (Err fault) = Unit {0}

-- the name that stands there was taken behind those of a page, or none does; after a fault the page stays
abbrev pub TakesName : {E : Type 0} → List ℕ → List (List ℕ) → List (List ℕ) → Result (Option ℕ) E → Type 0
TakesName text old new (Ok (Some count)) =
    (name : List ℕ) × IsName text name (drop count text) × (count ≤ length text) × (new ≡ old ++ name ∷ [])
TakesName text old new (Ok None) = HasNoName text × (new ≡ old)
TakesName text old new (Err fault) = new ≡ old
