-- The names of a listing.
use Rattle.std.specs.Prelude.{ℕ, ◌≡◌, List, [], ◌∷◌, ◌++◌, drop, codes, Some}
use Rattle.sb_s3link.specs.declared.entity.Written.{Written}
use Rattle.sb_s3link.specs.Entities.{byte_at}

-- these bytes are written at the begin of the text, and lead to this
abbrev pub Writes : List ℕ → List ℕ → List ℕ → Type 0
Writes text [] rest = text ≡ rest
Writes text (byte ∷ name) rest =
    (at : Written) × (byte_at text ≡ Some at) × (at.byte ≡ byte) × Writes (drop at.length text) name rest

-- the name that stands there up to its end tag, and what is behind that
abbrev pub IsName : List ℕ → List ℕ → List ℕ → Type 0
IsName text name rest = Writes text name (codes "</Key>" ++ rest)

-- no name stands there
abbrev pub HasNoName : List ℕ → Type 0
HasNoName text = (name rest : List ℕ) → IsName text name rest → ⊥
