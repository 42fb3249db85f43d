-- The bytes that wait in a window.
use Rattle.std.specs.Prelude.{ℕ, ◌≡◌, ◌≤◌, ◌<◌, ◌++◌, length, Result, Ok, Err, List, [], ◌∷◌, drop, Option, Some, None}
use Rattle.sb_http.specs.declared.window.Window.{Window}

-- what waits to be read
abbrev pub pending : Window → List ℕ
pending window = drop window.start window.bytes.items

-- the first byte is taken, or there is none
abbrev pub Pops : List ℕ → List ℕ → Option ℕ → Type 0
Pops before now None = (before ≡ []) × (now ≡ [])
Pops before now (Some byte) = before ≡ byte ∷ now

-- the first bytes go behind the old ones, so many or all; without memory none
abbrev pub Pours : {E : Type 0} → List ℕ → List ℕ → List ℕ → List ℕ → ℕ → Result ℕ E → Type 0
Pours before now old new most (Ok count) =
    (bytes : List ℕ) × (length bytes ≡ count) × (before ≡ bytes ++ now) × (new ≡ old ++ bytes)
    × (count ≤ most) × (count < most → now ≡ [])
Pours before now old new most (Err fault) = (now ≡ before) × (new ≡ old)
