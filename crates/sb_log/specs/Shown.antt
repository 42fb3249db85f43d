-- Bytes as only clauses read them.
use Rattle.std.specs.Prelude.{ℕ, List, [], ◌∷◌, ◌++◌}
use Rattle.sb_log.specs.declared.shown.Bytes.{Bytes, End, More'}

-- the bytes, of which a value has the last first
abbrev pub bytes_in : Bytes → List ℕ
bytes_in End = []
bytes_in (More' last shape before) = bytes_in before ++ last ∷ []
