-- The bytes of a name as a listing writes them: as they are, or as entities (XML 1.0, sections 4.1 and 4.6).
use Rattle.std.specs.Prelude.{ℕ, ◌+◌, ◌*◌, ◌-◌, ◌==◌, ◌&&◌, nat_eq, nat_le, nat_lt, Bool, if◌then◌else◌, List, [], ◌∷◌, drop}
use Rattle.std.specs.Prelude.{codes, Option, Some, None}
use Rattle.std.specs.List.{starts_with}
use Rattle.std.specs.Char.{is_ascii_digit}
use Rattle.sb_s3link.specs.declared.entity.Written.{Written}

-- the text begins with these bytes
abbrev pub begins : List ℕ → List ℕ → Bool
begins text front = starts_with nat_eq text front

-- a byte that so many bytes write
abbrev pub written : ℕ → ℕ → Written
written byte length = record { byte = byte; length = length }

-- the five entities that have names
abbrev pub named_at : List ℕ → Option Written
named_at text =
    if begins text (codes "&amp;") then Some (written 38 5)
    else (if begins text (codes "&lt;") then Some (written 60 4)
    else (if begins text (codes "&gt;") then Some (written 62 4)
    else (if begins text (codes "&quot;") then Some (written 34 6)
    else (if begins text (codes "&apos;") then Some (written 39 6) else None))))

-- a number with one more decimal digit, at most 127
abbrev pub with_digit : ℕ → ℕ → Option ℕ
with_digit value byte =
    if is_ascii_digit byte && nat_le (value * 10 + (byte - 48)) 127 then Some (value * 10 + (byte - 48)) else None

-- the byte whose number stands behind &# and so many digits that gave this: at most three digits in all, then a
-- semicolon, and a number that isn't 0
abbrev pub number_after : ℕ → Option ℕ → List ℕ → Option Written
number_after digits None bytes = None
number_after digits (Some value) [] = None
number_after digits (Some value) (byte ∷ bytes) =
    if byte == 59 then (if nat_le 1 value then Some (written value (digits + 3)) else None)
    else (if nat_lt digits 3 then number_after (digits + 1) (with_digit value byte) bytes else None)

-- an entity behind its ampersand, which names a byte or has its number
abbrev pub entity_at : Option Written → List ℕ → Option Written
entity_at (Some named) bytes = Some named
entity_at None bytes = if begins bytes (codes "#") then number_after 0 (Some 0) (drop 1 bytes) else None

-- the byte that is written at the begin of the text; none at its end, at a < and at an & that begins no entity
abbrev pub byte_at : List ℕ → Option Written
byte_at [] = None
byte_at (byte ∷ bytes) =
    if byte == 60 then None
    else (if byte == 38 then entity_at (named_at (byte ∷ bytes)) bytes else Some (written byte 1))
