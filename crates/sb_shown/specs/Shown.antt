-- A value as a message shows it: on one line, in printable ASCII, and not at length.
use Rattle.std.specs.Prelude.{ℕ, ◌+◌, ◌/◌, ◌%◌, ◌&&◌, Bool, not, nat_eq, nat_le, nat_lt, if◌then◌else◌, List, []}
use Rattle.std.specs.Prelude.{◌∷◌, ◌++◌, length, take, codes, decimal}

-- a byte that stands for itself: from the space to the tilde, but the backslash
abbrev pub is_plain : ℕ → Bool
is_plain byte = (nat_le 32 byte && nat_le byte 126) && not (nat_eq byte 92)

-- a digit of a number below 16, in lower case
abbrev pub hex_digit : ℕ → ℕ
hex_digit number = if nat_lt number 10 then 48 + number else 87 + number

-- a byte as itself, or as a backslash, an x and its two digits
abbrev pub shown_byte : ℕ → List ℕ
shown_byte byte =
    if is_plain byte then byte ∷ [] else 92 ∷ 120 ∷ hex_digit (byte / 16) ∷ hex_digit (byte % 16) ∷ []

abbrev pub shown_bytes : List ℕ → List ℕ
shown_bytes [] = []
shown_bytes (byte ∷ bytes) = shown_byte byte ++ shown_bytes bytes

-- what follows a value of so many bytes that isn't shown whole
abbrev pub length_note : ℕ → List ℕ
length_note size = codes ".. (" ++ decimal size ++ codes " bytes)"

-- a value of at most 128 bytes, or the first 128 and the length of a longer one
abbrev pub shown : List ℕ → List ℕ
shown value =
    if nat_lt 128 (length value) then shown_bytes (take 128 value) ++ length_note (length value) else shown_bytes value
