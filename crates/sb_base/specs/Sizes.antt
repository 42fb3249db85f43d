-- Sizes as a person writes them.
use Rattle.std.specs.Prelude.{ℕ, ◌+◌, ◌*◌, ◌||◌, nat_lt, ◌==◌, if◌then◌else◌, List, [], ◌∷◌, length, take, drop, Option}
use Rattle.std.specs.Prelude.{Some, None, Result, Ok, Err}
use Rattle.std.specs.List.{prefix_len}
use Rattle.std.specs.Char.{is_ascii_digit}
use Rattle.std.specs.Str.Parse.{digits_value}
use Rattle.sb_base.specs.declared.size.SizeFault.{SizeFault}
use Rattle.sb_base.specs.declared.size.SizeFault.TheVariants.{NoDigits, BadCharacter, Overflow}

-- the unit that a letter stands for: k, m, g or t in either case
abbrev pub unit_of : ℕ → Option ℕ
unit_of letter =
    if letter == 107 || letter == 75 then Some 1024
    else if letter == 109 || letter == 77 then Some 1048576
    else if letter == 103 || letter == 71 then Some 1073741824
    else if letter == 116 || letter == 84 then Some 1099511627776
    else None

-- a unit that ends a text, or the place of the byte that spoils it
abbrev pub unit_at_end : Option ℕ → List ℕ → Result ℕ ℕ
unit_at_end None behind = Err 0
unit_at_end (Some unit) [] = Ok unit
unit_at_end (Some unit) (byte ∷ bytes) = Err 1

-- the unit that the text behind the digits stands for
abbrev pub suffix_unit : List ℕ → Result ℕ ℕ
suffix_unit [] = Ok 1
suffix_unit (letter ∷ behind) = unit_at_end (unit_of letter) behind

-- so many units, if 64 bits have room for them
abbrev pub scaled : ℕ → ℕ → Result ℕ SizeFault
scaled number unit = if nat_lt 18446744073709551615 (number * unit) then Err Overflow else Ok (number * unit)

-- the size of some digits and the unit behind them
abbrev pub size_by : List ℕ → Result ℕ ℕ → Result ℕ SizeFault
size_by [] unit = Err NoDigits
size_by (digit ∷ digits) (Err place) = Err (BadCharacter (length (digit ∷ digits) + place))
size_by (digit ∷ digits) (Ok unit) = scaled (digits_value 10 (digit ∷ digits)) unit

-- the size that a text stands for
abbrev pub size_of : List ℕ → Result ℕ SizeFault
size_of text =
    let count = prefix_len is_ascii_digit text in
    size_by (take count text) (suffix_unit (drop count text))
