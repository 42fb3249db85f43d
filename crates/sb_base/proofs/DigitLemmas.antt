-- The number of the digits at the front of a text.
use Rattle.std.proofs.Common.{ℕ, ◌≡◌, ◌<◌, ◌≤◌, ◌+◌, ◌*◌, List, take, length, All, IsTrue, arith, ap, ◌∙◌}
use Rattle.std.specs.List.{prefix_len}
use Rattle.std.specs.Str.Parse.{digits_value}
use Rattle.std.specs.Char.{digit_value, is_ascii_digit}
use Rattle.std.proofs.Math.ListN.{get_or}
use Rattle.std.proofs.lemmas.Int.Digits.{digits_value_more}
use Rattle.std.proofs.lemmas.Str.Parse.{digits_value-take-le}
use Rattle.std.proofs.lemmas.List.{length-take, get_or-take}
use Rattle.std.proofs.lemmas.List.Sums.{prefix_len_passes}

-- one more digit
pub digits_value-next : (digits : List ℕ) (i : ℕ) → i < length digits
    → digits_value 10 (take (i + 1) digits) ≡ digits_value 10 (take i digits) * 10 + digit_value (get_or digits i 0)
digits_value-next digits i within = digits_value_more 10 digits i within

-- the front of some digits is no greater than all of them
pub digits_value-front : (digits : List ℕ) (i : ℕ) → digits_value 10 (take i digits) ≤ digits_value 10 digits
digits_value-front digits i = digits_value-take-le 10 digits i (omega arith)

-- the digits at the front are digits
pub front_passes : (bytes front : List ℕ) (n : ℕ) → n ≡ prefix_len is_ascii_digit bytes → front ≡ take n bytes
    → All (λ digit. IsTrue (is_ascii_digit digit)) front
front_passes bytes front n count is k d within =
    let short : k < n = omega (arith, ap length is, length-take n bytes) in
    let same : get_or front k d ≡ get_or bytes k d = ap (λ (l : List ℕ). get_or l k d) is
    ∙ get_or-take n bytes k d short in
    ap is_ascii_digit same ∙ prefix_len_passes is_ascii_digit bytes k d (omega (arith, count))
