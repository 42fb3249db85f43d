-- Numbers by their digits.
use Rattle.std.proofs.Common.{ℕ, ◌≡◌, ◌≤◌, ◌<◌, ◌^◌, true, false, List, Some, None, refl, sym, ap, arith}
use Rattle.std.specs.Prelude.{Option, IfSome, MatchOption}
use Rattle.std.specs.Str.Parse.{digits_value}
use Rattle.std.proofs.lemmas.Bool.{lt-ltb, le-ltb}
use Rattle.sb_tools.specs.Detection.{is_number, number_below}

-- the number of a text that is one
pub number_read : (text : List ℕ) (read : Option ℕ) → is_number text ≡ true → IfSome read (λ n. n < 2 ^ 64)
    → MatchOption read (2 ^ 64 ≤ digits_value 10 text) (λ n. n ≡ digits_value 10 text)
    → read ≡ number_below (2 ^ 64) text
number_read text (Some n) is fits value =
    let small : digits_value 10 text < 2 ^ 64 = omega (arith, value, fits) in
    let test = lt-ltb (digits_value 10 text) (2 ^ 64) small in
    rw (is, test) (ap Some value)
number_read text None is fits large =
    let test = le-ltb (digits_value 10 text) (2 ^ 64) large in
    rw (is, test) refl
