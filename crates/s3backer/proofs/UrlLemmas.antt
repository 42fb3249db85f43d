-- Digits are ASCII.
use Rattle.std.proofs.Common.{ℕ, zero, suc, ◌≡◌, ◌<◌, ◌≤◌, Bool, true, false, ◌&&◌, nat_le, List, [], ◌∷◌, refl, arith}
use Rattle.std.proofs.Common.{Option, Result, ap, ◌∙◌}
use Rattle.std.specs.List.{list_all}
use Rattle.sb_base.specs.declared.size.SizeFault.{SizeFault}
use Rattle.sb_base.specs.Sizes.{size_of}
use Rattle.s3backer.specs.Urls.{port_by, port_of}
use Rattle.s3backer.specs.Addresses.{is_port, is_port_number}
use Rattle.std.specs.Char.{is_ascii_digit}
use Rattle.std.specs.Str.{IsAscii}
use Rattle.std.proofs.lemmas.Bool.Decides.{nat_tests}

both : (first second : Bool) → (first && second) ≡ true → (first ≡ true) × (second ≡ true)
both true second hold = (refl, hold)
both false second hold = absurd (cc)

digit_below : (byte : ℕ) → is_ascii_digit byte ≡ true → byte < 128
digit_below byte is = grind (arith, nat_tests)

pub digits_are_ascii : (bytes : List ℕ) → list_all is_ascii_digit bytes ≡ true → IsAscii bytes
digits_are_ascii [] all i = omega arith
digits_are_ascii (byte ∷ bytes) all zero = digit_below byte (both (is_ascii_digit byte) (list_all is_ascii_digit bytes) all).0
digits_are_ascii (byte ∷ bytes) all (suc i) =
    digits_are_ascii bytes (both (is_ascii_digit byte) (list_all is_ascii_digit bytes) all).1 i

-- the port of digits that were read
pub port_of_digits : (digits text : List ℕ) → text ≡ digits → list_all is_ascii_digit digits ≡ true
    → {size : Result ℕ SizeFault} → size ≡ size_of text → {port : Option ℕ} → port ≡ port_by size
    → port ≡ port_of digits
port_of_digits digits text same all sized found =
    rw all (found ∙ ap port_by (sized ∙ ap size_of same))

-- and so of a port to listen at
pub is_port_of_digits : (digits text : List ℕ) → text ≡ digits → list_all is_ascii_digit digits ≡ true
    → {size : Result ℕ SizeFault} → size ≡ size_of text → {is : Bool} → is ≡ is_port_number size → is ≡ is_port digits
is_port_of_digits digits text same all sized found =
    rw all (found ∙ ap is_port_number (sized ∙ ap size_of same))
