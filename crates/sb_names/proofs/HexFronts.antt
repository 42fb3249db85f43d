-- The front of a hex text is the hex text of a front.
use Rattle.std.proofs.Common.{◌≡◌, ℕ, zero, suc, ◌*◌, List, [], ◌∷◌, take, refl, arith}
use Rattle.hex.specs.Hex.{encode_lower, encode_with, lower_digits}

-- the front of a hex text in any digits
take-encode_with : (t xs : List ℕ) (n : ℕ) → take (2 * n) (encode_with t xs) ≡ encode_with t (take n xs)
unfolding encode_with
take-encode_with t xs zero = refl
take-encode_with t [] (suc n) = let e : 2 * suc n ≡ suc (suc (2 * n)) = omega arith in rw e refl
take-encode_with t (x ∷ xs) (suc n) =
    let e : 2 * suc n ≡ suc (suc (2 * n)) = omega arith in
    let ih = take-encode_with t xs n in
    rw (e, ih) refl

-- the first eight lower-case digits are those of the first four bytes
pub encode_lower_front : (bytes : List ℕ) → take 8 (encode_lower bytes) ≡ encode_lower (take 4 bytes)
encode_lower_front bytes = take-encode_with lower_digits bytes 4
