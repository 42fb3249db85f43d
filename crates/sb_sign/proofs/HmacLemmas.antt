-- Facts on blocks under a pad.
use Rattle.std.proofs.Common.{◌≡◌, ℕ, zero, suc, ◌+◌, ◌-◌, ◌<◌, List, [], ◌∷◌, ◌++◌, length, take, drop, get_or, refl}
use Rattle.std.proofs.Common.{sym, ap, ◌∙◌}
use Rattle.std.specs.Prelude.{replicate, bit_xor}
use Rattle.std.specs.Int.Bits.{xor_zero_l}
use Rattle.std.proofs.lemmas.List.{drop-replicate, length-replicate, map-append, take_more}
use Rattle.std.proofs.Math.Seq.{take-length}
use Rattle.sb_sign.specs.Hmac.{filled, padded}

-- zeros under a pad are the pad
padded-replicate : (pad n : ℕ) → padded pad (replicate n 0) ≡ replicate n pad
padded-replicate pad zero = refl
padded-replicate pad (suc n) =
    ap (λ (b : ℕ). b ∷ padded pad (replicate n 0)) (xor_zero_l pad)
    ∙ ap (λ (r : List ℕ). pad ∷ r) (padded-replicate pad n)

-- what is left of a block of the pad
rest-replicate : (pad n : ℕ) → take (64 - n) (drop n (replicate 64 pad)) ≡ replicate (64 - n) pad
rest-replicate pad n =
    let len = length-replicate (64 - n) pad in
    ap (λ (r : List ℕ). take (64 - n) r) (drop-replicate n 64 pad)
    ∙ ap (λ (k : ℕ). take k (replicate (64 - n) pad)) (sym len) ∙ take-length (replicate (64 - n) pad)

-- a key under a pad and what is left of a block of the pad are the key's block under the pad
pub padded-filled : (pad : ℕ) (key : List ℕ)
    → padded pad key ++ take (64 - length key) (drop (length key) (replicate 64 pad)) ≡ padded pad (filled key)
padded-filled pad key =
    ap (λ (r : List ℕ). padded pad key ++ r) (rest-replicate pad (length key)
    ∙ sym (padded-replicate pad (64 - length key)))
    ∙ sym (map-append (λ (byte : ℕ). bit_xor byte pad) key (replicate (64 - length key) 0))

-- one more byte under a pad
pub padded_more : (pad : ℕ) (key : List ℕ) (i : ℕ) → i < length key
    → padded pad (take i key) ++ bit_xor (get_or key i 0) pad ∷ [] ≡ padded pad (take (i + 1) key)
padded_more pad key i within =
    sym (ap (λ (k : List ℕ). padded pad k) (take_more key i 0 within)
    ∙ map-append (λ (byte : ℕ). bit_xor byte pad) (take i key) (get_or key i 0 ∷ []))
