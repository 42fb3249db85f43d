-- Facts on encoded bytes.
use Rattle.std.proofs.Common.{◌≡◌, ◌≢◌, ℕ, zero, suc, ◌+◌, ◌<◌, ◌≤◌, Bool, false, ◌||◌, ◌==◌, not, refl, List, [], ◌∷◌}
use Rattle.std.proofs.Common.{◌++◌, take, get_or, length, sym, ap, ◌∙◌, inl, inr, arith, append_assoc}
use Rattle.std.specs.Prelude.{map, if◌then◌else◌}
use Rattle.std.specs.Char.{is_ascii_alphanumeric}
use Rattle.std.specs.List.{flat_map, join_with_byte}
use Rattle.std.proofs.lemmas.Bool.{agree_below_at, cases_eq, cases_lt}
use Rattle.std.proofs.lemmas.Bool.Decides.{nat_tests}
use Rattle.percent_encoding.specs.declared.ascii_set.AsciiSet.{AsciiSet}
use Rattle.percent_encoding.specs.declared.ascii_set.TheConstants.{NON_ALPHANUMERIC}
use Rattle.percent_encoding.specs.AsciiSet.{contains, should_percent_encode}
use Rattle.percent_encoding.specs.Percent.{encode_byte, percent_encode, percent_encode_byte}
use Rattle.percent_encoding.proofs.StandardFacts.{non_alphanumeric}
use Rattle.std.proofs.lemmas.List.{map-append, take_more}
use Rattle.sb_sign.specs.declared.request.Pair.{Pair}
use Rattle.sb_sign.specs.Encoding.{encoded_path_of, encoded_value_of, is_unreserved}

-- the set without letters and digits
pub contains-non_alphanumeric : (b : ℕ) → b < 128 → contains NON_ALPHANUMERIC b ≡ not (is_ascii_alphanumeric b)
contains-non_alphanumeric b small =
    agree_below_at (contains NON_ALPHANUMERIC) (λ b. not (is_ascii_alphanumeric b)) 128 b non_alphanumeric small

-- a set without one byte more
pub contains_without : (before after : AsciiSet) (byte : ℕ) (kept : ℕ → Bool) → contains after byte ≡ false
    → ((b : ℕ) → b < 128 → b ≢ byte → contains after b ≡ contains before b)
    → ((b : ℕ) → b < 128 → contains before b ≡ not (kept b))
    → (b : ℕ) → b < 128 → contains after b ≡ not (kept b || (b == byte))
contains_without before after byte kept removed others was b small =
    elim (cases_eq b byte) [
      | inl same ↦ grind (arith, nat_tests, ap (contains after) same, removed)
      | inr other ↦ grind (arith, nat_tests, others b small other, was b small)
    ]

-- a byte is encoded where the set has it or it is no ASCII
encode_byte-set : (set : AsciiSet) (kept : ℕ → Bool) → ((b : ℕ) → b < 128 → contains set b ≡ not (kept b))
    → ((b : ℕ) → 128 ≤ b → kept b ≡ false) → (b : ℕ)
    → encode_byte set b ≡ (if kept b then b ∷ [] else percent_encode_byte b)
unfolding should_percent_encode
encode_byte-set set kept inside outside b =
    elim (cases_lt b 128) [
      | inl small ↦ grind (arith, nat_tests, inside b small)
      | inr large ↦ grind (arith, nat_tests, outside b large)
    ]

-- what the crate encodes by such a set
percent_encode-set : (set : AsciiSet) (kept : ℕ → Bool) → ((b : ℕ) → b < 128 → contains set b ≡ not (kept b))
    → ((b : ℕ) → 128 ≤ b → kept b ≡ false) → (bytes : List ℕ)
    → percent_encode set bytes ≡ flat_map (λ b. if kept b then b ∷ [] else percent_encode_byte b) bytes
unfolding percent_encode
percent_encode-set set kept inside outside [] = refl
percent_encode-set set kept inside outside (b ∷ rest) =
    rw (encode_byte-set set kept inside outside b, percent_encode-set set kept inside outside rest) refl

pub percent_encode-path : (set : AsciiSet) → ((b : ℕ) → b < 128 → contains set b ≡ not (is_unreserved b || (b == 47)))
    → (bytes : List ℕ) → percent_encode set bytes ≡ encoded_path_of bytes
unfolding encoded_path_of
percent_encode-path set inside = percent_encode-set set (λ b. is_unreserved b || (b == 47)) inside
    (λ b large. grind (arith, nat_tests))

pub percent_encode-value : (set : AsciiSet) → ((b : ℕ) → b < 128 → contains set b ≡ not (is_unreserved b))
    → (bytes : List ℕ) → percent_encode set bytes ≡ encoded_value_of bytes
unfolding encoded_value_of
percent_encode-value set inside = percent_encode-set set is_unreserved inside (λ b large. grind (arith, nat_tests))

-- one more piece behind others
pub join_with_byte-push : (c : ℕ) (piece : List ℕ) (first : List ℕ) (pieces : List (List ℕ))
    → join_with_byte c ((first ∷ pieces) ++ piece ∷ []) ≡ join_with_byte c (first ∷ pieces) ++ c ∷ [] ++ piece
join_with_byte-push c piece first [] = sym (append_assoc first (c ∷ []) piece)
join_with_byte-push c piece first (second ∷ rest) =
    rw (join_with_byte-push c piece second rest) (simp append_assoc)

-- the first piece of a list, joined
pub joined_first : (c : ℕ) (f : Pair → List ℕ) (pairs : List Pair) (pair : Pair) (i : ℕ) → i ≡ 0 → i < length pairs
    → pair ≡ get_or pairs i pair → f pair ≡ join_with_byte c (map f (take (i + 1) pairs))
joined_first c f [] pair i first within is = absurd (omega arith)
joined_first c f (p ∷ rest) pair i first within is = rw (first, ap f (rw first at is)) refl

-- the next piece of a list, joined to those before
pub joined_next : (c : ℕ) (f : Pair → List ℕ) (pairs : List Pair) (pair : Pair) (i : ℕ) → 0 < i → i < length pairs
    → pair ≡ get_or pairs i pair
    → join_with_byte c (map f (take i pairs)) ++ c ∷ [] ++ f pair ≡ join_with_byte c (map f (take (i + 1) pairs))
joined_next c f [] pair i later within is = absurd (omega arith)
joined_next c f (p ∷ rest) pair zero later within is = absurd (omega arith)
joined_next c f (p ∷ rest) pair (suc j) later within is =
    let more = take_more (p ∷ rest) (suc j) pair within in
    sym (
    ap (λ (front : List Pair). join_with_byte c (map f front))
    (more ∙ ap (λ (q : Pair). take (suc j) (p ∷ rest) ++ q ∷ []) (sym is))
    ∙ ap (λ (pieces : List (List ℕ)). join_with_byte c pieces) (map-append f (take (suc j) (p ∷ rest)) (pair ∷ []))
    ∙ join_with_byte-push c (f pair) (f p) (map f (take j rest))
    )
