-- No name of a disk's object ends as a temporary file's does.
use Rattle.std.proofs.Common.{ℕ, zero, suc, ◌≡◌, ◌≢◌, ◌-◌, ◌/◌, ◌%◌, ◌∙◌, Bool, true, false, not, List, [], ◌∷◌, ◌++◌, length}
use Rattle.std.proofs.Common.{drop, get_or, refl, sym, ap, arith, eqb, append_assoc, codes, take}
use Rattle.std.specs.Int.{w32, to_be_bytes, byte_at}
use Rattle.std.specs.List.{list_all}
use Rattle.std.proofs.lemmas.Bool.{and_parts, false_from_ne_true}
use Rattle.std.proofs.lemmas.Bool.Decides.{Decides-eqb}
use Rattle.std.proofs.lemmas.List.Prefix.{end_rest}
use Rattle.std.proofs.lemmas.Slice.Eq.{ends_is}
use Rattle.hex.specs.Hex.{encode_with, lower_digits}
use Rattle.sb_names.specs.Names.{digits_of, hash_of, object_name_of, token_name_of}
use Rattle.sb_dirstore.specs.Objects.{is_temporary, IsObjectName}
use Rattle.sb_dirstore.specs.Names.{BlocksAreObjects, TokenIsObject}

-- a name whose last byte isn't `p` isn't temporary
ends_otherwise : (name front : List ℕ) (last : ℕ) → name ≡ front ++ last ∷ [] → last ≢ 112 → IsObjectName name
ends_otherwise name front last is other =
    false_from_ne_true (is_temporary name) (λ temporary.
    let whole = (ends_is Decides-eqb name (codes ".tmp") _ refl).0 temporary in
    let before = take (length name - 4) name in
    let apart : name ≡ (before ++ codes ".tm") ++ 112 ∷ [] =
    whole ∙ sym (append_assoc before (codes ".tm") (112 ∷ [])) in
    let one = end_rest name (last ∷ []) front is in
    let two = end_rest name (112 ∷ []) (before ++ codes ".tm") apart in
    other (cc (one, two)))

-- no digit is `p`
no_digit : (digits : List ℕ) → list_all (λ digit. not (eqb digit 112)) digits ≡ true → (i : ℕ) → get_or digits i 0 ≢ 112
no_digit [] none i is = omega (arith, is)
no_digit (digit ∷ digits) none zero is =
    let first = (and_parts (not (eqb digit 112)) (list_all (λ digit. not (eqb digit 112)) digits) none).0 in
    let same : not (eqb digit 112) ≡ false = rw is refl in
    cc (first, same)
no_digit (digit ∷ digits) none (suc i) is =
    no_digit digits (and_parts (not (eqb digit 112)) (list_all (λ digit. not (eqb digit 112)) digits) none).1 i is

-- the last digit of a block
last_digit : ℕ → ℕ
last_digit block = get_or lower_digits (byte_at 0 block % 16) 0

-- the digits before it
first_digits : ℕ → List ℕ
first_digits block =
    encode_with lower_digits (byte_at 3 block ∷ byte_at 2 block ∷ byte_at 1 block ∷ [])
    ++ get_or lower_digits (byte_at 0 block / 16) 0 ∷ []

digits_are : (block : ℕ) → digits_of block ≡ first_digits block ++ last_digit block ∷ []
unfolding encode_with first_digits last_digit
digits_are block = refl

last_is_no_p : (block : ℕ) → last_digit block ≢ 112
unfolding last_digit
last_is_no_p block = no_digit lower_digits refl (byte_at 0 block % 16)

pub blocks_are_objects : BlocksAreObjects
blocks_are_objects prefix block false =
    ends_otherwise (object_name_of prefix block false) (prefix ++ first_digits block) (last_digit block)
    (ap (λ (digits : List ℕ). prefix ++ digits) (digits_are block)
    ∙ sym (append_assoc prefix (first_digits block) (last_digit block ∷ []))) (last_is_no_p block)
blocks_are_objects prefix block true =
    let front = prefix ++ hash_of block ++ codes "-" in
    ends_otherwise (object_name_of prefix block true) (front ++ first_digits block) (last_digit block)
    (ap (λ (digits : List ℕ). front ++ digits) (digits_are block)
    ∙ sym (append_assoc front (first_digits block) (last_digit block ∷ []))) (last_is_no_p block)

pub token_is_object : TokenIsObject
token_is_object prefix =
    ends_otherwise (token_name_of prefix) (prefix ++ codes "s3backer-mounte") 100
    (sym (append_assoc prefix (codes "s3backer-mounte") (100 ∷ []))) (λ same. omega (arith, same))
