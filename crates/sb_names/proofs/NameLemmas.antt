-- Facts on the names of objects.
use Rattle.std.proofs.Common.{◌≡◌, ℕ, zero, suc, ◌+◌, ◌-◌, ◌<◌, ◌^◌, Bool, true, false, List, [], ◌++◌, length, take}
use Rattle.std.proofs.Common.{drop, Some, Ok, refl, subst, sym, ap, ◌∙◌, arith, append_assoc, length-append}
use Rattle.std.proofs.Common.{length-take, codes}
use Rattle.std.specs.Prelude.{◌↔◌, Option, Result, Err, MatchResult}
use Rattle.std.specs.Int.{w32, to_be_bytes, from_be_bytes}
use Rattle.std.specs.Result.{is_err}
use Rattle.std.proofs.lemmas.List.Prefix.{end_rest}
use Rattle.std.proofs.lemmas.List.{append_cancel_left, take_at, drop_at, take-append-drop, drop-drop}
use Rattle.std.proofs.lemmas.Nat.{from_be_bytes-to_be_bytes_4}
use Rattle.hex.specs.declared.error.FromHexError.{FromHexError}
use Rattle.hex.specs.Hex.{IsBytes, decode_sized, encode_lower, lower_digits}
use Rattle.hex.proofs.HexLemmas.{decode_sized-encode_lower, length-encode_with}
use Rattle.md5.specs.Md5.{md5}
use Rattle.md5.proofs.StandardFacts.{length-md5}
use Rattle.sb_names.specs.Names.{digits_of, hash_of, object_name_of, IsNameOf, NamesDiffer, TokenIsNoBlock}

-- the four bytes of a number are bytes
pub IsBytes-to_be_bytes : (block : ℕ) → IsBytes (to_be_bytes w32 block)
IsBytes-to_be_bytes block zero = omega arith
IsBytes-to_be_bytes block (suc zero) = omega arith
IsBytes-to_be_bytes block (suc (suc zero)) = omega arith
IsBytes-to_be_bytes block (suc (suc (suc zero))) = omega arith
IsBytes-to_be_bytes block (suc (suc (suc (suc i)))) = omega arith

-- there are eight digits
pub length-digits_of : (block : ℕ) → length (digits_of block) ≡ 8
length-digits_of block = length-encode_with lower_digits (to_be_bytes w32 block)

-- and eight digits of a hash
pub length-hash_of : (block : ℕ) → length (hash_of block) ≡ 8
length-hash_of block =
    let whole = length-encode_with lower_digits (md5 (digits_of block)) in
    let sixteen = length-md5 (digits_of block) in
    let front = length-take 8 (encode_lower (md5 (digits_of block))) in
    omega (arith, whole, sixteen, front)

-- a block's digits read as its bytes
pub decode_sized-digits_of : (block : ℕ) → decode_sized (digits_of block) 4 ≡ Ok (to_be_bytes w32 block)
decode_sized-digits_of block = decode_sized-encode_lower (to_be_bytes w32 block) 4 refl (IsBytes-to_be_bytes block)

-- no two blocks have the same digits
pub digits_differ : (block other : ℕ) → block < 2 ^ 32 → other < 2 ^ 32 → digits_of block ≡ digits_of other
    → block ≡ other
digits_differ block other h k e =
    let same : Ok (to_be_bytes w32 block) ≡ Ok (to_be_bytes w32 other) =
    sym (decode_sized-digits_of block) ∙ ap (λ (text : List ℕ). decode_sized text 4) e ∙ decode_sized-digits_of other in
    let bytes : to_be_bytes w32 block ≡ to_be_bytes w32 other = cc in
    sym (from_be_bytes-to_be_bytes_4 block h) ∙ ap (λ (b : List ℕ). from_be_bytes w32 b) bytes
    ∙ from_be_bytes-to_be_bytes_4 other k

-- a name ends with its block's digits
pub last_digits : (prefix : List ℕ) (hashed : Bool) (block : ℕ) (name : List ℕ)
    → name ≡ object_name_of prefix block hashed
    → drop (length name - 8) name ≡ digits_of block
last_digits prefix false block name e =
    let len = length-digits_of block in
    rw len at (end_rest name (digits_of block) prefix e)
last_digits prefix true block name e =
    let len = length-digits_of block in
    rw len at (end_rest name (digits_of block) (prefix ++ hash_of block ++ codes "-") e)

pub names_differ : NamesDiffer
names_differ prefix hashed name block other h k =
    digits_differ block other h.number k.number
    (sym (last_digits prefix hashed block name h.text) ∙ last_digits prefix hashed other name k.text)

-- the length of a name behind its prefix
pub length-object_name_of : (prefix : List ℕ) (hashed : Bool) (block : ℕ)
    → length (object_name_of prefix block hashed) ≡ (length prefix +
    (elim hashed as (λ _. ℕ) [ true ↦ 17 | false ↦ 8 ]))
length-object_name_of prefix false block =
    let d = length-digits_of block in
    let a = length-append prefix (digits_of block) in
    omega (arith, d, a)
length-object_name_of prefix true block =
    let d = length-digits_of block in
    let h = length-hash_of block in
    simp length-append (omega (arith, d, h))

pub token_is_no_block : TokenIsNoBlock
token_is_no_block prefix false block e =
    let n = length-object_name_of prefix false block in
    let t = length-append prefix (codes "s3backer-mounted") in
    let s = ap length e in
    omega (arith, n, t, s)
token_is_no_block prefix true block e =
    let n = length-object_name_of prefix true block in
    let t = length-append prefix (codes "s3backer-mounted") in
    let s = ap length e in
    omega (arith, n, t, s)

-- ---- reading digits

-- the text of a block's name without a prefix decodes, to the bytes of that block
pub digits_read : (text out : List ℕ) (r : Result Unit FromHexError)
    → MatchResult (decode_sized text 4) (λ bytes. (r ≡ Ok tt) × (out ≡ bytes)) (λ e. r ≡ Err e)
    → (block : ℕ) → IsNameOf [] false text block → (is_err r ≡ false) × (from_be_bytes w32 out ≡ block)
digits_read text out r m block h =
    let whole : text ≡ digits_of block = h.text in
    let read : decode_sized text 4 ≡ Ok (to_be_bytes w32 block) =
    ap (λ (t : List ℕ). decode_sized t 4) whole ∙ decode_sized-digits_of block in
    let P : Result (List ℕ) FromHexError → Type 0 =
    λ d. MatchResult d (λ bytes. (r ≡ Ok tt) × (out ≡ bytes)) (λ e. r ≡ Err e) in
    let both : (r ≡ Ok tt) × (out ≡ to_be_bytes w32 block) = subst P read m in (
      ap is_err both.0,
      ap (λ (b : List ℕ). from_be_bytes w32 b) both.1 ∙ from_be_bytes-to_be_bytes_4 block h.number,
    )

-- ---- reading hashed names

-- what a hashed name without a prefix is made of
pub hashed_parts : (text : List ℕ) (block : ℕ) → IsNameOf [] true text block
    → (take 8 text ≡ hash_of block) × (drop 8 text ≡ codes "-" ++ digits_of block)
hashed_parts text block h =
    let len = length-hash_of block in
    let whole : text ≡ hash_of block ++ (codes "-" ++ digits_of block) = h.text
    ∙ append_assoc (hash_of block) (codes "-") (digits_of block) in (
      ap (λ (t : List ℕ). take 8 t) whole ∙ take_at (hash_of block) (codes "-" ++ digits_of block) 8 len,
      ap (λ (t : List ℕ). drop 8 t) whole ∙ drop_at (hash_of block) (codes "-" ++ digits_of block) 8 len,
    )

-- a text of fewer bytes than a hash is no hashed name
pub no_room : (text : List ℕ) (block : ℕ) → length text < 8 → IsNameOf [] true text block → ⊥
no_room text block short h =
    let n = length-object_name_of [] true block in
    let s = ap length h.text in
    omega (arith, n, s)

-- a text without a dash behind eight bytes is no hashed name
pub no_dash : (text behind : List ℕ) (block : ℕ) → behind ≡ drop 8 text
    → ((rest : List ℕ) → behind ≡ codes "-" ++ rest → ⊥)
    → IsNameOf [] true text block → ⊥
no_dash text behind block split never h = never (digits_of block) (split ∙ (hashed_parts text block h).1)

-- the digits of a hashed name
pub digits_of_hashed : (text behind digits : List ℕ) (block : ℕ) → behind ≡ drop 8 text → behind ≡ codes "-" ++ digits
    → IsNameOf [] true text block → IsNameOf [] false digits block
digits_of_hashed text behind digits block split dash h = record {
  number = h.number;
  text = append_cancel_left (codes "-") digits (digits_of block) (sym dash ∙ split ∙ (hashed_parts text block h).1);
}

-- a hash, a dash and digits are a hashed name
pub hashed_from_parts : (text front behind digits : List ℕ) (block : ℕ) → front ≡ take 8 text → behind ≡ drop 8 text
    → behind ≡ codes "-" ++ digits → front ≡ hash_of block → IsNameOf [] false digits block
    → IsNameOf [] true text block
hashed_from_parts text front behind digits block fs bs dash hash h =
    let whole : text ≡ hash_of block ++ (codes "-" ++ digits_of block) =
    sym (take-append-drop 8 text) ∙ ap (λ (x : List ℕ). x ++ drop 8 text) (sym fs ∙ hash)
    ∙ ap (λ (y : List ℕ). hash_of block ++ y) (sym bs ∙ dash ∙ ap (λ (d : List ℕ). codes "-" ++ d) h.text) in record {
      number = h.number;
      text = whole ∙ sym (append_assoc (hash_of block) (codes "-") (digits_of block));
    }

-- ---- reading behind a prefix

-- a name is its prefix and the name without one
pub object_name_of-prefix : (prefix : List ℕ) (hashed : Bool) (block : ℕ)
    → object_name_of prefix block hashed ≡ prefix ++ object_name_of [] block hashed
object_name_of-prefix prefix false block = refl
object_name_of-prefix prefix true block = simp append_assoc

-- a text that doesn't begin with the prefix is no name
pub no_prefix : (prefix : List ℕ) (hashed : Bool) (name : List ℕ) → ((rest : List ℕ) → name ≡ prefix ++ rest → ⊥)
    → (block : ℕ) → IsNameOf prefix hashed name block → ⊥
no_prefix prefix hashed name never block h =
    never (object_name_of [] block hashed) (h.text ∙ object_name_of-prefix prefix hashed block)

-- a name is read behind its prefix
pub read_behind : (prefix : List ℕ) (hashed form : Bool) (name rest : List ℕ) (r : Option ℕ) → hashed ≡ form
    → name ≡ prefix ++ rest → ((block : ℕ) → (r ≡ Some block) ↔ IsNameOf [] form rest block) → (block : ℕ)
    → (r ≡ Some block) ↔ IsNameOf prefix hashed name block
read_behind prefix hashed form name rest r same whole read block =
    let e = object_name_of-prefix prefix form block in
    let at_form : IsNameOf prefix form name block ↔ IsNameOf [] form rest block = (
      λ h. record {
        number = h.number;
        text = append_cancel_left prefix rest (object_name_of [] block form) (sym whole ∙ h.text ∙ e);
      },
      λ h. record { number = h.number; text = whole ∙ ap (λ (t : List ℕ). prefix ++ t) h.text ∙ sym e },
    ) in
    let P : Bool → Type 0 = λ f. (r ≡ Some block) ↔ IsNameOf prefix f name block in
    subst P (sym same) (λ s. at_form.1 ((read block).0 s), λ h. (read block).1 (at_form.0 h))

-- the digits of the block that was read are its name
pub digits_are_name : (text : List ℕ) (read block : ℕ) → text ≡ digits_of read → read < 2 ^ 32
    → ◌≡◌ {A = Option ℕ} (Some read) (Some block) → IsNameOf [] false text block
digits_are_name text read block same small e =
    let eq : read ≡ block = cc in
    record { number = omega arith; text = same ∙ ap digits_of eq }

-- ---- placing names

-- one more piece of a name that stands at the front of `out`
pub placed_more : (old out new name piece : List ℕ) (at end : ℕ) → out ≡ name ++ drop at old → at ≡ length name
    → new ≡ take at out ++ piece ++ drop end out → end ≡ at + length piece
    → (new ≡ (name ++ piece) ++ drop end old) × (end ≡ length (name ++ piece))
placed_more old out new name piece at end before len put ends =
    let front : take at out ≡ name = ap (λ (o : List ℕ). take at o) before ∙ take_at name (drop at old) at (sym len) in
    let behind : drop at out ≡ drop at old = ap (λ (o : List ℕ). drop at o) before
    ∙ drop_at name (drop at old) at (sym len) in
    let rest : drop end out ≡ drop end old =
    rw ends (sym (drop-drop (length piece) at out) ∙ ap (λ (o : List ℕ). drop (length piece) o) behind
    ∙ drop-drop (length piece) at old) in (
      put ∙ ap (λ (o : List ℕ). o ++ piece ++ drop end out) front ∙ ap (λ (o : List ℕ). name ++ piece ++ o) rest,
      ends ∙ ap (λ (n : ℕ). n + length piece) len ∙ sym (length-append name piece),
    )
