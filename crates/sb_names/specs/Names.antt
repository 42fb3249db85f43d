-- The names of a disk's objects.
use Rattle.std.specs.Prelude.{◌≡◌, ◌≢◌, ℕ, ◌<◌, ◌^◌, Bool, true, false, List, ◌++◌, take, codes}
use Rattle.std.specs.Int.{w32, to_be_bytes}
use Rattle.hex.specs.Hex.{encode_lower}
use Rattle.md5.specs.Md5.{md5}

-- a block's number in eight lower-case hex digits
abbrev pub digits_of : ℕ → List ℕ
digits_of block = encode_lower (to_be_bytes w32 block)

-- the first eight lower-case hex digits of the MD5 (RFC 1321) of a block's digits
abbrev pub hash_of : ℕ → List ℕ
hash_of block = take 8 (encode_lower (md5 (digits_of block)))

-- the name of a block's object: a prefix, in the hashed form the hash and a dash, and the digits
abbrev pub object_name_of : List ℕ → ℕ → Bool → List ℕ
object_name_of prefix block false = prefix ++ digits_of block
object_name_of prefix block true = prefix ++ hash_of block ++ codes "-" ++ digits_of block

-- the name of the object that is there while a disk is mounted
abbrev pub token_name_of : List ℕ → List ℕ
token_name_of prefix = prefix ++ codes "s3backer-mounted"

-- a text is the name of a block's object
pub record IsNameOf (prefix : List ℕ) (hashed : Bool) (name : List ℕ) (block : ℕ) : Type 0 where
  pub number : block < 2 ^ 32
  pub text : name ≡ object_name_of prefix block hashed

-- no two blocks have the same name
abbrev pub NamesDiffer : Type 0
NamesDiffer = (prefix : List ℕ) (hashed : Bool) (name : List ℕ) (block other : ℕ)
    → IsNameOf prefix hashed name block → IsNameOf prefix hashed name other → block ≡ other

-- no block's object has the token's name
abbrev pub TokenIsNoBlock : Type 0
TokenIsNoBlock = (prefix : List ℕ) (hashed : Bool) (block : ℕ)
    → object_name_of prefix block hashed ≢ token_name_of prefix
