-- How bytes are written in a request.
use Rattle.std.specs.Prelude.{ℕ, Bool, ◌||◌, ◌==◌, if◌then◌else◌, List, [], ◌∷◌, ◌++◌, map, codes}
use Rattle.std.specs.List.{flat_map, join_with_byte}
use Rattle.std.specs.Char.{is_ascii_alphanumeric}
use Rattle.base64.specs.Engines.{standard}
use Rattle.base64.specs.GeneralPurpose.{encode_of}
use Rattle.md5.specs.Md5.{md5}
use Rattle.percent_encoding.specs.Percent.{percent_encode_byte}
use Rattle.sb_sign.specs.declared.request.Pair.{Pair}

-- letters, digits, `-`, `.`, `_` and `~`, which are written as they are
abbrev pub is_unreserved : ℕ → Bool
is_unreserved b = is_ascii_alphanumeric b || (b == 45) || (b == 46) || (b == 95) || (b == 126)

-- a value: every other byte is `%` and two upper-case hex digits
unfoldable pub encoded_value_of : List ℕ → List ℕ
encoded_value_of bytes = flat_map (λ b. if is_unreserved b then b ∷ [] else percent_encode_byte b) bytes

-- a path, which also keeps each `/`
unfoldable pub encoded_path_of : List ℕ → List ℕ
encoded_path_of bytes =
    flat_map (λ b. if is_unreserved b || (b == 47) then b ∷ [] else percent_encode_byte b) bytes

-- one part of a query: name, `=` and value
abbrev pub encoded_pair_of : Pair → List ℕ
encoded_pair_of pair = encoded_value_of pair.name ++ codes "=" ++ encoded_value_of pair.value

-- a query: its parts in their order, with `&` between each two
unfoldable pub encoded_query_of : List Pair → List ℕ
encoded_query_of query = join_with_byte 38 (map encoded_pair_of query)

-- the base64 (RFC 4648) of the MD5 (RFC 1321) of a body
abbrev pub content_md5_of : List ℕ → List ℕ
content_md5_of body = encode_of standard (md5 body)
