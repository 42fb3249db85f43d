-- The canonical form of a request, which is what is signed.
use Rattle.std.specs.Prelude.{ℕ, List, [], ◌∷◌, ◌++◌, codes, map, fold, insert}
use Rattle.std.specs.List.{flat_map, join_with_byte, prefix_len}
use Rattle.std.specs.Ordering.{is_le, nat_cmp}
use Rattle.std.specs.Cmp.Lexicographic.{slice_cmp}
use Rattle.hex.specs.Hex.{encode_lower}
use Rattle.sb_sign.specs.declared.request.Method.{Method}
use Rattle.sb_sign.specs.declared.request.Method.TheVariants.{Get, Put, Head, Delete}
use Rattle.sb_sign.specs.declared.request.Pair.{Pair}
use Rattle.sb_sign.specs.declared.request.Request.{Request}
use Rattle.sb_sign.specs.Encoding.{encoded_path_of, encoded_query_of}

-- the word of a method
abbrev pub method_text : Method → List ℕ
method_text Get = codes "GET"
method_text Put = codes "PUT"
method_text Head = codes "HEAD"
method_text Delete = codes "DELETE"

-- how many headers at the front have names that aren't after this one, in byte order
abbrev pub place_of_name : List Pair → List ℕ → ℕ
place_of_name headers name = prefix_len (λ other. is_le (slice_cmp nat_cmp other.name name)) headers

-- headers in byte order of their names, with one more in its place
unfoldable pub with_header : List Pair → Pair → List Pair
with_header headers header = insert headers (place_of_name headers header.name) header

-- the signed headers: those of the request, the payload's hash and the date, in byte order of their names
unfoldable pub signed_headers_of : List Pair → List ℕ → List ℕ → List Pair
signed_headers_of signed payload date =
    with_header
    (with_header (fold with_header [] signed)
    (record { name = codes "x-amz-content-sha256"; value = encode_lower payload }))
    (record { name = codes "x-amz-date"; value = date })

-- the line of a header
abbrev pub header_line : Pair → List ℕ
header_line header = header.name ++ codes ":" ++ header.value ++ 10 ∷ []

-- the names of headers, with `;` between each two
unfoldable pub names_of : List Pair → List ℕ
names_of headers = join_with_byte 59 (map (λ header. header.name) headers)

-- the canonical request, given the signed headers
unfoldable pub canonical_request_of : Request → List Pair → List ℕ
canonical_request_of request headers =
    method_text request.method ++ 10 ∷ []
    ++ encoded_path_of request.path ++ 10 ∷ []
    ++ encoded_query_of request.query.items ++ 10 ∷ []
    ++ flat_map header_line headers ++ 10 ∷ []
    ++ names_of headers ++ 10 ∷ []
    ++ encode_lower request.payload
