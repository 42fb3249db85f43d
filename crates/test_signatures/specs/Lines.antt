-- What is printed of a request and its signature.
use Rattle.std.specs.Prelude.{ℕ, List, [], ◌∷◌, ◌++◌, codes}
use Rattle.std.specs.List.{flat_map}
use Rattle.std.specs.Fmt.{signed_decimal}
use Rattle.sb_sign.specs.declared.request.Pair.{Pair}
use Rattle.sb_sign.specs.declared.request.Request.{Request}
use Rattle.sb_sign.specs.declared.signer.Authorization.{Authorization}
use Rattle.sb_sign.specs.Encoding.{encoded_path_of, encoded_query_of}
use Rattle.sb_sign.specs.Requests.{method_text}
use Rattle.test_signatures.specs.declared.cases.Case.{Case}

-- a line: a word, `: ` and a value
abbrev pub line_of : List ℕ → List ℕ → List ℕ
line_of word value = word ++ codes ": " ++ value ++ 10 ∷ []

-- the line of a pair: its value is the pair's name, `=` and the pair's value
abbrev pub pair_line : List ℕ → Pair → List ℕ
pair_line word pair = line_of word (pair.name ++ codes "=" ++ pair.value)

-- the lines of what signs a request
unfoldable pub credential_lines : Case → List ℕ
credential_lines case =
    line_of (codes "id") case.id ++ line_of (codes "secret") case.secret ++ line_of (codes "region") case.region
    ++ line_of (codes "moment") (signed_decimal case.moment)

-- the lines of a request before it is encoded
unfoldable pub request_lines : Request → List ℕ
request_lines request =
    line_of (codes "method") (method_text request.method)
    ++ line_of (codes "path") request.path
    ++ flat_map (pair_line (codes "query")) request.query.items
    ++ flat_map (pair_line (codes "header")) request.signed.items

-- the lines of the target that is sent
unfoldable pub target_lines : Request → List ℕ
target_lines request =
    line_of (codes "encoded path") (encoded_path_of request.path)
    ++ line_of (codes "encoded query") (encoded_query_of request.query.items)

-- all lines, and an empty one
unfoldable pub case_lines : Case → Authorization → List ℕ
case_lines case signed =
    credential_lines case ++ request_lines case.request ++ target_lines case.request
    ++ line_of (codes "body") case.body ++ line_of (codes "date") signed.date
    ++ line_of (codes "authorization") signed.header ++ 10 ∷ []
