-- The texts of a signature.
use Rattle.std.specs.Prelude.{ℕ, List, [], ◌∷◌, ◌++◌, codes, take}
use Rattle.hex.specs.Hex.{encode_lower}
use Rattle.sha2.specs.Sha256.{sha256}

-- the scope of a signature: its day and region, and the service
unfoldable pub scope_of : List ℕ → List ℕ → List ℕ
scope_of region date = take 8 date ++ codes "/" ++ region ++ codes "/s3/aws4_request"

-- the text that is signed: the method of signing, the date, the scope and the hash of the canonical request
unfoldable pub text_to_sign_of : List ℕ → List ℕ → List ℕ → List ℕ
text_to_sign_of date scope canonical =
    codes "AWS4-HMAC-SHA256" ++ 10 ∷ [] ++ date ++ 10 ∷ [] ++ scope ++ 10 ∷ [] ++ encode_lower (sha256 canonical)

-- the value of the authorization header, of its parts
abbrev pub header_text_of : List ℕ → List ℕ → List ℕ → List ℕ → List ℕ
header_text_of id scope names signature =
    codes "AWS4-HMAC-SHA256 Credential=" ++ id ++ codes "/" ++ scope ++ codes ", SignedHeaders=" ++ names
    ++ codes ", Signature=" ++ signature
