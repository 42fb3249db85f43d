-- AWS Signature Version 4 in the Authorization header, for the service s3.
use Rattle.std.specs.Prelude.{◌≡◌, ℕ, List, ◌++◌, codes, take, ℤ}
use Rattle.hex.specs.Hex.{encode_lower}
use Rattle.sb_sign.specs.declared.request.Pair.{Pair}
use Rattle.sb_sign.specs.declared.request.Request.{Request}
use Rattle.sb_sign.specs.declared.signer.Authorization.{Authorization}
use Rattle.sb_sign.specs.Credentials.{Credentials}
use Rattle.sb_sign.specs.Date.{IsDateOf}
use Rattle.sb_sign.specs.Hmac.{hmac_of}
use Rattle.sb_sign.specs.Requests.{canonical_request_of, names_of, signed_headers_of}
use Rattle.sb_sign.specs.SignatureTexts.{header_text_of, scope_of, text_to_sign_of}

-- the key that signs: an HMAC of the day, under it one of the region, then of the service and the end of the scope
unfoldable pub signing_key_of : Credentials → List ℕ → List ℕ
signing_key_of credentials date =
    hmac_of
    (hmac_of (hmac_of (hmac_of (codes "AWS4" ++ credentials.secret) (take 8 date)) credentials.region) (codes "s3"))
    (codes "aws4_request")

-- the value of the authorization header, given the signed headers
unfoldable pub authorization_under : Credentials → Request → List ℕ → List Pair → List ℕ
authorization_under credentials request date headers =
    let scope = scope_of credentials.region date in
    let signed = text_to_sign_of date scope (canonical_request_of request headers) in
    header_text_of credentials.id scope (names_of headers)
    (encode_lower (hmac_of (signing_key_of credentials date) signed))

-- the value of the authorization header of a request at a date
abbrev pub authorization_of : Credentials → Request → List ℕ → List ℕ
authorization_of credentials request date =
    authorization_under credentials request date (signed_headers_of request.signed.items request.payload date)

-- a request is signed at a moment
pub record IsAuthorized (credentials : Credentials) (request : Request) (moment : ℤ)
    (signed : Authorization) : Type 0 where
  pub date : IsDateOf moment signed.date
  pub header : signed.header ≡ authorization_of credentials request signed.date
