-- Each request has one signature at a moment.
use Rattle.std.specs.Prelude.{ℕ, ◌≡◌, List, ℤ}
use Rattle.sb_sign.specs.declared.request.Request.{Request}
use Rattle.sb_sign.specs.declared.signer.Authorization.{Authorization}
use Rattle.sb_sign.specs.Credentials.{Credentials}
use Rattle.sb_sign.specs.Signatures.{IsAuthorized}

-- two signatures of one request at one moment are the same
abbrev pub SignaturesAgree : Type 0
SignaturesAgree =
    (credentials : Credentials) (request : Request) (moment : ℤ) (one other : Authorization)
    → IsAuthorized credentials request moment one → IsAuthorized credentials request moment other
    → (one.date ≡ other.date) × (one.header ≡ other.header)
