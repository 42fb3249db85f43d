-- Each operation has one request at a moment.
use Rattle.std.specs.Prelude.{ℕ, ◌≡◌, List, ℤ}
use Rattle.sb_sign.specs.Credentials.{Credentials}
use Rattle.sb_s3request.specs.declared.site.Site.{Site}
use Rattle.sb_s3request.specs.Operations.{Asked}
use Rattle.sb_s3request.specs.Requests.{IsRequest}

-- two heads of one operation, signed at one moment, are the same bytes
abbrev pub HeadsAgree : Type 0
HeadsAgree =
    (site : Site) (credentials : Credentials) (asked : Asked) (moment : ℤ) (one other : List ℕ)
    → IsRequest site credentials asked moment one → IsRequest site credentials asked moment other → one ≡ other
