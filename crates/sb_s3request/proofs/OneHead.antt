-- An operation has one head at a moment.
use Rattle.std.proofs.Common.{◌≡◌, ℕ, List, ℤ, refl, sym, ap, ◌∙◌}
use Rattle.sb_sign.specs.declared.request.Request.{Request}
use Rattle.sb_sign.specs.declared.signer.Authorization.{Authorization}
use Rattle.sb_sign.specs.Credentials.{Credentials}
use Rattle.sb_sign.specs.Requests.{canonical_request_of}
use Rattle.sb_sign.specs.Signatures.{authorization_of, authorization_under}
use Rattle.sb_sign.proofs.OneDate.{dates_agree}
use Rattle.sb_s3request.specs.declared.site.Site.{Site}
use Rattle.sb_s3request.specs.Heads.{head_of, header_lines}
use Rattle.sb_s3request.specs.Operations.{Asked}
use Rattle.sb_s3request.specs.Requests.{IsRequest, IsSigned}
use Rattle.sb_s3request.specs.Sites.{host_of, path_of}

-- a head is that of the authorization's date and header
same_head : (host path : List ℕ) (asked : Asked) (a b : Authorization) → a.header ≡ b.header → a.date ≡ b.date
    → head_of host path asked a ≡ head_of host path asked b
unfolding head_of header_lines
same_head host path asked a b header date = rw (header, date) refl

-- what is signed of two requests for one operation is the same
same_authorization : (site : Site) (asked : Asked) (credentials : Credentials) (a b : Request) (date : List ℕ)
    → IsSigned site asked a → IsSigned site asked b
    → authorization_of credentials a date ≡ authorization_of credentials b date
unfolding authorization_under canonical_request_of
same_authorization site asked credentials a b date is also =
    rw (
      is.method ∙ sym also.method,
      is.path ∙ sym also.path,
      is.query ∙ sym also.query,
      is.signed ∙ sym also.signed,
      is.payload ∙ sym also.payload,
    ) refl

pub heads_agree : (site : Site) (credentials : Credentials) (asked : Asked) (moment : ℤ) (one other : List ℕ)
    → IsRequest site credentials asked moment one → IsRequest site credentials asked moment other → one ≡ other
heads_agree site credentials asked moment one other is also =
    let date = dates_agree moment is.authorization.date also.authorization.date is.signed.date also.signed.date in
    let header : is.authorization.header ≡ also.authorization.header =
    is.signed.header
    ∙ same_authorization site asked credentials is.request also.request is.authorization.date is.asks also.asks
    ∙ ap (λ (d : List ℕ). authorization_of credentials also.request d) date ∙ sym also.signed.header in
    is.bytes
    ∙ same_head (host_of site) (path_of site asked.name) asked is.authorization also.authorization header date
    ∙ sym also.bytes
