-- The signed request of an operation.
use Rattle.std.specs.Prelude.{ℕ, ◌≡◌, List, ℤ}
use Rattle.sha2.specs.Sha256.{sha256}
use Rattle.sb_sign.specs.declared.request.Request.{Request}
use Rattle.sb_sign.specs.declared.signer.Authorization.{Authorization}
use Rattle.sb_sign.specs.Credentials.{Credentials}
use Rattle.sb_sign.specs.Signatures.{IsAuthorized}
use Rattle.sb_s3request.specs.declared.site.Site.{Site}
use Rattle.sb_s3request.specs.declared.operation.Operation.{Operation}
use Rattle.sb_s3request.specs.declared.parts.Parts.{Parts}
use Rattle.sb_s3request.specs.Heads.{head_of, signed_of, AreDigests}
use Rattle.sb_s3request.specs.Operations.{Asked, asked_of}
use Rattle.sb_s3request.specs.Sites.{host_of, path_of}

-- what is signed of a request
pub record IsSigned (site : Site) (asked : Asked) (request : Request) : Type 0 where
  pub method : request.method ≡ asked.method
  pub path : request.path ≡ path_of site asked.name
  pub query : request.query.items ≡ asked.query
  pub signed : request.signed.items ≡ signed_of (host_of site) asked
  pub payload : request.payload ≡ sha256 asked.body

-- these bytes are the head of a request to a bucket, signed at a moment
pub record IsRequest (site : Site) (credentials : Credentials) (asked : Asked) (moment : ℤ)
    (head : List ℕ) : Type 0 where
  pub request : Request
  pub authorization : Authorization
  pub asks : IsSigned site asked request
  pub signed : IsAuthorized credentials request moment authorization
  pub bytes : head ≡ head_of (host_of site) (path_of site asked.name) asked authorization

-- these are the parts of the head of an operation
pub record AreParts (site : Site) (operation : Operation) (parts : Parts) : Type 0 where
  pub host : parts.host ≡ host_of site
  pub digests : AreDigests operation.method operation.body.now parts.digests
  pub request : IsSigned site (asked_of operation) parts.request
