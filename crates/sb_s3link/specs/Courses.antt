-- What a call of a link does.
use Rattle.std.specs.Prelude.{ℕ, ◌≡◌, ◌↔◌, List, [], ◌∷◌, ◌++◌, Option, Result, Ok, Err, ℤ}
use Rattle.sb_world.specs.Told.{Gains}
use Rattle.sb_world.specs.declared.link.Call.{Call}
use Rattle.sb_world.specs.declared.wire.Connection.{Connection}
use Rattle.sb_sign.specs.Credentials.{Credentials}
use Rattle.sb_sign.specs.Date.{HasNoDate}
use Rattle.sb_http.specs.declared.response.Response.{Response}
use Rattle.sb_http.specs.Responses.{Exchanges}
use Rattle.sb_s3request.specs.declared.site.Site.{Site}
use Rattle.sb_s3request.specs.Operations.{Asked, is_head}
use Rattle.sb_s3request.specs.Requests.{IsRequest}
use Rattle.sb_s3link.specs.declared.asking.AskFault.{AskFault}
use Rattle.sb_s3link.specs.declared.asking.AskFault.TheVariants as ask
use Rattle.sb_s3link.specs.declared.link.S3Link.{S3Link}

-- where a bucket is, and what signs the requests for it
pub record Bucket : Type 0 where
  pub site : Site
  pub credentials : Credentials

-- what a clock and a wire have told: moments and connections, the newest first
pub record Told : Type 0 where
  pub moments : Option (List ℤ)
  pub connections : Option (List Connection)

abbrev pub told : Option (List ℤ) → Option (List Connection) → Told
told moments connections = record { moments = moments; connections = connections }

-- the bucket of a link
abbrev pub bucket_of : {W C : Type 0} → S3Link W C → Bucket
bucket_of link = record { site = link.site; credentials = link.signer }

-- the wire of a link
abbrev pub wire_of : {W C : Type 0} → S3Link W C → W
wire_of link = link.wire

-- the clock of a link
abbrev pub clock_of : {W C : Type 0} → S3Link W C → C
clock_of link = link.clock

-- the calls of a link, the newest first
abbrev pub log_of : {W C : Type 0} → S3Link W C → List Call
log_of link = link.log

-- how often a link has failed
abbrev pub faults_of : {W C : Type 0} → S3Link W C → ℕ
faults_of link = link.faults

-- an exchange of these bytes, whose response's body is this
abbrev pub Sends : Asked → ℕ → Option (List Connection) → Option (List Connection) → List ℕ → List ℕ
    → Result Response AskFault → Type 0
Sends asked limit before now head content (Ok response) =
    Exchanges (is_head asked.method) limit before now (head ++ asked.body) [] content (Ok response)
Sends asked limit before now head content (Err (ask.Http fault)) =
    Exchanges (is_head asked.method) limit before now (head ++ asked.body) [] content (Err fault)
Sends asked limit before now head content (Err fault) = ⊥

-- the request was made, and sent in one exchange
pub record IsSent (bucket : Bucket) (asked : Asked) (limit : ℕ) (moment : ℤ) (before now : Option (List Connection))
    (content : List ℕ) (ending : Result Response AskFault) : Type 0 where
  pub head : List ℕ
  pub made : IsRequest bucket.site bucket.credentials asked moment head
  pub sent : Sends asked limit before now head content ending

-- no connection was begun, and nothing came
pub record IsUnsent (before now : Option (List Connection)) (content : List ℕ) : Type 0 where
  pub connected : Gains before now []
  pub none : content ≡ []

-- how a request at a moment ended: unsent, for want of a date or of memory, or sent
abbrev pub Ends : Bucket → Asked → ℕ → ℤ → Option (List Connection) → Option (List Connection) → List ℕ
    → Result Response AskFault → Type 0
Ends bucket asked limit moment before now content (Err ask.NoDate) = IsUnsent before now content
Ends bucket asked limit moment before now content (Err ask.Memory) = IsUnsent before now content
Ends bucket asked limit moment before now content ending =
    IsSent bucket asked limit moment before now content ending

-- a bucket was asked once, at a moment that was taken for it
pub record Asks (bucket : Bucket) (asked : Asked) (limit : ℕ) (before now : Told) (content : List ℕ)
    (ending : Result Response AskFault) : Type 0 where
  pub moment : ℤ
  pub taken : Gains before.moments now.moments (moment ∷ [])
  pub dated : (ending ≡ Err ask.NoDate) ↔ HasNoDate moment
  pub ends : Ends bucket asked limit moment before.connections now.connections content ending

-- a bucket was asked once, and the answer goes by how that ended and by the body that came
pub record Runs (bucket : Bucket) (asked : Asked) (limit : ℕ) (before now : Told)
    (Answer : Result Response AskFault → List ℕ → Type 0) : Type 0 where
  pub ending : Result Response AskFault
  pub content : List ℕ
  pub asks : Asks bucket asked limit before now content ending
  pub answer : Answer ending content
