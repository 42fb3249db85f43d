-- What a link answers to what came back, by statuses of HTTP and its own (docs/FORMATS.md).
use Rattle.std.specs.Prelude.{ℕ, ◌≡◌, ◌==◌, ◌&&◌, ◌||◌, nat_le, nat_lt, bytes_eq, is_some, Bool, true, false, if◌then◌else◌}
use Rattle.std.specs.Prelude.{List, [], ◌∷◌, length, codes, Option, Some, None, Result, Ok, Err}
use Rattle.sb_world.specs.declared.link.Got.{Got}
use Rattle.sb_world.specs.declared.link.Got.TheVariants as got
use Rattle.sb_world.specs.declared.link.HeadText.{HeadText}
use Rattle.sb_world.specs.declared.link.LinkFault.{LinkFault}
use Rattle.sb_world.specs.declared.link.LinkFault.TheVariants as link
use Rattle.sb_sign.specs.declared.request.Pair.{Pair}
use Rattle.sb_http.specs.declared.fault.HttpFault.{HttpFault}
use Rattle.sb_http.specs.declared.fault.HttpFault.TheVariants as http
use Rattle.sb_http.specs.declared.response.Response.{Response}
use Rattle.sb_s3link.specs.declared.asking.AskFault.{AskFault}
use Rattle.sb_s3link.specs.declared.asking.AskFault.TheVariants as ask
use Rattle.sb_s3link.specs.declared.listing.ListingFault.{ListingFault}
use Rattle.sb_s3link.specs.declared.listing.ListingFault.TheVariants as listing
use Rattle.sb_s3link.specs.Listings.{IsListing}

-- a status of success (RFC 9110, section 15.3)
abbrev pub is_success : ℕ → Bool
is_success status = nat_le 200 status && nat_lt status 300

-- the status that is told: the own ones begin at 600, and a greater one of a response is 602
abbrev pub told_status : ℕ → ℕ
told_status status = if nat_lt status 600 then status else 602

-- a failure with the status of a response
abbrev pub failed_with : ℕ → LinkFault
failed_with status = link.Failed (told_status status)

-- the fault of an exchange: 601 of the wire, 602 of the bytes that came
abbrev pub fault_of_http : HttpFault → LinkFault
fault_of_http http.WireFault = link.Failed 601
fault_of_http http.Memory = link.Memory
fault_of_http fault = link.Failed 602

-- the fault of a request: 604 of a moment without a date
abbrev pub fault_of_ask : AskFault → LinkFault
fault_of_ask ask.NoDate = link.Failed 604
fault_of_ask ask.Memory = link.Memory
fault_of_ask (ask.Http fault) = fault_of_http fault

-- the fault of an exchange for an object of so many bytes: 600 of one that is longer
abbrev pub fault_of_body : ℕ → HttpFault → LinkFault
fault_of_body size (http.TooLong limit) = if limit == size then link.Failed 600 else link.Failed 602
fault_of_body size fault = fault_of_http fault

-- the fault of a GET into so many bytes
abbrev pub fault_of_get : ℕ → AskFault → LinkFault
fault_of_get size (ask.Http fault) = fault_of_body size fault
fault_of_get size fault = fault_of_ask fault

-- an object of so many bytes for a buffer of so many: 600 of another length
abbrev pub got_bytes : ℕ → ℕ → Result Got LinkFault
got_bytes size count = if count == size then Ok got.Bytes else Err (link.Failed 600)

-- what a GET found without success: no object at 404, and at 304 the MD5 that was asked about, where one was
abbrev pub got_other : Option (List ℕ) → ℕ → Result Got LinkFault
got_other verify status =
    if status == 404 then Ok got.Absent
    else (if (status == 304) && is_some verify then Ok got.Same else Err (failed_with status))

-- the answer of a GET into so many bytes
abbrev pub get_answer : Option (List ℕ) → ℕ → Result Response AskFault → List ℕ → Result Got LinkFault
get_answer verify size (Ok response) content =
    if is_success response.status then got_bytes size (length content) else got_other verify response.status
get_answer verify size (Err fault) content = Err (fault_of_get size fault)

-- what is in the buffer of a GET afterwards: the object, or what was there
abbrev pub Fills : Result Got LinkFault → List ℕ → List ℕ → List ℕ → Type 0
Fills (Ok got.Bytes) content old new = new ≡ content
Fills answer content old new = new ≡ old

-- the answer of a GET, with what is in its buffer before and after
abbrev pub IsGetAnswer : Option (List ℕ) → List ℕ → List ℕ → Result Got LinkFault → Result Response AskFault → List ℕ
    → Type 0
IsGetAnswer verify old new result ending content =
    (result ≡ get_answer verify (length old) ending content) × Fills result content old new

-- the answer of a PUT
abbrev pub put_answer : Result Response AskFault → Result Unit LinkFault
put_answer (Ok response) = if is_success response.status then Ok tt else Err (failed_with response.status)
put_answer (Err fault) = Err (fault_of_ask fault)

abbrev pub IsPutAnswer : Result Unit LinkFault → Result Response AskFault → List ℕ → Type 0
IsPutAnswer result ending content = result ≡ put_answer ending

-- the answer of a DELETE: a missing object is deleted too
abbrev pub delete_answer : Result Response AskFault → Result Unit LinkFault
delete_answer (Ok response) =
    if is_success response.status || (response.status == 404) then Ok tt else Err (failed_with response.status)
delete_answer (Err fault) = Err (fault_of_ask fault)

abbrev pub IsDeleteAnswer : Result Unit LinkFault → Result Response AskFault → List ℕ → Type 0
IsDeleteAnswer result ending content = result ≡ delete_answer ending

-- the value of the first header of a name, if there is one
abbrev pub value_of : List ℕ → List Pair → Option (List ℕ)
value_of name [] = None
value_of name (pair ∷ pairs) = if bytes_eq pair.name name then Some pair.value else value_of name pairs

-- the texts of the sizes that an object carries
pub record AreTexts (headers : List Pair) (texts : HeadText) : Type 0 where
  pub size : texts.size ≡ value_of (codes "x-amz-meta-s3backer-filesize") headers
  pub block_size : texts.block_size ≡ value_of (codes "x-amz-meta-s3backer-blocksize") headers

-- what a HEAD found; memory is wanted only for the texts
abbrev pub IsHeadFound : Response → Result (Option HeadText) LinkFault → Type 0
IsHeadFound response (Ok (Some texts)) = AreTexts response.headers.items texts
IsHeadFound response (Ok None) = ⊥
IsHeadFound response (Err fault) = fault ≡ link.Memory

-- what a HEAD found without success
abbrev pub head_other : ℕ → Result (Option HeadText) LinkFault
head_other status = if status == 404 then Ok None else Err (failed_with status)

-- the answer of a HEAD, by whether it was a success
abbrev pub IsHeadBy : Bool → Response → Result (Option HeadText) LinkFault → Type 0
IsHeadBy true response result = IsHeadFound response result
IsHeadBy false response result = result ≡ head_other response.status

-- the answer of a HEAD
abbrev pub IsHeadAnswer : Result (Option HeadText) LinkFault → Result Response AskFault → List ℕ → Type 0
IsHeadAnswer result (Ok response) content = IsHeadBy (is_success response.status) response result
IsHeadAnswer result (Err fault) content = result ≡ Err (fault_of_ask fault)

-- the answer of the reading of a listing: 603 of a text that is none
abbrev pub answer_of_listing : Result Bool ListingFault → Result Bool LinkFault
answer_of_listing (Ok more) = Ok more
answer_of_listing (Err listing.Memory) = Err link.Memory
answer_of_listing (Err fault) = Err (link.Failed 603)

-- what a listing answers to a text
pub record IsListed (content : List ℕ) (names : List (List ℕ)) (result : Result Bool LinkFault) : Type 0 where
  pub listed : Result Bool ListingFault
  pub reading : IsListing content names listed
  pub told : result ≡ answer_of_listing listed

-- the answer of a listing, by whether it was a success
abbrev pub IsListBy : Bool → ℕ → List ℕ → List (List ℕ) → Result Bool LinkFault → Type 0
IsListBy true status content names result = IsListed content names result
IsListBy false status content names result = result ≡ Err (failed_with status)

-- the answer of a listing, with the names of its page
abbrev pub IsListAnswer : List (List ℕ) → Result Bool LinkFault → Result Response AskFault → List ℕ → Type 0
IsListAnswer names result (Ok response) content =
    IsListBy (is_success response.status) response.status content names result
IsListAnswer names result (Err fault) content = result ≡ Err (fault_of_ask fault)
