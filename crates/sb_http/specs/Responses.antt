-- Responses, as a function of the bytes that came.
use Rattle.std.specs.Prelude.{ℕ, ◌≡◌, ◌≤◌, ◌&&◌, ◌⊎◌, nat_le, nat_lt, if◌then◌else◌, Bool, false, List, [], ◌∷◌, ◌++◌}
use Rattle.std.specs.Prelude.{length, map, All, Option, Result, Ok, Err}
use Rattle.httparse.specs.Grammar.{ResponseHead, print_response, status_code}
use Rattle.httparse.specs.Spans.{name_and_value}
use Rattle.sb_sign.specs.declared.request.Pair.{Pair}
use Rattle.sb_world.specs.Told.{Gains}
use Rattle.sb_world.specs.declared.wire.Connection.{Connection}
use Rattle.sb_http.specs.declared.framing.Framing.{Framing}
use Rattle.sb_http.specs.declared.fault.HttpFault.{HttpFault}
use Rattle.sb_http.specs.declared.fault.HttpFault.TheVariants.{WireFault}
use Rattle.sb_http.specs.declared.response.Response.{Response}
use Rattle.sb_http.specs.Bodies.{IsBody}
use Rattle.sb_http.specs.Fields.{pair_of, IsFraming}
use Rattle.sb_http.specs.Heads.{EndsHeads, IsHead, IsInterim, is_interim, most_interim, print_heads}
use Rattle.sb_http.specs.Takings.{Takes}

-- the most bytes of a body at a status
abbrev pub bound_of : ℕ → ℕ → ℕ
bound_of status limit = if nat_le 200 status && nat_lt status 300 then limit else 65536

-- the fields of a head as they are kept
abbrev pub pairs_of : ResponseHead → List Pair
pairs_of h = map pair_of (map name_and_value h.fields)

-- the head that counts, behind those of interim responses
pub record AreHeads (passed : List ResponseHead) (h : ResponseHead) : Type 0 where
  pub interim : All IsInterim passed
  pub few : length passed ≤ most_interim
  pub head : IsHead h
  pub final : is_interim (status_code h) ≡ false

-- the bytes of these heads
abbrev pub print_all : List ResponseHead → ResponseHead → List ℕ
print_all passed h = print_heads passed ++ print_response h

-- how the body behind a head is read: the bytes taken of it, what it carried, and what is left
pub record HasBody (bodiless : Bool) (limit : ℕ) (h : ResponseHead) (taken content left : List ℕ) (ended : Bool)
    (result : Result ℕ HttpFault) : Type 0 where
  pub framing : Framing
  pub framed : IsFraming bodiless (status_code h) (pairs_of h) (Ok framing)
  pub body : IsBody framing (bound_of (status_code h) limit) taken content left ended result

-- the reading ended in the heads
pub record StopsInHeads (taken content left : List ℕ) (ended : Bool) (fault : HttpFault) : Type 0 where
  pub passed : List ResponseHead
  pub front : List ℕ
  pub interim : All IsInterim passed
  pub ends : EndsHeads (length passed) front left ended fault
  pub bytes : taken ≡ print_heads passed ++ front
  pub none : content ≡ []

-- the head declares a length that is refused
pub record StopsAtLength (bodiless : Bool) (taken content : List ℕ) (ended : Bool) (fault : HttpFault) : Type 0 where
  pub passed : List ResponseHead
  pub h : ResponseHead
  pub heads : AreHeads passed h
  pub framed : IsFraming bodiless (status_code h) (pairs_of h) (Err fault)
  pub bytes : taken ≡ print_all passed h
  pub none : content ≡ []
  pub early : ended ≡ false

-- the reading ended in the body
pub record StopsInBody (bodiless : Bool) (limit : ℕ) (taken content left : List ℕ) (ended : Bool)
    (fault : HttpFault) : Type 0 where
  pub passed : List ResponseHead
  pub h : ResponseHead
  pub bytes_of_body : List ℕ
  pub heads : AreHeads passed h
  pub body : HasBody bodiless limit h bytes_of_body content left ended (Err fault)
  pub bytes : taken ≡ print_all passed h ++ bytes_of_body

-- these bytes are a response, whose body carried this
pub record IsResponse (bodiless : Bool) (limit : ℕ) (taken content left : List ℕ) (ended : Bool)
    (response : Response) : Type 0 where
  pub passed : List ResponseHead
  pub h : ResponseHead
  pub bytes_of_body : List ℕ
  pub heads : AreHeads passed h
  pub status : response.status ≡ status_code h
  pub fields : response.headers.items ≡ pairs_of h
  pub body : HasBody bodiless limit h bytes_of_body content left ended (Ok response.length)
  pub bytes : taken ≡ print_all passed h ++ bytes_of_body

-- what is answered to the bytes that were taken, with these left, at the input's end or before it
abbrev pub IsAnswer : Bool → ℕ → List ℕ → List ℕ → List ℕ → Bool → Result Response HttpFault → Type 0
IsAnswer bodiless limit taken content left ended
    (Ok response) = IsResponse bodiless limit taken content left ended response
IsAnswer bodiless limit taken content left ended (Err fault) =
    StopsInHeads taken content left ended fault
    ⊎ (StopsAtLength bodiless taken content ended fault ⊎ StopsInBody bodiless limit taken content left ended fault)

-- a response was taken, its body behind the old bytes of a vector, or the reading ended
pub record ReadsResponse (bodiless : Bool) (limit : ℕ) (before now : Option (List Connection))
    (ahead old new : List ℕ) (result : Result Response HttpFault) : Type 0 where
  pub taken : List ℕ
  pub content : List ℕ
  pub left : List ℕ
  pub ended : Bool
  pub takes : Takes before now ahead left taken ended
  pub room : new ≡ old ++ content
  pub answer : IsAnswer bodiless limit taken content left ended result

-- a connection on which these bytes were sent and received
abbrev pub connection : List ℕ → List ℕ → Bool → Connection
connection sent received ended = record { sent = sent; received = received; ended = ended }

-- a connection was begun and these bytes sent; after a fault none was begun, or a front of the bytes was sent
abbrev pub SendsRequest : {E : Type 0} → Option (List Connection) → Option (List Connection) → List ℕ
    → Result Unit E → Type 0
SendsRequest before now bytes (Ok done) = Gains before now (connection bytes [] false ∷ [])
SendsRequest before now bytes (Err fault) =
    Gains before now []
    ⊎ ((front behind : List ℕ) × (bytes ≡ front ++ behind) × Gains before now (connection front [] false ∷ []))

-- the wire failed before the request was sent whole
pub record IsUnsent (before now : Option (List Connection)) (request old new : List ℕ)
    (result : Result Response HttpFault) : Type 0 where
  pub failed : result ≡ Err WireFault
  pub sent : SendsRequest {E = HttpFault} before now request (Err WireFault)
  pub room : new ≡ old

-- the request was sent, and these bytes received, to which this is the answer
pub record IsAnswered (bodiless : Bool) (limit : ℕ) (before now : Option (List Connection))
    (request old new : List ℕ) (result : Result Response HttpFault) : Type 0 where
  pub received : List ℕ
  pub ended : Bool
  pub connected : Gains before now (connection request received ended ∷ [])
  pub taken : List ℕ
  pub content : List ℕ
  pub left : List ℕ
  pub parts : received ≡ taken ++ left
  pub room : new ≡ old ++ content
  pub answer : IsAnswer bodiless limit taken content left ended result

-- what an exchange does
abbrev pub Exchanges : Bool → ℕ → Option (List Connection) → Option (List Connection) → List ℕ → List ℕ → List ℕ
    → Result Response HttpFault → Type 0
Exchanges bodiless limit before now request old new result =
    IsUnsent before now request old new result ⊎ IsAnswered bodiless limit before now request old new result
