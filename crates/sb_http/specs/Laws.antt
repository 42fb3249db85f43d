-- Two answers to the same bytes.
use Rattle.std.specs.Prelude.{ℕ, ◌≡◌, Bool, true, List, [], ◌∷◌, ◌++◌, Option, Some, Result, Ok, Err}
use Rattle.sb_world.specs.declared.wire.Connection.{Connection}
use Rattle.sb_http.specs.declared.fault.HttpFault.{HttpFault}
use Rattle.sb_http.specs.declared.fault.HttpFault.TheVariants.{WireFault, HeadCut, HeadTooLong, BadHead, TooManyHeaders}
use Rattle.sb_http.specs.declared.fault.HttpFault.TheVariants.{Memory}
use Rattle.sb_http.specs.declared.response.Response.{Response}
use Rattle.sb_http.specs.Responses.{Exchanges, IsAnswer}

-- an answer to a front of these bytes, or to all of them where the input ended, and what the body carried
pub record AnswersTo (bodiless : Bool) (limit : ℕ) (bytes content : List ℕ)
    (result : Result Response HttpFault) : Type 0 where
  pub taken : List ℕ
  pub left : List ℕ
  pub unseen : List ℕ
  pub ended : Bool
  pub parts : bytes ≡ taken ++ (left ++ unseen)
  pub whole : ended ≡ true → unseen ≡ []
  pub answer : IsAnswer bodiless limit taken content left ended result

-- a fault that the bytes decide: neither of the wire nor of memory
abbrev pub IsOfBytes : HttpFault → Type 0
IsOfBytes WireFault = ⊥
IsOfBytes Memory = ⊥
IsOfBytes fault = Unit {0}

-- the answer goes by the bytes
abbrev pub GoesByBytes : {T : Type 0} → Result T HttpFault → Type 0
GoesByBytes (Ok value) = Unit {0}
GoesByBytes (Err fault) = IsOfBytes fault

-- a fault of a head that isn't whole, or of one of too many lines
abbrev pub IsOfHead : HttpFault → Type 0
IsOfHead (HeadCut count) = Unit {0}
IsOfHead HeadTooLong = Unit {0}
IsOfHead BadHead = Unit {0}
IsOfHead TooManyHeaders = Unit {0}
IsOfHead fault = ⊥

-- the same fault with the same values; a head of too many lines may be told as any of the faults of a head
abbrev pub IsSameFault : HttpFault → HttpFault → Type 0
IsSameFault TooManyHeaders other = IsOfHead other
IsSameFault fault TooManyHeaders = IsOfHead fault
IsSameFault fault other = fault ≡ other

-- the same response, or the same fault
abbrev pub IsSame : Result Response HttpFault → Result Response HttpFault → Type 0
IsSame (Ok response) (Ok other) =
    (response.status ≡ other.status) × (response.headers.items ≡ other.headers.items)
    × (response.length ≡ other.length)
IsSame (Err fault) (Err other) = IsSameFault fault other
IsSame one other = ⊥

-- two answers to the same bytes are one, and so is what the body carried
abbrev pub AnswersAgree : Type 0
AnswersAgree =
    (bodiless : Bool) (limit : ℕ) (bytes content carried : List ℕ) (one other : Result Response HttpFault)
    → AnswersTo bodiless limit bytes content one → AnswersTo bodiless limit bytes carried other
    → GoesByBytes one → GoesByBytes other → IsSame one other × (content ≡ carried)

-- the newest connection that is told received a front of these bytes, all of them where it ended
pub record Receives (bytes : List ℕ) (told : Option (List Connection)) : Type 0 where
  pub newest : Connection
  pub older : List Connection
  pub unseen : List ℕ
  pub connected : told ≡ Some (newest ∷ older)
  pub parts : bytes ≡ newest.received ++ unseen
  pub whole : newest.ended ≡ true → unseen ≡ []

-- two exchanges over wires that tell the same bytes, in whatever pieces, have one answer, and leave the same room
abbrev pub ExchangesAgree : Type 0
ExchangesAgree =
    (bodiless : Bool) (limit : ℕ) (bytes old : List ℕ)
    (before now : Option (List Connection)) (request new : List ℕ) (one : Result Response HttpFault)
    (early late : Option (List Connection)) (question room : List ℕ) (other : Result Response HttpFault)
    → Exchanges bodiless limit before now request old new one
    → Exchanges bodiless limit early late question old room other → Receives bytes now → Receives bytes late
    → GoesByBytes one → GoesByBytes other → IsSame one other × (new ≡ room)
