-- The requests of a session with what each did and its reply. Exchanges are newest first.
use Rattle.std.specs.Prelude.{ℕ, ◌≡◌, Bool, false, List, [], ◌∷◌, ◌++◌}
use Rattle.std.specs.List.{AllByRecursion}
use Rattle.sb_nbd.specs.Requests.{Request, IsRequest, request_bytes}
use Rattle.sb_nbd.specs.Replies.{reply_bytes}
use Rattle.sb_crew.specs.Bases.{Base}
use Rattle.sb_crew.specs.Scenes.{Deed, nothing, followed}
use Rattle.sb_crew.specs.Outcomes.{AsksOnly}
use Rattle.sb_session.specs.Goals.{is_disc, verdict}
use Rattle.sb_session.specs.Answers.{AnswersBy, parts_asked}

-- a request, what was done for it, and the error and the bytes of its reply
pub record Exchange : Type 0 where
  pub request : Request
  pub deed : Deed
  pub error : ℕ
  pub body : List ℕ

-- a request that isn't DISC, with the reply that it had to get
pub record IsAnswered (read_only : Bool) (base : Base) (x : Exchange) : Type 0 where
  pub request : IsRequest x.request
  pub goes_on : is_disc x.request.wanted ≡ false
  pub answer : AnswersBy (verdict read_only base.geometry x.request.wanted) base x.request x.error x.body x.deed
  pub asks : AsksOnly (parts_asked (verdict read_only base.geometry x.request.wanted) base.geometry x.request) x.deed.entries

-- the exchanges of a session
abbrev pub IsTranscript : Bool → Base → List Exchange → Type 0
IsTranscript read_only base exchanges = AllByRecursion (IsAnswered read_only base) exchanges

-- what was done in all exchanges
abbrev pub deed_in : List Exchange → Deed
deed_in [] = nothing
deed_in (x ∷ xs) = followed (deed_in xs) x.deed

-- the bytes of their requests, in the order of time
abbrev pub asking_bytes : List Exchange → List ℕ
asking_bytes [] = []
asking_bytes (x ∷ xs) = asking_bytes xs ++ request_bytes x.request

-- the bytes of their replies, in the order of time
abbrev pub replying_bytes : List Exchange → List ℕ
replying_bytes [] = []
replying_bytes (x ∷ xs) = replying_bytes xs ++ reply_bytes x.error x.request.wanted.cookie x.body

-- their requests, in the order of time
abbrev pub requests_of : List Exchange → List Request
requests_of [] = []
requests_of (x ∷ xs) = requests_of xs ++ x.request ∷ []
