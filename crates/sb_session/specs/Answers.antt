-- What doing a request came to.
use Rattle.std.specs.Prelude.{ℕ, ◌≡◌, Bool, List, [], ◌++◌, take, Result, Ok, Err}
use Rattle.sb_base.specs.declared.geometry.Geometry.{Geometry}
use Rattle.sb_base.specs.declared.part.Part.{Part}
use Rattle.sb_nbd.specs.Numbers.{eio, enomem}
use Rattle.sb_nbd.specs.Requests.{Request}
use Rattle.sb_crew.specs.Bases.{Base}
use Rattle.sb_crew.specs.Scenes.{Deed, nothing}
use Rattle.sb_crew.specs.declared.calls.CallFault.{CallFault}
use Rattle.sb_crew.specs.declared.calls.CallFault.TheVariants.{StoreFault, Memory, StaleRead, ClockStalled}
use Rattle.sb_crew.specs.Outcomes.{Outcome, bytes_read, flush_of, GoalEnds, GivesBytes, Does}
use Rattle.sb_nbd.specs.declared.command.Command.{Command}
use Rattle.sb_session.specs.Goals.{verdict, parts_wanted, reads_of, fua_of, goal_of, body_of}

-- what reading parts into the front of a buffer did
abbrev pub ReadsRange : Base → (Deed → Type 0) → List Part → ℕ → List ℕ → Result Unit CallFault → Type 0
ReadsRange base did parts count room result =
    Does did parts
    (λ (deed : Deed). GoalEnds base (reads_of parts) result deed × GivesBytes (take count room) result deed)

-- what writing to parts did, which wants this done
abbrev pub WritesRange : Base → (Deed → Type 0) → List Part → List Outcome → Result Unit CallFault → Type 0
WritesRange base did parts goal result = Does did parts (GoalEnds base goal result)

-- the error number of a fault
abbrev pub error_of : CallFault → ℕ
error_of (StoreFault status) = eio
error_of Memory = enomem
error_of (StaleRead block expected shown begun) = eio
error_of (ClockStalled before asked after) = eio

-- the reply to what ended so: error 0 and these bytes, or the error number of the fault and no bytes
abbrev pub IsReplyTo : Result Unit CallFault → List ℕ → ℕ → List ℕ → Type 0
IsReplyTo (Ok done) bytes error body = (error ≡ 0) × (body ≡ bytes)
IsReplyTo (Err fault) bytes error body = (error ≡ error_of fault) × (body ≡ [])

-- the goal was met or it wasn't, and the reply tells that
pub record IsAnswer (base : Base) (goal : List Outcome) (bytes : List ℕ) (deed : Deed) (error : ℕ)
    (body : List ℕ) : Type 0 where
  pub result : Result Unit CallFault
  pub ends : GoalEnds base goal result deed
  pub reply : IsReplyTo result bytes error body

-- what a READ of parts did, and the reply to it
abbrev pub ReadAnswers : Base → (Deed → Type 0) → List Part → ℕ → List ℕ → Type 0
ReadAnswers base did parts error body =
    Does did parts (λ (deed : Deed). IsAnswer base (reads_of parts) (bytes_read deed.entries) deed error body)

-- what the flush did that these flags want
abbrev pub FlushesWanted : Base → (Deed → Type 0) → ℕ → Result Unit CallFault → Type 0
FlushesWanted base did flags result =
    Does did [] (λ (deed : Deed). (mark : ℕ) × GoalEnds base (fua_of flags mark) result deed)

-- what writing to parts did, with the flush behind it that these flags want
abbrev pub WritesWanted : Base → (Deed → Type 0) → List Part → ℕ → List Outcome → Result Unit CallFault → Type 0
WritesWanted base did parts flags goal result =
    Does did parts (λ (deed : Deed). (mark : ℕ) × GoalEnds base (fua_of flags mark ++ goal) result deed)

-- what a request to write to parts did, and the error of its reply
abbrev pub WriteAnswers : Base → (Deed → Type 0) → List Part → ℕ → List Outcome → ℕ → Type 0
WriteAnswers base did parts flags goal error =
    Does did parts (λ (deed : Deed). (mark : ℕ) × IsAnswer base (fua_of flags mark ++ goal) [] deed error [])

-- what a FLUSH did, and the error of its reply
abbrev pub FlushAnswers : Base → (Deed → Type 0) → ℕ → Type 0
FlushAnswers base did error = Does did [] (λ (deed : Deed). (mark : ℕ) × IsAnswer base (flush_of mark) [] deed error [])

-- a request was refused by this error, and nothing was done
pub record IsRefusal (code : ℕ) (deed : Deed) (error : ℕ) (body : List ℕ) : Type 0 where
  pub nothing_done : deed ≡ nothing
  pub number : error ≡ code
  pub no_bytes : body ≡ []

-- error and bytes of the reply to a request that isn't DISC, by how it is judged
abbrev pub AnswersBy : Result Command ℕ → Base → Request → ℕ → List ℕ → Deed → Type 0
AnswersBy (Err code) base r error body deed = IsRefusal code deed error body
AnswersBy (Ok command) base r error body deed =
    (mark : ℕ) × IsAnswer base (goal_of base.geometry r mark command) (body_of command deed.entries) deed error body

-- the blocks that it may ask the store for
abbrev pub parts_asked : Result Command ℕ → Geometry → Request → List Part
parts_asked (Err code) geometry r = []
parts_asked (Ok command) geometry r = parts_wanted geometry r.wanted command

-- what doing a request did, and the reply to it
abbrev pub Answers : (Deed → Type 0) → Bool → Base → Request → ℕ → List ℕ → Type 0
Answers did read_only base r error body =
    Does did (parts_asked (verdict read_only base.geometry r.wanted) base.geometry r)
    (AnswersBy (verdict read_only base.geometry r.wanted) base r error body)
