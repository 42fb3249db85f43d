-- The token: the object that is there while a disk is mounted.
use Rattle.std.specs.Prelude.{ℕ, ◌≡◌, ◌==◌, ◌&&◌, Bool, false, if◌then◌else◌, ◌⊎◌, List, [], ◌∷◌, Option, Some, None, Result, Ok, Err}
use Rattle.sb_world.specs.Told.{Gains}
use Rattle.sb_world.specs.declared.link.Call.{Call}
use Rattle.sb_world.specs.declared.link.Call.TheVariants as call
use Rattle.sb_world.specs.declared.link.GetReply.{GetReply}
use Rattle.sb_world.specs.declared.link.GetReply.TheVariants as get
use Rattle.sb_world.specs.declared.link.LinkFault.{LinkFault}
use Rattle.sb_world.specs.declared.link.LinkFault.TheVariants as link
use Rattle.sb_tools.specs.Blocks.{block_of}
use Rattle.sb_tools.specs.Faults.{answer_by, fault_by}
use Rattle.sb_tools.specs.declared.fault.ToolFault.{ToolFault}
use Rattle.sb_tools.specs.declared.fault.ToolFault.TheVariants as fault

-- what a token says that reads as this number, or as none
abbrev pub token_fault : List ℕ → Option ℕ → ToolFault
token_fault body (Some token) = fault.Mounted token
token_fault body None = fault.BadToken body

-- what a token of eight bytes says: the disk is mounted, where they are lower-case hex digits, and else it is damaged
abbrev pub fault_of_token : List ℕ → ToolFault
fault_of_token body = token_fault body (block_of [] false body)

-- the object has another length than was asked for
abbrev pub is_other_length : LinkFault → Bool
is_other_length (link.Failed status) = status == 600
is_other_length link.Memory = false

-- what stands against taking a token, by the reply to the GET of it
abbrev pub refusal_by : Bool → GetReply → Option ToolFault
refusal_by force get.Absent = None
refusal_by force (get.Bytes body) = if force then None else Some (fault_of_token body)
refusal_by force get.Same = None
refusal_by force (get.Fault failure) = if force && is_other_length failure then None else Some (fault_by failure)

-- the token is put after the GET, unless something stands against it, which is the answer then
abbrev pub Follows : Option ToolFault → Call → (Option LinkFault → Call) → Result Unit ToolFault → List Call → Type 0
Follows None asked put result calls =
    (failure : Option LinkFault) × (result ≡ answer_by failure) × (calls ≡ put failure ∷ asked ∷ [])
Follows (Some refusal) asked put result calls = (result ≡ Err refusal) × (calls ≡ asked ∷ [])

-- the answer of a look for a token
abbrev pub answer_against : Option ToolFault → Result Unit ToolFault
answer_against None = Ok tt
answer_against (Some refusal) = Err refusal

-- a token was looked for, by one GET of it
pub record LooksForToken (name : List ℕ) (force : Bool) (result : Result Unit ToolFault) (calls : List Call) : Type 0 where
  pub reply : GetReply
  pub answer : result ≡ answer_against (refusal_by force reply)
  pub asked : calls ≡ call.Get name None reply ∷ []

-- a token was taken, or not: one GET of it, and then what follows by its reply
pub record TakesToken (name body : List ℕ) (force : Bool) (result : Result Unit ToolFault) (calls : List Call)
    : Type 0 where
  pub reply : GetReply
  pub follows : Follows (refusal_by force reply) (call.Get name None reply) (call.Put name body None) result calls

-- a token was dropped, or not: one DELETE of it
pub record DropsToken (name : List ℕ) (result : Result Unit ToolFault) (calls : List Call) : Type 0 where
  pub failure : Option LinkFault
  pub answer : result ≡ answer_by failure
  pub asked : calls ≡ call.Delete name failure ∷ []
