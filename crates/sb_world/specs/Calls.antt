-- The answers of a link as its log has them.
use Rattle.std.specs.Prelude.{ℕ, Bool, true, false, List, Option, Some, None, Result, Ok, Err, IsErrOf}
use Rattle.sb_world.specs.declared.link.Got.{Got}
use Rattle.sb_world.specs.declared.link.Got.TheVariants as got
use Rattle.sb_world.specs.declared.link.HeadText.{HeadText}
use Rattle.sb_world.specs.declared.link.LinkFault.{LinkFault}
use Rattle.sb_world.specs.declared.link.LinkFault.TheVariants.{Failed, Memory}
use Rattle.sb_world.specs.declared.link.GetReply.{GetReply}
use Rattle.sb_world.specs.declared.link.GetReply.TheVariants as get
use Rattle.sb_world.specs.declared.link.HeadReply.{HeadReply}
use Rattle.sb_world.specs.declared.link.HeadReply.TheVariants as head
use Rattle.sb_world.specs.declared.link.ListReply.{ListReply}
use Rattle.sb_world.specs.declared.link.ListReply.TheVariants as listed

-- what a GET answered, with the bytes in its buffer
abbrev pub get_reply : Result Got LinkFault → List ℕ → GetReply
get_reply (Ok got.Absent) out = get.Absent
get_reply (Ok got.Bytes) out = get.Bytes out
get_reply (Ok got.Same) out = get.Same
get_reply (Err fault) out = get.Fault fault

-- what a HEAD answered
abbrev pub head_reply : Result (Option HeadText) LinkFault → HeadReply
head_reply (Ok None) = head.Absent
head_reply (Ok (Some texts)) = head.Found texts
head_reply (Err fault) = head.Fault fault

-- what a listing answered, with the names in its page
abbrev pub list_reply : Result Bool LinkFault → List (List ℕ) → ListReply
list_reply (Ok more) names = listed.Names names more
list_reply (Err fault) names = listed.Fault fault

-- the fault of a request, if it failed
abbrev pub fault_of : {T : Type 0} → Result T LinkFault → Option LinkFault
fault_of (Ok value) = None
fault_of (Err fault) = Some fault

-- a request failed for another cause than memory
abbrev pub HasFailed : {T : Type 0} → Result T LinkFault → Type 0
HasFailed result = (status : ℕ) × IsErrOf result (Failed status)

-- the same as a test
abbrev pub has_failed : {T : Type 0} → Result T LinkFault → Bool
has_failed (Ok value) = false
has_failed (Err (Failed status)) = true
has_failed (Err Memory) = false

-- a digest is answered only where one was given
abbrev pub IsAsked : {D : Type 0} → Result Got LinkFault → Option D → Type 0
IsAsked (Ok got.Same) None = ⊥
IsAsked result verify = Unit {0}
