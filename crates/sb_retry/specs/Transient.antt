-- Which answers of a request are tried again.
use Rattle.std.specs.Prelude.{ℕ, ◌==◌, ◌||◌, ◌&&◌, nat_le, Bool, false, Option, Some, None}
use Rattle.sb_world.specs.declared.link.LinkFault.{LinkFault}
use Rattle.sb_world.specs.declared.link.LinkFault.TheVariants.{Failed, Memory}
use Rattle.sb_world.specs.declared.link.GetReply.{GetReply}
use Rattle.sb_world.specs.declared.link.GetReply.TheVariants as get
use Rattle.sb_world.specs.declared.link.HeadReply.{HeadReply}
use Rattle.sb_world.specs.declared.link.HeadReply.TheVariants as head
use Rattle.sb_world.specs.declared.link.ListReply.{ListReply}
use Rattle.sb_world.specs.declared.link.ListReply.TheVariants as listed

-- a failure of a status that may pass: a request that took too long (RFC 9110, section 15.5.9), too many requests (RFC
-- 6585, section 4), a fault of the server (RFC 9110, section 15.6), and of the own ones 601, a fault of the wire, and 602,
-- of bytes that are no response
abbrev pub is_transient : ℕ → Bool
is_transient status =
    (status == 408) || (status == 429) || (nat_le 500 status && nat_le status 599) || (status == 601) || (status == 602)

-- a request failed in a way that may pass; want of memory is no such way
abbrev pub may_pass : Option LinkFault → Bool
may_pass None = false
may_pass (Some (Failed status)) = is_transient status
may_pass (Some Memory) = false

-- the fault of a GET, of a HEAD and of a listing, if it failed
abbrev pub get_fault : GetReply → Option LinkFault
get_fault get.Absent = None
get_fault (get.Bytes body) = None
get_fault get.Same = None
get_fault (get.Fault fault) = Some fault

abbrev pub head_fault : HeadReply → Option LinkFault
head_fault head.Absent = None
head_fault (head.Found texts) = None
head_fault (head.Fault fault) = Some fault

abbrev pub list_fault : ListReply → Option LinkFault
list_fault (listed.Names page more) = None
list_fault (listed.Fault fault) = Some fault

-- the fault of a put or a delete, which tells nothing else
abbrev pub own_fault : Option LinkFault → Option LinkFault
own_fault fault = fault
