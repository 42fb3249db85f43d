-- The link's log that entries stand for: one call for each end of a GET or a PUT, in order. Entries and calls are lists
-- with the newest first. A segment of a history that ends a put has its begin too.
use Rattle.std.specs.Prelude.{ℕ, ◌≡◌, Bool, nat_eq, if◌then◌else◌, List, [], ◌∷◌, Option, Some, None, is_none}
use Rattle.sb_base.specs.declared.entry.Shown.{Shown}
use Rattle.sb_base.specs.declared.entry.Shown.TheVariants as shown
use Rattle.sb_base.specs.declared.entry.EntryKind.{EntryKind}
use Rattle.sb_base.specs.declared.entry.EntryKind.TheVariants.{GetEnd, PutBegin, PutEnd}
use Rattle.sb_base.specs.declared.entry.Entry.{Entry}
use Rattle.sb_world.specs.declared.link.Call.{Call}
use Rattle.sb_world.specs.declared.link.Call.TheVariants as call
use Rattle.sb_world.specs.declared.link.GetReply.{GetReply}
use Rattle.sb_world.specs.declared.link.GetReply.TheVariants as reply
use Rattle.sb_world.specs.declared.link.LinkFault.{LinkFault}
use Rattle.sb_world.specs.declared.link.Meta.{Meta}
use Rattle.sb_history.specs.Contents.{is_zeros}

-- the content of the last put of a block that began, after an entry
abbrev pub put_content_after : ℕ → EntryKind → Option (List ℕ) → Option (List ℕ)
put_content_after block (PutBegin of content) before = if nat_eq of block then Some content else before
put_content_after block kind before = before

-- the content of the last put of a block that began among these entries
abbrev pub put_content : List Entry → ℕ → Option (List ℕ)
put_content [] block = None
put_content (entry ∷ past) block = put_content_after block entry.kind (put_content past block)

-- what the object of a block carries: the first block's has the sizes of the disk
abbrev pub meta_of : Option Meta → ℕ → Option Meta
meta_of meta block = if nat_eq block 0 then meta else None

-- the call that puts a content under a name: a delete where it is zeros
abbrev pub put_call : List ℕ → Option Meta → List ℕ → Option LinkFault → Call
put_call name meta content fault = if is_zeros content then call.Delete name fault else call.Put name content meta fault

-- the link's reply to a GET says what the answer says; one that failed says some fault
abbrev pub Replies : Shown → GetReply → Type 0
Replies shown.Absent answered = answered ≡ reply.Absent
Replies (shown.Bytes bytes) answered = answered ≡ reply.Bytes bytes
Replies shown.Same answered = answered ≡ reply.Same
Replies shown.Failed answered = (fault : LinkFault) × (answered ≡ reply.Fault fault)

-- the newest of these calls is a GET with this answer, and the others are as the rest says
abbrev pub IsGetCall : List ℕ → Option (List ℕ) → Shown → List Call → (List Call → Type 0) → Type 0
IsGetCall name verify answer calls Rest =
    (answered : GetReply) × (earlier : List Call) × (calls ≡ call.Get name verify answered ∷ earlier)
    × Replies answer answered × Rest earlier

-- the newest of these calls is a put of this content, with a fault exactly where it isn't ok
abbrev pub IsPutCall : List ℕ → Option Meta → Option (List ℕ) → Bool → List Call → (List Call → Type 0) → Type 0
IsPutCall name meta None ok calls Rest = ⊥
IsPutCall name meta (Some content) ok calls Rest =
    (fault : Option LinkFault) × (earlier : List Call) × (calls ≡ put_call name meta content fault ∷ earlier)
    × (is_none fault ≡ ok) × Rest earlier

-- the calls of an entry, and those of the entries before it as the rest says
abbrev pub IsCallOf : (ℕ → List ℕ) → Option Meta → List Entry → EntryKind → List Call → (List Call → Type 0) → Type 0
IsCallOf name meta past (GetEnd block answer verify taken) calls Rest = IsGetCall (name block) verify answer calls Rest
IsCallOf name meta past (PutEnd block ok) calls Rest =
    IsPutCall (name block) (meta_of meta block) (put_content past block) ok calls Rest
IsCallOf name meta past kind calls Rest = Rest calls

-- the calls that entries stand for, by the names of blocks and the sizes that the first one's object carries
abbrev pub RequestLog : (ℕ → List ℕ) → Option Meta → List Entry → List Call → Type 0
RequestLog name meta [] calls = calls ≡ []
RequestLog name meta (entry ∷ past) calls = IsCallOf name meta past entry.kind calls (RequestLog name meta past)
