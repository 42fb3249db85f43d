-- The state of a block in the cache, and the table of its changes.
use Rattle.std.specs.Prelude.{ℕ, Bool, true, false, not, ◌&&◌, nat_eq, nat_le, if◌then◌else◌, List, filter, Option}
use Rattle.std.specs.Prelude.{Some, None}
use Rattle.sb_base.specs.declared.entry.EntryKind.{EntryKind}
use Rattle.sb_base.specs.declared.entry.EntryKind.TheVariants.{KnownZero, Write, GetBegin, GetEnd, PutBegin, PutEnd}
use Rattle.sb_base.specs.declared.entry.EntryKind.TheVariants.{Dropped}
use Rattle.sb_base.specs.declared.entry.Entry.{Entry}
use Rattle.sb_history.specs.Contents.{is_zeros}
use Rattle.sb_history.specs.Puts.{Put, puts_of, newest_is_open, newest_place}
use Rattle.sb_history.specs.Gets.{Fetch, fetch_of}
use Rattle.sb_history.specs.Cache.{Found, outcome, cached_content}
use Rattle.sb_history.specs.Writes.{is_nil, unacked_writes}
use Rattle.sb_history.specs.Eviction.{is_unverified}

-- not cached; cached and acknowledged; found by the mount and unverified; cached with unacknowledged writes; a GET is
-- open; one that verifies; a PUT is open; one since which the block was written
pub data State : Type 0 where
  missing : State
  clean : State
  clean2 : State
  dirty : State
  reading : State
  reading2 : State
  writing : State
  writing2 : State

-- the state without an open GET or PUT
abbrev pub state_held : Bool → Option (List ℕ) → List ℕ → State
state_held unverified (Some content) writes = if is_nil writes then clean else dirty
state_held unverified None writes = if unverified then clean2 else missing

-- the state while a PUT is open: written since it began, or not
abbrev pub state_put : List Put → List ℕ → State
state_put puts writes = if is_nil (filter (λ write. nat_le (newest_place puts) write) writes) then writing else writing2

-- the state by the parts of a history
abbrev pub state_of : Bool → Option (List ℕ) → Option Fetch → List Put → List ℕ → State
state_of unverified cached (Some fetch) puts writes = if unverified then reading2 else reading
state_of unverified cached None puts writes =
    if newest_is_open puts then state_put puts writes else state_held unverified cached writes

-- the state of a block after a history
abbrev pub state_at : ℕ → Found → List Entry → ℕ → State
state_at block_size found past block =
    state_of (is_unverified found past block) (cached_content block_size found past block) (fetch_of past block)
    (puts_of past block) (unacked_writes block_size found past block)

-- the table, a write: one that leaves zeros where the store is known to hold zeros, with no put open, owes nothing
abbrev pub written : Bool → State → State
written true clean2 = missing
written true dirty = clean
written true state = state
written false missing = dirty
written false clean = dirty
written false clean2 = dirty
written false writing = writing2
written false state = state

-- the table, the begin of a GET
abbrev pub get_begun : State → State
get_begun missing = reading
get_begun clean2 = reading2
get_begun state = state

-- the table, the end of a GET, taken or not
abbrev pub get_ended : Bool → State → State
get_ended true state = clean
get_ended false reading = missing
get_ended false reading2 = clean2
get_ended false state = state

-- the table, the begin of a PUT
abbrev pub put_begun : State → State
put_begun dirty = writing
put_begun state = state

-- the table, the end of a PUT, ok or not
abbrev pub put_ended : Bool → State → State
put_ended true writing = clean
put_ended true writing2 = dirty
put_ended false writing = dirty
put_ended false writing2 = dirty
put_ended ok state = state

-- the state of a block after an entry
abbrev pub next_state : ℕ → ℕ → Bool → Option (List ℕ) → List Put → EntryKind → State → State
next_state block_size block known_zero cached puts (KnownZero of) state = if nat_eq of block then missing else state
next_state block_size block known_zero cached puts (Write part bytes) state =
    if nat_eq part.block block then written
    ((known_zero && not (newest_is_open puts)) && is_zeros (outcome block_size cached part bytes)) state else state
next_state block_size block known_zero cached puts (GetBegin of expect verify) state =
    if nat_eq of block then get_begun state else state
next_state block_size block known_zero cached puts (GetEnd of answer verify taken) state =
    if nat_eq of block then get_ended taken state else state
next_state block_size block known_zero cached puts (PutBegin of content) state =
    if nat_eq of block then put_begun state else state
next_state block_size block known_zero cached puts (PutEnd of ok) state =
    if nat_eq of block then put_ended ok state else state
next_state block_size block known_zero cached puts (Dropped of) state = if nat_eq of block then missing else state
next_state block_size block known_zero cached puts kind state = state
