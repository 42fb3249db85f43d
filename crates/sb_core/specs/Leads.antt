-- What a caller needs to bring a call to its end: what is open, how many events are left, and what is waited for.
use Rattle.std.specs.Prelude.{ℕ, ◌≡◌, ◌≢◌, ◌<◌, ◌≤◌, Bool, true, false, nat_eq, List, [], ◌∷◌, Option, Some, None, is_some}
use Rattle.std.specs.Prelude.{Result, Ok, Err, if◌then◌else◌}
use Rattle.std.proofs.Common.{ap, ◌∙◌}
use Rattle.std.specs.FinMap.{get, entries}
use Rattle.sb_base.specs.declared.line.Why.{Why}
use Rattle.sb_base.specs.declared.line.Why.TheVariants.{Busy, Spaced, WindowFull, NoRoom}
use Rattle.sb_window.specs.Windows as windows
use Rattle.sb_window.specs.Windows.{WindowState, expected}
use Rattle.sb_blocks.specs.declared.cached.OpenGet.{OpenGet}
use Rattle.sb_blocks.specs.declared.cached.OpenPut.{OpenPut}
use Rattle.sb_blocks.specs.declared.cached.State.{State}
use Rattle.sb_blocks.specs.declared.cached.State.TheVariants.{Reading, Clean, Dirty, Writing, Writing2}
use Rattle.sb_blocks.specs.declared.cached.Cached.{Cached}
use Rattle.sb_blocks.specs.Cached.{get_in, put_in, passes, is_dirty}
use Rattle.sb_blocks.specs.Caches.{CachedBlocks, CacheState, without}
use Rattle.sb_blocks.specs.Orders.{Ranks, rank_of}
use Rattle.sb_core.specs.declared.machine.Core.{Core}
use Rattle.sb_core.specs.declared.job.GetJob.{GetJob}
use Rattle.sb_core.specs.declared.job.PutJob.{PutJob}
use Rattle.sb_core.specs.declared.room.Room.{Room}
use Rattle.sb_core.specs.declared.room.Room.TheVariants as room
use Rattle.sb_core.specs.declared.step.ReadStep.{ReadStep}
use Rattle.sb_core.specs.declared.step.ReadStep.TheVariants as read
use Rattle.sb_core.specs.declared.step.WriteStep.{WriteStep}
use Rattle.sb_core.specs.declared.step.WriteStep.TheVariants as write
use Rattle.sb_core.specs.declared.step.FlushStep.{FlushStep}
use Rattle.sb_core.specs.declared.step.FlushStep.TheVariants as flush
use Rattle.sb_core.specs.declared.step.GetDone.{GetDone}
use Rattle.sb_core.specs.declared.step.GetDone.TheVariants as done
use Rattle.sb_core.specs.Rules.{ready_rank, owing_rank}
use Rattle.sb_core.specs.Progress.{steps_left_in}
use Rattle.sb_core.specs.Steps.{HasGet, HasPut}

-- neither a GET nor a PUT of a block is open
abbrev pub is_idle_by : State → Bool
is_idle_by (Reading get_) = false
is_idle_by Clean = true
is_idle_by (Dirty stamp since) = true
is_idle_by (Writing put stamp) = false
is_idle_by (Writing2 put stamp later since) = false

abbrev pub is_idle_in : Option Cached → Bool
is_idle_in None = true
is_idle_in (Some entry) = is_idle_by entry.state

-- neither is of any block
abbrev pub AllIdle : CachedBlocks → Type 0
AllIdle cached = (block : ℕ) → is_idle_in (get cached block) ≡ true

-- neither is of any other block
abbrev pub OthersIdle : ℕ → CachedBlocks → Type 0
OthersIdle block cached = (other : ℕ) → nat_eq block other ≡ false → is_idle_in (get cached other) ≡ true

-- no GET and no PUT is open in the core
abbrev pub IsIdle : Core → Type 0
IsIdle core = AllIdle core.blocks.cached

-- none is but of this block
abbrev pub IsIdleBut : ℕ → Core → Type 0
IsIdleBut block core = OthersIdle block core.blocks.cached

-- each request that was open still is
pub record KeepsRequests (old new : CachedBlocks) : Type 0 where
  pub gets : (block : ℕ) (get_ : OpenGet) → get_in (get old block) ≡ Some get_ → get_in (get new block) ≡ Some get_
  pub puts : (block : ℕ) (put : OpenPut) → put_in (get old block) ≡ Some put → put_in (get new block) ≡ Some put

abbrev pub KeepsOpen : Core → Core → Type 0
KeepsOpen old new = KeepsRequests old.blocks.cached new.blocks.cached

-- what the cache has of each other block stays
abbrev pub KeepsOthers : ℕ → Core → Core → Type 0
KeepsOthers block old new =
    (other : ℕ) → nat_eq block other ≡ false → get new.blocks.cached other ≡ get old.blocks.cached other

-- how many events come at most before the one that answers a read or a write of the block or ends a flush, where no
-- other pass comes between and each GET and PUT succeeds
abbrev pub steps_left : Core → ℕ → ℕ
steps_left core block = steps_left_in core.blocks block

-- each block is closer
abbrev pub IsCloser : Core → Core → Type 0
IsCloser old new = (block : ℕ) → steps_left new block < steps_left old block

-- an entry takes part in an order
abbrev pub is_any : Ranks → List (ℕ × Cached) → Bool
is_any ranks [] = false
is_any ranks (e ∷ es) = if is_some (ranks e.0 e.1) then true else is_any ranks es

abbrev pub one_unless : Bool → ℕ
one_unless true = 0
one_unless false = 1

-- how many waits come at most before the next PUT of a dirty block that a mark covers (any, without a mark), by the
-- reading for it: none where one may be put then, and else one
abbrev pub waits_left : Option ℕ → Core → ℕ → ℕ
waits_left mark core reading =
    one_unless (is_any (ready_rank core.window reading mark) (entries core.blocks.cached))

-- a GET of the block has begun at the newest reading, and the block is closer. Without its entry the cache is as before.
pub record LeadsToGet (old new : Core) (pass block : ℕ) (job : GetJob) : Type 0 where
  pub same_block : job.block ≡ block
  pub begun : HasGet new pass job
  pub reading : job.begun ≡ new.reading
  pub closer : steps_left new block < steps_left old block
  pub expects : job.expect ≡ expected old.window block new.reading
  pub verify : job.verify ≡ None
  pub undone : without new.blocks block ≡ old.blocks
  pub window : new.window ≡ old.window
  pub idle : IsIdle old → IsIdleBut block new

-- a PUT of these bytes has begun, which the window keeps from then on, and each block is closer
pub record LeadsToPut (old new : Core) (pass : ℕ) (out : List ℕ) (job : PutJob) : Type 0 where
  pub begun : HasPut new pass job
  pub closer : IsCloser old new
  pub window : new.window ≡ windows.begun old.window job.block new.reading
  pub idle : IsIdle old → IsIdleBut job.block new

-- a block left the cache, and this one is closer
pub record LeadsOn (old new : Core) (block : ℕ) : Type 0 where
  pub idle : IsIdle old → IsIdle new
  pub closer : steps_left new block < steps_left old block
  pub window : new.window ≡ old.window

-- the call is answered
pub record LeadsToEnd (old new : Core) : Type 0 where
  pub idle : IsIdle old → IsIdle new
  pub window : new.window ≡ old.window

-- what is waited for is this reading
abbrev pub IsUntil : ℕ → Why → Type 0
IsUntil until (Busy block) = ⊥
IsUntil until (Spaced reading) = reading ≡ until
IsUntil until (WindowFull reading) = reading ≡ until
IsUntil until NoRoom = ⊥

-- what is waited for is an open request
abbrev pub IsForRequest : Why → Type 0
IsForRequest (Busy block) = Unit {0}
IsForRequest (Spaced reading) = ⊥
IsForRequest (WindowFull reading) = ⊥
IsForRequest NoRoom = Unit {0}

-- the window is full only where MD5s are not kept for ever
abbrev pub IsFullInTime : ℕ → Why → Type 0
IsFullInTime md5_time (Busy block) = Unit {0}
IsFullInTime md5_time (Spaced reading) = Unit {0}
IsFullInTime md5_time (WindowFull reading) = md5_time ≢ 0
IsFullInTime md5_time NoRoom = Unit {0}

-- a core in which nothing is open waits for its window alone, until a reading ahead. From then on, if nothing else
-- happens, the next PUT of a dirty block that the mark covers may begin.
pub record WaitsForWindow (mark : Option ℕ) (old new : Core) (why : Why) : Type 0 where
  pub on : new.settings.md5_size ≢ 0
  pub until : ℕ
  pub reason : IsUntil until why
  pub in_time : IsFullInTime new.settings.md5_time why
  pub ahead : new.reading < until
  pub waits : waits_left mark old new.reading ≡ 1
  pub later : (reading : ℕ) → until ≤ reading → waits_left mark new reading ≡ 0

-- a wait changes nothing but the reading. A core that is idle waits for its window alone, and without a window only
-- open requests are waited for.
pub record LeadsToWait (mark : Option ℕ) (old new : Core) (why : Why) : Type 0 where
  pub blocks : new.blocks ≡ old.blocks
  pub window : new.window ≡ old.window
  pub idle : IsIdle old → WaitsForWindow mark old new why
  pub off : new.settings.md5_size ≡ 0 → IsForRequest why

-- where an answer to a read of the block leads, whose room has these bytes: a core that is idle is idle again unless a
-- GET or a PUT has begun
abbrev pub ReadLeads : Core → Core → ℕ → ℕ → List ℕ → ReadStep → Type 0
ReadLeads old new pass block space read.Done = LeadsToEnd old new
ReadLeads old new pass block space (read.Wait why) = LeadsToWait None old new why
ReadLeads old new pass block space (read.Get job) = LeadsToGet old new pass block job
ReadLeads old new pass block space (read.Dropped dropped) = LeadsOn old new block
ReadLeads old new pass block space (read.Put job) = LeadsToPut old new pass space job

-- where an answer to a write leads
abbrev pub WriteLeads : Core → Core → ℕ → ℕ → List ℕ → WriteStep → Type 0
WriteLeads old new pass block out (write.Done dirtied) = LeadsToEnd old new
WriteLeads old new pass block out (write.Wait why) = LeadsToWait None old new why
WriteLeads old new pass block out (write.Get job) = LeadsToGet old new pass block job
WriteLeads old new pass block out (write.Dropped dropped) = LeadsOn old new block
WriteLeads old new pass block out (write.Put job) = LeadsToPut old new pass out job

-- where an answer to a step of a flush of this mark leads
abbrev pub FlushLeads : Core → Core → ℕ → ℕ → List ℕ → FlushStep → Type 0
FlushLeads old new pass mark out flush.Done = LeadsToEnd old new
FlushLeads old new pass mark out (flush.Wait why) = LeadsToWait (Some mark) old new why
FlushLeads old new pass mark out (flush.Put job) = LeadsToPut old new pass out job

-- a dirty block that a mark covers
abbrev pub IsOwing : Option ℕ → CachedBlocks → Type 0
IsOwing mark cached = (block : ℕ) × (since : ℕ) × (rank_of (owing_rank mark) block (get cached block) ≡ Some since)

-- nothing may be put yet: the window is waited for, where a covered block is dirty
pub record PutWaits (mark : Option ℕ) (old new : Core) (why : Why) : Type 0 where
  pub blocks : new.blocks ≡ old.blocks
  pub window : new.window ≡ old.window
  pub idle : (why ≡ NoRoom → IsOwing mark old.blocks.cached) → IsIdle old → WaitsForWindow mark old new why
  pub off : new.settings.md5_size ≡ 0 → IsForRequest why

-- where the next PUT leads
abbrev pub PutLeads : Option ℕ → Core → Core → ℕ → List ℕ → Result PutJob Why → Type 0
PutLeads mark old new pass out (Ok job) = LeadsToPut old new pass out job
PutLeads mark old new pass out (Err why) = PutWaits mark old new why

-- the same where a covered block is dirty
abbrev pub DirtyLeads : Core → Core → ℕ → List ℕ → Result PutJob Why → Type 0
DirtyLeads old new pass out (Ok job) = LeadsToPut old new pass out job
DirtyLeads old new pass out (Err why) = LeadsToWait None old new why

-- where room that is made for blocks without an entry leads
abbrev pub RoomLeads : Core → Core → ℕ → List ℕ → Room → Type 0
RoomLeads old new pass out (room.Dropped dropped) =
    (block : ℕ) → get old.blocks.cached block ≡ None → LeadsOn old new block
RoomLeads old new pass out (room.Put job) = LeadsToPut old new pass out job
RoomLeads old new pass out (room.Wait why) = LeadsToWait None old new why

-- the block's entry is gone
abbrev pub LeavesMissing : Core → Core → ℕ → Type 0
LeavesMissing old new block = new.blocks ≡ without old.blocks block

-- an answer that isn't taken leaves the block without an entry
abbrev pub LeavesNothing : Core → Core → ℕ → GetDone → Type 0
LeavesNothing old new block done.Taken = Unit {0}
LeavesNothing old new block done.Failed = LeavesMissing old new block
LeavesNothing old new block (done.Stale expected shown) = LeavesMissing old new block

-- the block is dirty
abbrev pub IsDirty : Core → ℕ → Type 0
IsDirty core block = passes is_dirty (get core.blocks.cached block) ≡ true

-- where a GET begins and its answer isn't taken, as many events are left as before
abbrev pub GetUndone : Type 0
GetUndone =
    (old begun ended : Core) (pass block : ℕ) (job : GetJob) → LeadsToGet old begun pass block job
    → LeavesMissing begun ended block → (other : ℕ) → steps_left ended other ≡ steps_left old other

pub get_undone : GetUndone
get_undone old begun ended pass block job leads leaves other =
    ap (λ (cache : CacheState). steps_left_in cache other) (leaves ∙ leads.undone)
