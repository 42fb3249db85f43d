-- Where each event of a core leads.
use Rattle.std.proofs.Common.{ℕ, ◌≡◌, ◌<◌, Bool, true, false, nat_eq, not, ◌&&◌, nat_le, if◌then◌else◌, List}
use Rattle.std.proofs.Common.{Option, Some, None, is_none, Result, Ok, Err, refl, sym, ◌∙◌, ap, subst, arith}
use Rattle.std.proofs.lemmas.Bool.Decides.{nat_tests}
use Rattle.std.specs.Prelude.{nat_lt}
use Rattle.std.specs.Ordering.{nat_cmp}
use Rattle.std.specs.FinMap.{get, len, empty, get-empty}
use Rattle.sb_base.specs.declared.settings.Settings.{Settings}
use Rattle.sb_base.specs.declared.part.Part.{Part}
use Rattle.sb_base.specs.declared.line.Why.{Why}
use Rattle.sb_base.specs.declared.line.Why.TheVariants.{Busy}
use Rattle.sb_window.specs.Windows.{expected}
use Rattle.sb_blocks.specs.declared.cached.OpenGet.{OpenGet}
use Rattle.sb_blocks.specs.declared.cached.State.{State}
use Rattle.sb_blocks.specs.declared.cached.State.TheVariants.{Reading, Clean, Dirty, Writing, Writing2}
use Rattle.sb_blocks.specs.declared.cached.Cached.{Cached}
use Rattle.sb_blocks.specs.Cached.{get_in, put_in, passes, is_dirty, is_clean, is_held}
use Rattle.sb_blocks.specs.Moves.{touched, written, first_written, asked, put_begun}
use Rattle.sb_blocks.specs.Caches.{CachedBlocks, CacheState, with_entry, without, count_in, after_write}
use Rattle.sb_blocks.specs.Orders.{rank_of, writing_rank}
use Rattle.sb_history.specs.Contents.{zeros, is_zeros, overlay}
use Rattle.sb_core.specs.declared.machine.Core.{Core}
use Rattle.sb_core.specs.declared.job.GetJob.{GetJob}
use Rattle.sb_core.specs.declared.job.PutJob.{PutJob}
use Rattle.sb_core.specs.declared.room.Room.{Room}
use Rattle.sb_core.specs.declared.room.Room.TheVariants as room
use Rattle.sb_core.specs.declared.step.WriteStep.{WriteStep}
use Rattle.sb_core.specs.Progress.{events_until_clean, steps_left_in}
use Rattle.sb_core.specs.Cores.{marks_of, Stays, StartsPut, StartsGet, ReadsHeld}
use Rattle.sb_core.specs.Steps.{HasGet, HasPut}
use Rattle.sb_core.specs.Writing.{is_too_dirty, WritesPart}
use Rattle.sb_core.specs.WriteSteps.{write_put, write_room}
use Rattle.sb_core.specs.Leads.{is_idle_by, is_idle_in, AllIdle, OthersIdle, KeepsRequests, KeepsOpen}
use Rattle.sb_core.specs.Leads.{LeadsToGet, LeadsToPut, LeadsToEnd, LeadsToWait}
use Rattle.sb_core.specs.Leads.{WriteLeads, PutLeads, DirtyLeads, RoomLeads}
use Rattle.sb_core.proofs.Changing.{changed, dirty_is}
use Rattle.sb_core.proofs.Progressing.{closer_asked, closer_dropped}
use Rattle.sb_core.proofs.Leading.{idle_others, idle_set, idle_gone, idle_but, keeps_same, keeps_fresh, keeps_gone, keeps_held}
use Rattle.sb_core.proofs.Leading.{undone, dirty_requests, clean_requests, begun_closer}
use Rattle.sb_core.proofs.Leading.{written_idle, written_requests}
use Rattle.sb_core.proofs.Awaiting.{owing_waits, dirty_counted}

-- a new cache
pub new_idle : AllIdle empty
new_idle block = ap is_idle_in (get-empty nat_cmp block)

-- a PUT begins
pub put_leads : (old new : Core) (pass block : ℕ) (out : List ℕ) (job : PutJob) → StartsPut old new pass block out job
    → passes is_dirty (get old.blocks.cached block) ≡ true → HasPut new pass job → LeadsToPut old new pass out job
put_leads old new pass block out job starts dirty opens =
    let found = changed old.blocks new.blocks block (put_begun pass) (get old.blocks.cached block) starts.blocks in
    let at = dirty_is found.0 (get old.blocks.cached block) found.1 dirty in
    record {
      begun = opens;
      closer = λ b. subst (λ (c : CacheState). steps_left_in c b < steps_left_in old.blocks b) (sym found.2)
          (begun_closer old.blocks block pass at.0 at.1 found.0 found.1 at.2 b);
      window = rw (starts.is_block, starts.rest.reading) starts.window;
      idle = λ idle. rw (starts.is_block, found.2) (idle_but old.blocks.cached block (put_begun pass found.0) idle);
    }

pub put_keeps : (old new : Core) (pass block : ℕ) (out : List ℕ) (job : PutJob) → StartsPut old new pass block out job
    → passes is_dirty (get old.blocks.cached block) ≡ true → KeepsOpen old new
put_keeps old new pass block out job starts dirty =
    let found = changed old.blocks new.blocks block (put_begun pass) (get old.blocks.cached block) starts.blocks in
    let none = dirty_requests (get old.blocks.cached block) dirty in
    subst (λ (c : CacheState). KeepsRequests old.blocks.cached c.cached) (sym found.2)
    (keeps_fresh old.blocks.cached block (put_begun pass found.0) none.0 none.1)

pub stays_keeps : (old new : Core) → Stays old new → KeepsOpen old new
stays_keeps old new stays =
    subst (λ (c : CacheState). KeepsRequests old.blocks.cached c.cached) (sym stays.blocks) (keeps_same old.blocks.cached)

pub stays_ends : (old new : Core) → Stays old new → LeadsToEnd old new
stays_ends old new stays = record {
  idle = λ idle. subst (λ (c : CacheState). AllIdle c.cached) (sym stays.blocks) idle;
  window = stays.window;
}

-- a GET begins
lt_true : (a b : ℕ) → a < b → nat_lt a b ≡ true
lt_true a b lt = grind (arith, nat_tests)

lt_false : (a b : ℕ) → a ≡ b → nat_lt a b ≡ false
lt_false a b same = grind (arith, nat_tests)

pub get_leads : (old new : Core) (pass block : ℕ) (job : GetJob) → StartsGet old new pass block job
    → get old.blocks.cached block ≡ None → len old.blocks.cached < old.blocks.room → HasGet new pass job
    → LeadsToGet old new pass block job
get_leads old new pass block job starts missing free opens =
    let get_ : OpenGet = record
    { pass = pass; begun = old.reading; expect = expected old.window block old.reading; verify = None } in
    let entry = asked get_ starts.blocks.body in
    record {
      same_block = ap (λ (j : GetJob). j.block) starts.is_job;
      begun = opens;
      reading = ap (λ (j : GetJob). j.begun) starts.is_job ∙ sym starts.rest.reading;
      closer = subst (λ (c : CacheState). steps_left_in c block < steps_left_in old.blocks block)
          (sym starts.blocks.entry)
          (closer_asked old.blocks block entry missing (lt_true (len old.blocks.cached) old.blocks.room free) refl refl);
      expects = ap (λ (j : GetJob). j.expect) starts.is_job ∙ ap (expected old.window block) (sym starts.rest.reading);
      verify = ap (λ (j : GetJob). j.verify) starts.is_job;
      undone = ap (λ (c : CacheState). without c block) starts.blocks.entry ∙ undone old.blocks block entry missing;
      window = starts.window;
      idle = λ idle. subst (λ (c : CacheState). OthersIdle block c.cached) (sym starts.blocks.entry)
          (idle_but old.blocks.cached block entry idle);
    }

pub get_keeps : (old new : Core) (pass block : ℕ) (job : GetJob) → StartsGet old new pass block job
    → get old.blocks.cached block ≡ None → KeepsOpen old new
get_keeps old new pass block job starts missing =
    let get_ : OpenGet = record
    { pass = pass; begun = old.reading; expect = expected old.window block old.reading; verify = None } in
    subst (λ (c : CacheState). KeepsRequests old.blocks.cached c.cached) (sym starts.blocks.entry)
    (keeps_fresh old.blocks.cached block (asked get_ starts.blocks.body) (ap get_in missing) (ap put_in missing))

-- a block that is held is read
pub read_ends : (old new : Core) (place : ℕ) (part : Part) (out : List ℕ) → ReadsHeld old new place part out
    → LeadsToEnd old new
read_ends old new place part out does =
    let found = changed old.blocks new.blocks part.block (touched place old.reading) (get old.blocks.cached part.block)
    does.blocks in
    record {
      idle = λ idle. subst (λ (c : CacheState). AllIdle c.cached) (sym found.2)
          (idle_set old.blocks.cached part.block (touched place old.reading found.0)
          (sym (ap is_idle_in found.1) ∙ idle part.block) (idle_others old.blocks.cached part.block idle));
      window = does.window;
    }

pub read_keeps : (old new : Core) (place : ℕ) (part : Part) (out : List ℕ) → ReadsHeld old new place part out
    → KeepsOpen old new
read_keeps old new place part out does =
    let found = changed old.blocks new.blocks part.block (touched place old.reading) (get old.blocks.cached part.block)
    does.blocks in
    subst (λ (c : CacheState). KeepsRequests old.blocks.cached c.cached) (sym found.2)
    (keeps_held old.blocks.cached part.block found.0 (touched place old.reading found.0) found.1 refl refl)

-- a part is written
write_after : (known : Bool) (now place epoch : ℕ) (part : Part) (bytes : List ℕ) (cache : CacheState)
    (found : Option Cached) → get cache.cached part.block ≡ found
    → (AllIdle cache.cached → AllIdle (after_write cache known now place epoch part bytes found).cached)
    × KeepsRequests cache.cached (after_write cache known now place epoch part bytes found).cached
write_after known now place epoch part bytes cache None is =
    by (known && is_zeros (overlay (zeros cache.geometry.block_size) part.offset bytes)) where
      by : (t : Bool)
          → (AllIdle cache.cached → AllIdle (if t then cache else with_entry cache part.block
          (first_written now place epoch (overlay (zeros cache.geometry.block_size) part.offset bytes))).cached)
          × KeepsRequests cache.cached (if t then cache else with_entry cache part.block
          (first_written now place epoch (overlay (zeros cache.geometry.block_size) part.offset bytes))).cached
      by true = (λ idle. idle, keeps_same cache.cached)
      by false = (
        λ idle. idle_set cache.cached part.block
            (first_written now place epoch (overlay (zeros cache.geometry.block_size) part.offset bytes)) refl
            (idle_others cache.cached part.block idle),
        keeps_fresh cache.cached part.block
            (first_written now place epoch (overlay (zeros cache.geometry.block_size) part.offset bytes)) (ap get_in is)
            (ap put_in is),
      )
write_after known now place epoch part bytes cache (Some entry) is =
    let clears = known && is_zeros (overlay entry.body part.offset bytes) in
    let same = written_requests clears epoch now entry.state in (
      λ idle. idle_set cache.cached part.block (written known now place epoch part.offset bytes entry)
          (written_idle clears epoch now entry.state (sym (ap is_idle_in is) ∙ idle part.block))
          (idle_others cache.cached part.block idle),
      keeps_held cache.cached part.block entry (written known now place epoch part.offset bytes entry) is same.0 same.1,
    )

pub write_ends : (old new : Core) (place : ℕ) (part : Part) (bytes : List ℕ) → WritesPart old new place part bytes
    → LeadsToEnd old new
write_ends old new place part bytes does =
    let after = write_after (marks_of old part.block) old.reading place old.epoch part bytes old.blocks (get old.blocks.cached part.block) refl in
    record {
      idle = λ idle. subst (λ (c : CacheState). AllIdle c.cached) (sym does.blocks) (after.0 idle);
      window = does.window;
    }

pub write_keeps : (old new : Core) (place : ℕ) (part : Part) (bytes : List ℕ) → WritesPart old new place part bytes
    → KeepsOpen old new
write_keeps old new place part bytes does =
    let after = write_after (marks_of old part.block) old.reading place old.epoch part bytes old.blocks (get old.blocks.cached part.block) refl in
    subst (λ (c : CacheState). KeepsRequests old.blocks.cached c.cached) (sym does.blocks) after.1

-- a block leaves a full cache
clean_entry : (found : Option Cached) → passes is_clean found ≡ true
    → (entry : Cached) × (found ≡ Some entry) × (events_until_clean entry.state ≡ 0)
clean_entry None clean = absurd (cc)
clean_entry (Some entry) clean = (entry, refl, by entry.state clean) where
  by : (state : State) → is_clean state ≡ true → events_until_clean state ≡ 0
  by (Reading get_) clean_ = refl
  by Clean clean_ = refl
  by (Dirty stamp since) clean_ = absurd (cc)
  by (Writing put stamp) clean_ = absurd (cc)
  by (Writing2 put stamp later since) clean_ = absurd (cc)

pub drop_leads : (core : Core) (after : CacheState) (dropped : ℕ)
    → passes is_clean (get core.blocks.cached dropped) ≡ true → len core.blocks.cached ≡ core.settings.cache_size
    → after ≡ without core.blocks dropped
    → (AllIdle core.blocks.cached → AllIdle after.cached) × ((block : ℕ) → get core.blocks.cached block ≡ None
    → steps_left_in after block < steps_left_in core.blocks block) × KeepsRequests core.blocks.cached after.cached
drop_leads core after dropped clean full gone =
    let m = core.blocks.cached in
    let entry = clean_entry (get m dropped) clean in
    let none = clean_requests (get m dropped) clean in (
      λ idle. subst (λ (c : CacheState). AllIdle c.cached) (sym gone) (idle_gone m dropped (idle_others m dropped idle)),
      λ block missing. subst (λ (c : CacheState). steps_left_in c block < steps_left_in core.blocks block) (sym gone)
          (closer_dropped core.blocks dropped block entry.0 entry.1 entry.2 missing core.its_cache.fits
          (lt_false (len m) core.blocks.room (full ∙ sym core.its_cache.room))),
      subst (λ (c : CacheState). KeepsRequests m c.cached) (sym gone) (keeps_gone m dropped none.0 none.1),
    )

-- a request of a block that is open is waited for
pub busy_waits : (mark : Option ℕ) (core : Core) (block : ℕ) → is_idle_in (get core.blocks.cached block) ≡ false
    → LeadsToWait mark core core (Busy block)
busy_waits mark core block open_ = record {
  blocks = refl;
  window = refl;
  idle = λ idle. absurd (never (is_idle_in (get core.blocks.cached block)) open_ (idle block));
  off = λ off. tt;
} where
  never : (t : Bool) → t ≡ false → t ≡ true → ⊥
  never t no_ yes_ = cc

pub asked_open : (found : Option Cached) → passes is_held found ≡ false → is_none found ≡ false
    → is_idle_in found ≡ false
asked_open None held missing = absurd (cc)
asked_open (Some entry) held missing = by entry.state held where
  by : (state : State) → is_held state ≡ false → is_idle_by state ≡ false
  by (Reading get_) held_ = refl
  by Clean held_ = absurd (cc)
  by (Dirty stamp since) held_ = absurd (cc)
  by (Writing put stamp) held_ = refl
  by (Writing2 put stamp later since) held_ = refl

pub writing_open : (mark block rank : ℕ) (found : Option Cached) → rank_of (writing_rank mark) block found ≡ Some rank
    → is_idle_in found ≡ false
writing_open mark block rank None is = absurd (cc)
writing_open mark block rank (Some entry) is = by entry.state is where
  by : (state : State) → rank_of (writing_rank mark) block (Some (record entry { state = state })) ≡ Some rank
      → is_idle_by state ≡ false
  by (Reading get_) is_ = absurd (cc)
  by Clean is_ = absurd (cc)
  by (Dirty stamp since) is_ = absurd (cc)
  by (Writing put stamp) is_ = refl
  by (Writing2 put stamp later since) is_ = refl

-- the next PUT where as many blocks are dirty as may be
dirty_some : (settings : Settings) (m : CachedBlocks) → is_too_dirty settings m ≡ true → 0 < count_in is_dirty m
dirty_some settings m too = by settings.max_dirty (count_in is_dirty m) too where
  by : (a b : ℕ) → (not (nat_eq a 0) && nat_le a b) ≡ true → 0 < b
  by a b is = grind (arith, nat_tests)

pub dirty_leads : (old new : Core) (pass : ℕ) (out : List ℕ) (answer : Result PutJob Why)
    → is_too_dirty old.settings old.blocks.cached ≡ true → PutLeads None old new pass out answer
    → DirtyLeads old new pass out answer
dirty_leads old new pass out (Ok job) too leads = leads
dirty_leads old new pass out (Err why) too leads =
    owing_waits None old new why
    (λ idle is. dirty_counted old (dirty_some old.settings old.blocks.cached too)) leads

-- a write goes on
pub write_put_leads : (old new : Core) (pass block : ℕ) (out : List ℕ) (answer : Result PutJob Why) (step : WriteStep)
    → step ≡ write_put answer → DirtyLeads old new pass out answer → WriteLeads old new pass block out step
write_put_leads old new pass block out (Ok job) step is leads = rw is leads
write_put_leads old new pass block out (Err why) step is leads = rw is leads

pub write_room_leads : (old new : Core) (pass block : ℕ) (out : List ℕ) (made : Room) (step : WriteStep)
    → step ≡ write_room made → get old.blocks.cached block ≡ None → RoomLeads old new pass out made
    → WriteLeads old new pass block out step
write_room_leads old new pass block out (room.Dropped dropped) step is missing leads = rw is (leads block missing)
write_room_leads old new pass block out (room.Put job) step is missing leads = rw is leads
write_room_leads old new pass block out (room.Wait why) step is missing leads = rw is leads
