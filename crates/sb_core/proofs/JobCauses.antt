-- Each answer to a worker has its cause in the history.
use Rattle.std.proofs.Common.{ℕ, ◌≡◌, ◌<◌, ◌≤◌, inl, inr, Bool, true, false, List}
use Rattle.std.proofs.Common.{Option, Some, None, is_some, refl, sym, ◌∙◌, ap, subst, arith}
use Rattle.std.specs.FinMap.{get}
use Rattle.sb_base.specs.declared.entry.Entry.{Entry}
use Rattle.sb_history.specs.Eviction.{is_clean, waits_unverified, last_use, lightest, victim_of}
use Rattle.sb_blocks.specs.declared.cached.State.{State}
use Rattle.sb_blocks.specs.declared.cached.State.TheVariants.{Reading, Clean, Dirty, Writing, Writing2}
use Rattle.sb_blocks.specs.declared.cached.Cached.{Cached}
use Rattle.sb_blocks.specs.Cached as cached
use Rattle.sb_blocks.specs.Cached.{passes, use_in, reading_of}
use Rattle.sb_blocks.specs.Caches.{CachedBlocks}
use Rattle.sb_blocks.specs.Orders.{rank_of, unused_rank, FirstBlockIs}
use Rattle.sb_core.specs.declared.machine.Core.{Core}
use Rattle.sb_core.specs.declared.step.JobStep.{JobStep}
use Rattle.sb_core.specs.declared.step.JobStep.TheVariants as job
use Rattle.sb_core.specs.Represents.{nothing_found, BlockStands}
use Rattle.sb_core.specs.Cores.{Represents, closed_of}
use Rattle.sb_core.specs.Standing.{StandsFor}
use Rattle.sb_core.specs.Jobs.{PutsJob, HasPutJob, DropsUnused}
use Rattle.sb_core.specs.Jobs.{HasJob, ComesAt, OpenJobRule, JobRule}
use Rattle.sb_core.specs.JobCauses.{IsFirstDue, HasDue, IsUnusedVictim, HasWork, WorksSo, WorkCause, JobCause}
use Rattle.sb_core.specs.JobCauses.{JobsHaveCauses}
use Rattle.sb_core.proofs.Histories.{none_unverified, lowest_none}
use Rattle.sb_core.proofs.Counts.{clean_is, victim_is}
use Rattle.sb_core.proofs.OwnBlock.{with_state}
use Rattle.sb_core.proofs.Lightest.{Within, lightest_within}
use Rattle.sb_core.proofs.LeastWeight.{IsLeast, lightest_least}
use Rattle.sb_core.proofs.WorkerEvents.{unused_due}
use Rattle.sb_core.proofs.DueBlocks.{due_of, due_back}

-- what comes by one word comes by another
comes_so : (P Q : ℕ → Type 0) (now until : ℕ) → ((reading : ℕ) → P reading → Q reading)
    → ((reading : ℕ) → Q reading → P reading) → ComesAt P now until → ComesAt Q now until
comes_so P Q now until there back comes = record {
  not_yet = λ is. comes.not_yet (back now is);
  before = λ reading le less is. comes.before reading le less (back reading is);
  comes = λ less. there until (comes.comes less);
  limit = comes.limit;
}

-- a clean block has a place in the order of uses
clean_rank : (size : ℕ) (past : List Entry) (block : ℕ) (found : Option Cached) → BlockStands size past block found
    → passes cached.is_clean found ≡ true
    → (rank_of unused_rank block found ≡ Some (last_use past block).place)
    × (reading_of (use_in found) ≡ Some (last_use past block).reading)
clean_rank size past block None stands clean = absurd (cc)
clean_rank size past block (Some entry) stands clean = by entry.state refl clean where
  by : (state : State) → entry.state ≡ state → cached.is_clean state ≡ true
      → (rank_of unused_rank block (Some entry) ≡ Some (last_use past block).place)
      × (reading_of (use_in (Some entry)) ≡ Some (last_use past block).reading)
  by (Reading get_) is clean_ = absurd (cc)
  by Clean is clean_ =
      let here = with_state size past block entry Clean is stands in
      (rw is (ap (λ u. Some u.place) (sym here.used)), rw is (ap (λ u. Some u.reading) (sym here.used)))
  by (Dirty stamp since) is clean_ = absurd (cc)
  by (Writing put stamp) is clean_ = absurd (cc)
  by (Writing2 put stamp later since) is clean_ = absurd (cc)

module _ (core : Core) (past : List Entry) (stands : StandsFor core past) where
  abbrev s : Represents core past
  s = stands.represents

  abbrev m : CachedBlocks
  m = core.blocks.cached

  abbrev size : ℕ
  size = core.geometry.block_size

  -- the first due block that may be put
  first_due : (now block : ℕ) → PutsJob core.window core.settings core.last_mark m now block
      → IsFirstDue core.geometry core.settings past core.window now block
  first_due now block it =
      let mine = due_of core past stands now block it.0 it.1.ranks_so in
      record {
        due = mine.0;
        ready = mine.1;
        oldest = λ other due ready. (let theirs = due_back core past stands now other due ready in
            let less = it.1.least other theirs.0 theirs.1 in
            let one = mine.2 in let two = theirs.2 in omega (arith, less, one, two));
        lowest = λ other due ready tie. (let theirs = due_back core past stands now other due ready in
            it.1.lowest other (theirs.1 ∙ ap Some (sym theirs.2 ∙ tie ∙ mine.2)));
      }

  has_due : (now : ℕ) → HasPutJob core.window core.settings core.last_mark m now
      → HasDue core.geometry core.settings past core.window now
  has_due now it = (let mine = due_of core past stands now it.0 it.1 it.2 in (it.0, mine.0, mine.1))

  has_put : (now : ℕ) → HasDue core.geometry core.settings past core.window now
      → HasPutJob core.window core.settings core.last_mark m now
  has_put now it = (let mine = due_back core past stands now it.0 it.1 it.2 in (it.0, mine.0, mine.1))

  -- the victim
  unused_of : (now block : ℕ) → DropsUnused core.settings m now block
      → IsUnusedVictim core.geometry core.settings past now block
  unused_of now block drops_ = (
    victim_is core.geometry past m s.on_disk s.blocks drops_.victim.0 block drops_.victim.1,
    unused_due core now block core.reading core.place past s drops_,
  )

  abbrev lightest_clean : Option ℕ
  lightest_clean = lightest (is_clean size nothing_found past) (λ block. (last_use past block).place) core.geometry.blocks

  none_waits : (b : ℕ) → waits_unverified nothing_found past b ≡ false
  none_waits b = rw (none_unverified nothing_found (λ b. refl) past b) refl

  is_lightest : victim_of core.geometry.block_size core.geometry.blocks nothing_found past ≡ lightest_clean
  is_lightest = rw (lowest_none (waits_unverified nothing_found past) none_waits core.geometry.blocks) refl

  clean_so : (block : ℕ) → is_clean size nothing_found past block ≡ true → passes cached.is_clean (get m block) ≡ true
  clean_so block is = sym (clean_is size past block (get m block) (s.blocks block)) ∙ is

  rank_clean : (block rank : ℕ) → rank_of unused_rank block (get m block) ≡ Some rank
      → (is_clean size nothing_found past block ≡ true) × (rank ≡ (last_use past block).place)
      × (block < core.geometry.blocks)
  rank_clean block rank is = (
    clean_is size past block (get m block) (s.blocks block) ∙ passed,
    same rank (last_use past block).place (sym is ∙ (clean_rank size past block (get m block) (s.blocks block) passed).0),
    s.on_disk block (held (get m block) passed),
  ) where
    passed : passes cached.is_clean (get m block) ≡ true
    passed = Rattle.sb_core.proofs.Counts.rank_clean size past block (get m block) rank is

    same : (x y : ℕ) → Some x ≡ Some y → x ≡ y
    same x y is_ = cc

    held : (found : Option Cached) → passes cached.is_clean found ≡ true → is_some found ≡ true
    held None is_ = absurd (cc)
    held (Some entry) is_ = refl

  victim_back : (block : ℕ) → lightest_clean ≡ Some block
      → (is_clean size nothing_found past block ≡ true) × FirstBlockIs unused_rank m (Some block)
  victim_back block is = (
    clean,
    (
      (last_use past block).place,
      record {
        ranks_so = (clean_rank size past block (get m block) (s.blocks block) (clean_so block clean)).0;
        least = λ other theirs has. (let so = rank_clean other theirs has in
            let le = (least other so.2 so.0).0 in let at = so.1 in omega (arith, le, at));
        lowest = λ other has. (let so = rank_clean other (last_use past block).place has in
            (least other so.2 so.0).1 (sym so.1));
      },
    ),
  ) where
    clean : is_clean size nothing_found past block ≡ true
    clean = (subst (Within (is_clean size nothing_found past) core.geometry.blocks) is
        (lightest_within (is_clean size nothing_found past) (λ b. (last_use past b).place) core.geometry.blocks)).1

    least : (o : ℕ) → o < core.geometry.blocks → is_clean size nothing_found past o ≡ true
        → ((last_use past block).place ≤ (last_use past o).place)
        × ((last_use past o).place ≡ (last_use past block).place → block ≤ o)
    least = subst (IsLeast (is_clean size nothing_found past) (λ b. (last_use past b).place) core.geometry.blocks) is
        (lightest_least (is_clean size nothing_found past) (λ b. (last_use past b).place) core.geometry.blocks)

  unused_back : (now block : ℕ) → IsUnusedVictim core.geometry core.settings past now block
      → DropsUnused core.settings m now block
  unused_back now block it =
      let victim = victim_back block (sym is_lightest ∙ it.0) in
      record {
        victim = victim.1;
        timed = it.1.timed;
        used = (last_use past block).reading;
        reading = (clean_rank size past block (get m block) (s.blocks block) (clean_so block victim.0)).1;
        old = it.1.old;
      }

  -- what a worker has to do by the cache is what it has to do by the history
  has_work : (now : ℕ) → HasJob core.window core.settings core.last_mark m now
      → HasWork core.geometry core.settings past core.window now
  has_work now it = elim it [
    | inl put ↦ inl (has_due now put)
    | inr drop ↦ inr (drop.0, unused_of now drop.0 drop.1)
  ]

  has_job : (now : ℕ) → HasWork core.geometry core.settings past core.window now
      → HasJob core.window core.settings core.last_mark m now
  has_job now it = elim it [
    | inl due ↦ inl (has_put now due)
    | inr unused ↦ inr (unused.0, unused_back now unused.0 unused.1)
  ]

  works_so : (now : ℕ) (step : JobStep) → OpenJobRule core.window core.settings core.last_mark m now step
      → WorksSo core.geometry core.settings past core.window now step
  works_so now job.Closed rule = rule
  works_so now (job.Put put) rule = first_due now put.block rule
  works_so now (job.Dropped block) rule =
      ((λ due. (let put = has_put now due in never (rule.0 put.0) put.2)), unused_of now block rule.1) where
        never : {rank : Option ℕ} {since : ℕ} → rank ≡ None → rank ≡ Some since → ⊥
        never none some = cc
  works_so now (job.Sleep until) rule =
      comes_so (HasJob core.window core.settings core.last_mark m)
      (HasWork core.geometry core.settings past core.window) now until has_work has_job rule

  works : (now : ℕ) (step : JobStep) → closed_of core ≡ false
      → OpenJobRule core.window core.settings core.last_mark m now step
      → WorkCause core.geometry core.settings past now step
  works now step unclosed rule = record {
    unclosed = sym stands.closed ∙ unclosed;
    window = core.window;
    is_window = core.its_window;
    puts = s.last_puts;
    rule = works_so now step rule;
  }

  by_closed : (now : ℕ) (step : JobStep) (closed : Bool) → closed_of core ≡ closed
      → JobRule core.window core.settings core.last_mark m now closed step
      → JobCause core.geometry core.settings past now step
  by_closed now step true is rule =
      subst (JobCause core.geometry core.settings past now) (sym rule) (sym stands.closed ∙ is)
  by_closed now job.Closed false is rule = absurd rule
  by_closed now (job.Put put) false is rule = works now (job.Put put) is rule
  by_closed now (job.Dropped block) false is rule = works now (job.Dropped block) is rule
  by_closed now (job.Sleep until) false is rule = works now (job.Sleep until) is rule

pub jobs_have_causes : JobsHaveCauses
jobs_have_causes core past now step stands answer =
    by_closed core past stands now step (closed_of core) refl answer
