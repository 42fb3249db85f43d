-- Which dirty blocks are due, by the cache and by the history.
use Rattle.std.proofs.Common.{ℕ, suc, ◌≡◌, ◌+◌, ◌<◌, ◌≤◌, ◌⊎◌, inl, inr, Bool, true, false, ◌||◌, if◌then◌else◌, List, [], ◌∷◌}
use Rattle.std.proofs.Common.{min, Option, Some, None, is_some, refl, sym, ◌∙◌, ap, subst, arith}
use Rattle.std.specs.Prelude.{nat_le, IfSome}
use Rattle.std.proofs.lemmas.Bool.{leb-true}
use Rattle.std.proofs.lemmas.Bool.Decides.{nat_tests}
use Rattle.std.specs.FinMap.{get}
use Rattle.sb_base.specs.declared.geometry.Geometry.{Geometry}
use Rattle.sb_base.specs.declared.settings.Settings.{Settings}
use Rattle.sb_base.specs.declared.entry.Entry.{Entry}
use Rattle.sb_base.specs.declared.entry.EntryKind.{EntryKind}
use Rattle.sb_base.specs.declared.entry.EntryKind.TheVariants as kind
use Rattle.sb_history.specs.Flushes.{last_number, flushes_begun, flushes_after, flush_place}
use Rattle.sb_history.specs.Writes as writes
use Rattle.sb_history.specs.Writes.{unacked_writes, dirty_since, is_stamped, is_stamped_by}
use Rattle.sb_history.specs.AccessRules.{MayFollow, FollowsAccessRules}
use Rattle.sb_history.specs.CachePolicy.{IsAged, IsFlushed, IsTooDirty}
use Rattle.sb_window.specs.declared.window.PutWhen.TheVariants as when
use Rattle.sb_window.specs.Windows.{put_when}
use Rattle.sb_blocks.specs.declared.cached.State.TheVariants.{Dirty}
use Rattle.sb_blocks.specs.declared.cached.Cached.{Cached}
use Rattle.sb_blocks.specs.Cached as cached
use Rattle.sb_blocks.specs.Caches.{CachedBlocks, count_in}
use Rattle.sb_blocks.specs.Orders.{rank_of}
use Rattle.sb_core.specs.declared.machine.Core.{Core}
use Rattle.sb_core.specs.Represents.{nothing_found, since_of, BlockStands, IsStampOf}
use Rattle.sb_core.specs.Rules.{ready_by, ready_if}
use Rattle.sb_core.specs.Cores.{Represents}
use Rattle.sb_core.specs.Writing.{is_too_dirty}
use Rattle.sb_core.specs.Standing.{last_mark_after, last_mark_in, StandsFor}
use Rattle.sb_core.specs.Jobs.{is_given, is_due, due_by, job_ranks}
use Rattle.sb_core.specs.JobCauses.{IsDueBlock}
use Rattle.sb_core.proofs.Histories.{flush_began}
use Rattle.sb_core.proofs.Counts.{dirty_is, count_dirty, too_dirty}
use Rattle.sb_core.proofs.OwnBlock.{with_state}
use Rattle.sb_core.proofs.Changing as changing
use Rattle.sb_core.proofs.CoverLemmas.{stamped_is}
use Rattle.sb_core.proofs.WriteCauses.{limit_some, limit_reached, limit_true}
use Rattle.sb_core.proofs.WorkerEvents.{JobFacts, job_facts, last_begun, given_mark, or_cases}

-- the mark of the last flush is the greatest that was given
abbrev LastIs : Option ℕ → ℕ → Type 0
LastIs None begun = begun ≡ 0
LastIs (Some mark) begun = (before : ℕ) × (begun ≡ suc before) × (mark ≡ min before last_number)

last_after : (geometry : Geometry) (settings : Settings) (past : List Entry) (pass now : ℕ) (k : EntryKind)
    → MayFollow geometry settings nothing_found past pass now k → LastIs (last_mark_in past) (flushes_begun past)
    → LastIs (last_mark_after k (last_mark_in past)) (flushes_after k (flushes_begun past))
last_after geometry settings past pass now (kind.FlushBegin mark) may before = (flushes_begun past, refl, may)
last_after geometry settings past pass now k may before = before

last_is : (geometry : Geometry) (settings : Settings) (past : List Entry)
    → FollowsAccessRules geometry settings nothing_found past → LastIs (last_mark_in past) (flushes_begun past)
last_is geometry settings [] rules = refl
last_is geometry settings (entry ∷ past) rules =
    last_after geometry settings past entry.pass entry.reading entry.kind rules.0
    (last_is geometry settings past rules.2)

given_by : (last : Option ℕ) (begun mark stamp : ℕ) → LastIs last begun → mark < begun → mark ≤ last_number
    → stamp ≤ mark → is_given last stamp ≡ true
given_by None begun mark stamp is below least covers = absurd (omega (arith, is, below))
given_by (Some last) begun mark stamp is below least covers =
    let count = is.1 in
    let at = is.2 in
    let le : stamp ≤ last = omega (arith, count, at, below, least, covers) in
    grind (arith, nat_tests)

or_first : (a b c : Bool) → a ≡ true → (a || (b || c)) ≡ true
or_first a b c is = ap (λ t. t || (b || c)) is

or_second : (a b c : Bool) → b ≡ true → (a || (b || c)) ≡ true
or_second true b c is = refl
or_second false b c is = ap (λ t. t || c) is

or_third : (a b c : Bool) → c ≡ true → (a || (b || c)) ≡ true
or_third true b c is = refl
or_third false true c is = refl
or_third false false c is = is

module _ (core : Core) (past : List Entry) (stands : StandsFor core past) where
  abbrev s : Represents core past
  s = stands.represents

  abbrev m : CachedBlocks
  m = core.blocks.cached

  abbrev size : ℕ
  size = core.geometry.block_size

  abbrev rank_at : ℕ → ℕ → Option ℕ
  rank_at now block = rank_of (job_ranks core.window core.settings core.last_mark m now) block (get m block)

  -- too many blocks are dirty
  too_true : is_too_dirty core.settings m ≡ true → IsTooDirty core.geometry core.settings nothing_found past
  too_true is =
      too_dirty core.geometry past m s.on_disk s.blocks core.settings
      (limit_some core.settings.max_dirty (count_in cached.is_dirty m) is)
      (limit_reached core.settings.max_dirty (count_in cached.is_dirty m) is)

  too_back : IsTooDirty core.geometry core.settings nothing_found past → is_too_dirty core.settings m ≡ true
  too_back too =
      let count_ = count_dirty core.geometry past m s.on_disk s.blocks in
      let reached = too.1 in
      limit_true core.settings.max_dirty (count_in cached.is_dirty m) too.0 (omega (arith, count_, reached))

  -- a block that a worker may put is due
  pub due_of : (now block since : ℕ) → rank_at now block ≡ Some since
      → IsDueBlock core.geometry core.settings past now block × (put_when core.window block now ≡ when.Now)
      × (dirty_since size nothing_found past block ≡ since)
  due_of now block since ranked = ((dirty, due), facts.ready, since_so) where
    facts : JobFacts core.window core.settings now core.last_mark (is_too_dirty core.settings m) block since (get m block)
    facts = job_facts core.window core.settings now core.last_mark (is_too_dirty core.settings m) block since
        (get m block) ranked

    dirty : writes.is_dirty size nothing_found past block ≡ true
    dirty = dirty_is size past block (get m block) (s.blocks block) ∙ facts.dirty

    since_so : dirty_since size nothing_found past block ≡ since
    since_so = subst (λ o. IfSome o (λ reading. since_of past block (unacked_writes size nothing_found past block)
        ≡ reading)) facts.since_is (s.blocks block).since

    stamped : IsStampOf past (unacked_writes size nothing_found past block) (Some facts.stamp)
    stamped = subst (λ o. IsStampOf past (unacked_writes size nothing_found past block) o) facts.stamp_is
        (s.blocks block).stamp

    aged : since + core.settings.write_delay ≤ now → IsAged core.geometry core.settings nothing_found past now block
    aged old = (let is = since_so in omega (arith, is, old))

    flushed : (it : (mark : ℕ) × (core.last_mark ≡ Some mark) × (facts.stamp ≤ mark))
        → IsFlushed core.geometry nothing_found past block
    flushed it =
        let covers = it.2 in
        let le : nat_le facts.stamp it.0 ≡ true = grind (arith, nat_tests) in (
          it.0,
          stamped_is size past block it.0 facts.stamp stamped
              (last_begun past it.0 (sym stands.last_mark ∙ it.1)) ∙ le,
        )

    due : IsAged core.geometry core.settings nothing_found past now block
        ⊎ (IsFlushed core.geometry nothing_found past block
        ⊎ IsTooDirty core.geometry core.settings nothing_found past)
    due = elim (or_cases (nat_le (since + core.settings.write_delay) now) (is_given core.last_mark facts.stamp)
        (is_too_dirty core.settings m) facts.due) [
          | inl old ↦ inl (aged (leb-true (since + core.settings.write_delay) now old))
          | inr (inl given) ↦ inr (inl (flushed (given_mark core.last_mark facts.stamp given)))
          | inr (inr too) ↦ inr (inr (too_true too))
        ]

  -- and one that is due may be put by a worker
  begun_some : (mark : ℕ) (begun : Option ℕ) (unacked : List ℕ) → is_stamped_by mark begun unacked ≡ true
      → (place : ℕ) × (begun ≡ Some place)
  begun_some mark None unacked is = absurd (cc)
  begun_some mark (Some place) unacked is = (place, refl)

  pub due_back : (now block : ℕ) → IsDueBlock core.geometry core.settings past now block
      → put_when core.window block now ≡ when.Now
      → (since : ℕ) × (rank_at now block ≡ Some since) × (dirty_since size nothing_found past block ≡ since)
  due_back now block due ready = by (get m block) refl (s.blocks block) where
    given : (mark stamp : ℕ) → IsStampOf past (unacked_writes size nothing_found past block) (Some stamp)
        → is_stamped size nothing_found past mark block ≡ true → is_given core.last_mark stamp ≡ true
    given mark stamp is stamped =
        let began = begun_some mark (flush_place past mark) (unacked_writes size nothing_found past block) stamped in
        let covers = sym (stamped_is size past block mark stamp is (ap is_some began.1)) ∙ stamped in
        let least = flush_began core.geometry core.settings nothing_found past mark began.0 s.rules began.1 in
        subst (λ last. is_given last stamp ≡ true) (sym stands.last_mark)
        (given_by (last_mark_in past) (flushes_begun past) mark stamp
        (last_is core.geometry core.settings past s.rules) least.1 least.2 (leb-true stamp mark covers))

    is_due_so : (stamp since : ℕ) → IsStampOf past (unacked_writes size nothing_found past block) (Some stamp)
        → dirty_since size nothing_found past block ≡ since
        → is_due core.settings now core.last_mark (is_too_dirty core.settings m) stamp since ≡ true
    is_due_so stamp since stamped is = elim due.1 [
      | inl old ↦ or_first (nat_le (since + core.settings.write_delay) now) (is_given core.last_mark stamp)
          (is_too_dirty core.settings m) (aged old)
      | inr (inl flushed) ↦ or_second (nat_le (since + core.settings.write_delay) now) (is_given core.last_mark stamp)
          (is_too_dirty core.settings m) (given flushed.0 stamp stamped flushed.1)
      | inr (inr too) ↦ or_third (nat_le (since + core.settings.write_delay) now) (is_given core.last_mark stamp)
          (is_too_dirty core.settings m) (too_back too)
    ] where
      aged : dirty_since size nothing_found past block + core.settings.write_delay ≤ now
          → nat_le (since + core.settings.write_delay) now ≡ true
      aged old =
          let le : since + core.settings.write_delay ≤ now = omega (arith, is, old) in
          grind (arith, nat_tests)

    by : (found : Option Cached) → get m block ≡ found → BlockStands size past block found
        → (since : ℕ) × (rank_of (job_ranks core.window core.settings core.last_mark m now) block found ≡ Some since)
        × (dirty_since size nothing_found past block ≡ since)
    by None is stands_ =
        absurd (let clash = sym (dirty_is size past block None stands_) ∙ due.0 in cc)
    by (Some entry) is stands_ =
        let dirty = sym (dirty_is size past block (Some entry) stands_) ∙ due.0 in
        let at = changing.dirty_is entry (Some entry) refl dirty in
        let here = with_state size past block entry (Dirty at.0 at.1) at.2 stands_ in
        let due_now = is_due_so at.0 at.1 here.stamp here.since in (
          at.1,
          ap (λ st. ready_if (put_when core.window block now)
              (due_by core.settings now core.last_mark (is_too_dirty core.settings m) st)) at.2
              ∙ ap (λ t. ready_if (put_when core.window block now) (if t then Some at.1 else None)) due_now
              ∙ ap (λ w. ready_by w at.1) ready,
          here.since,
        )
