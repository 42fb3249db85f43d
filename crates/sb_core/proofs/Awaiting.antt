-- What an idle core waits for.
use Rattle.std.proofs.Common.{ℕ, zero, suc, ◌≡◌, ◌≢◌, ◌+◌, ◌<◌, Bool, true, false, nat_eq, if◌then◌else◌, List, [], ◌∷◌, length}
use Rattle.std.proofs.Common.{Option, Some, None, is_some, Err, refl, sym, ◌∙◌, ap, subst, arith}
use Rattle.std.proofs.lemmas.Bool.Decides.{nat_tests}
use Rattle.std.proofs.lemmas.Bool.{eqb-true}
use Rattle.std.specs.Ordering.{nat_cmp}
use Rattle.std.specs.FinMap.{find, get, len, entries, get-entries, len-entries}
use Rattle.sb_base.specs.declared.settings.Settings.{Settings}
use Rattle.sb_base.specs.declared.line.Why.{Why}
use Rattle.sb_base.specs.declared.line.Why.TheVariants.{Busy, Spaced, WindowFull, NoRoom}
use Rattle.sb_history.specs.Eviction.{count}
use Rattle.sb_window.specs.declared.window.PutWhen.{PutWhen}
use Rattle.sb_window.specs.declared.window.PutWhen.TheVariants as when
use Rattle.sb_window.specs.Windows.{WindowState, put_when, is_open}
use Rattle.sb_window.specs.Waits.{NoneOpen, MayBeginFrom, EndsAhead}
use Rattle.sb_window.proofs.WaitLemmas.{waits_end}
use Rattle.sb_blocks.specs.declared.cached.State.{State}
use Rattle.sb_blocks.specs.declared.cached.State.TheVariants.{Reading, Clean, Dirty, Writing, Writing2}
use Rattle.sb_blocks.specs.declared.cached.Cached.{Cached}
use Rattle.sb_blocks.specs.Cached.{passes, is_dirty, put_in, put_by}
use Rattle.sb_blocks.specs.Caches.{count_in}
use Rattle.sb_blocks.specs.Orders.{rank_of, unused_rank, NoneRanks}
use Rattle.sb_rows.specs.RowLaws.{found_head}
use Rattle.sb_core.specs.declared.machine.Core.{Core}
use Rattle.sb_core.specs.Rules.{owing_by, owing_rank, ready_if, ready_rank, until_if, until_rank, until_by}
use Rattle.sb_core.specs.Rules.{WaitsFor, PutRule}
use Rattle.sb_core.specs.Cores.{Stays}
use Rattle.sb_core.specs.Leads.{is_idle_by, is_idle_in, IsIdle, one_unless, IsUntil, IsForRequest}
use Rattle.sb_core.specs.Leads.{IsFullInTime, WaitsForWindow, LeadsToWait, IsOwing, PutWaits}
use Rattle.sb_core.proofs.PutLaws.{none_kept}
use Rattle.sb_core.proofs.Counts.{count_cache}
use Rattle.sb_core.proofs.AnyRanks.{any_block, none_any}

-- a dirty block that waits for a reading is covered, and may be put where the window lets it
pub until_owing : (mark : Option ℕ) (window : WindowState) (now block until : ℕ) (found : Option Cached)
    → rank_of (until_rank window now mark) block found ≡ Some until
    → (since : ℕ) × (rank_of (owing_rank mark) block found ≡ Some since)
until_owing mark window now block until None is = absurd (cc)
until_owing mark window now block until (Some entry) is = by (owing_by mark entry.state) is where
  by : (owing : Option ℕ) → until_if (put_when window block now) owing ≡ Some until
      → (since : ℕ) × (owing ≡ Some since)
  by None none = absurd (cc)
  by (Some since) some = (since, refl)

pub owing_until : (mark : Option ℕ) (window : WindowState) (now block since : ℕ) (found : Option Cached)
    → rank_of (owing_rank mark) block found ≡ Some since
    → rank_of (until_rank window now mark) block found ≡ until_by (put_when window block now)
owing_until mark window now block since None is = absurd (cc)
owing_until mark window now block since (Some entry) is = ap (until_if (put_when window block now)) is

pub owing_ready : (mark : Option ℕ) (window : WindowState) (now block since : ℕ) (found : Option Cached)
    → rank_of (owing_rank mark) block found ≡ Some since → put_when window block now ≡ when.Now
    → rank_of (ready_rank window now mark) block found ≡ Some since
owing_ready mark window now block since None is ready = absurd (cc)
owing_ready mark window now block since (Some entry) is ready =
    ap (ready_if (put_when window block now)) is ∙ ap (λ at. ready_if at (Some since)) ready

owing_some : (mark : Option ℕ) (block since : ℕ) (found : Option Cached)
    → rank_of (owing_rank mark) block found ≡ Some since → is_some found ≡ true
owing_some mark block since None is = absurd (cc)
owing_some mark block since (Some entry) is = refl

-- nothing is open in an idle core
idle_put : (found : Option Cached) → is_idle_in found ≡ true → is_some (put_in found) ≡ false
idle_put None idle = refl
idle_put (Some entry) idle = by entry.state idle where
  by : (state : State) → is_idle_by state ≡ true → is_some (put_by state) ≡ false
  by (Reading get_) idle = refl
  by Clean idle = refl
  by (Dirty stamp since) idle = refl
  by (Writing put stamp) idle = absurd (cc)
  by (Writing2 put stamp later since) idle = absurd (cc)

pub none_open : (core : Core) → IsIdle core → NoneOpen core.window
none_open core idle b = by (nat_eq core.window.md5_size 0) refl where
  turned_on : nat_eq core.window.md5_size 0 ≡ false → core.window.md5_size ≢ 0
  turned_on some off = grind (arith, nat_tests)

  by : (t : Bool) → nat_eq core.window.md5_size 0 ≡ t → is_open (get core.window.puts b) ≡ false
  by true off = ap is_open (none_kept core.window b core.its_window.fits (eqb-true core.window.md5_size 0 off))
  by false some =
      core.opens.opened (turned_on some) b ∙ idle_put (get core.blocks.cached b) (idle b)

ends : (core : Core) (block now : ℕ) → IsIdle core → block < core.geometry.blocks
    → EndsAhead core.window block now (put_when core.window block now)
ends core block now idle on =
    waits_end core.window core.geometry.blocks block now core.its_window.fits (none_open core idle)
    (λ some for_ever. record {
      enough = core.its_window.holds_each some for_ever;
      on_disk = on;
      others = core.its_window.on_disk;
    })

-- without a window a put may begin at once
window_on : (window : WindowState) (block now : ℕ) → put_when window block now ≢ when.Now → window.md5_size ≢ 0
window_on window block now later off = later (rw off refl)

at_later : (until : ℕ) (at : PutWhen) → at ≡ when.At until → at ≢ when.Now
at_later until at is now = cc

full_later : (until : ℕ) (at : PutWhen) → at ≡ when.Full until → at ≢ when.Now
full_later until at is now = cc

-- an idle core waits for its window, until the reading at which this block may be put
waits_by : (old new : Core) (mark : Option ℕ) (why : Why) (block since until : ℕ) → Stays old new
    → NoneRanks (ready_rank old.window old.reading mark) old.blocks.cached
    → rank_of (owing_rank mark) block (get old.blocks.cached block) ≡ Some since
    → old.window.md5_size ≢ 0 → IsUntil until why → IsFullInTime old.window.md5_time why
    → MayBeginFrom old.window block old.reading until → WaitsForWindow mark old new why
waits_by old new mark why block since until stays none owing some reason in_time from = record {
  on = λ off. some (old.its_window.size ∙ sym (ap (λ (s : Settings). s.md5_size) stays.rest.settings) ∙ off);
  until = until;
  reason = reason;
  in_time = subst (λ (time : ℕ). IsFullInTime time why)
      (old.its_window.time ∙ sym (ap (λ (s : Settings). s.md5_time) stays.rest.settings)) in_time;
  ahead = omega (arith, stays.rest.reading, from.ahead);
  waits = rw stays.rest.reading
      (ap one_unless (none_any (ready_rank old.window old.reading mark) old.blocks.cached none));
  later = λ reading le. rw (stays.blocks, stays.window) (ap one_unless
      (any_block (ready_rank old.window reading mark) old.blocks.cached block since
      (owing_ready mark old.window reading block since (get old.blocks.cached block) owing (from.later reading le))));
}

not_busy : (core : Core) (block now : ℕ) → IsIdle core → block < core.geometry.blocks
    → until_by (put_when core.window block now) ≡ None → put_when core.window block now ≢ when.Now → ⊥
not_busy core block now idle on none later = by (put_when core.window block now) refl (ends core block now idle on) none where
  by : (at : PutWhen) → put_when core.window block now ≡ at → EndsAhead core.window block now at → until_by at ≡ None → ⊥
  by when.Now is ends_ none_ = later is
  by when.Busy is ends_ none_ = ends_
  by (when.At until) is ends_ none_ = absurd (cc)
  by (when.Full until) is ends_ none_ = absurd (cc)

not_ready : (core : Core) (mark : Option ℕ) (block since : ℕ)
    → NoneRanks (ready_rank core.window core.reading mark) core.blocks.cached
    → rank_of (owing_rank mark) block (get core.blocks.cached block) ≡ Some since
    → put_when core.window block core.reading ≢ when.Now
not_ready core mark block since none owing now =
    never (none block)
    (owing_ready mark core.window core.reading block since (get core.blocks.cached block) owing now) where
      never : {rank : Option ℕ} → rank ≡ None → rank ≡ Some since → ⊥
      never none_ some = cc

-- what the put rule waits for
pub put_waits : (old new : Core) (mark : Option ℕ) (why : Why) → Stays old new
    → PutRule old.window old.reading mark old.blocks.cached (Err why) → PutWaits mark old new why
put_waits old new mark why stays rule = record {
  blocks = stays.blocks;
  window = stays.window;
  idle = λ owing idle. waits why rule.1 owing idle;
  off = λ off. requests why rule.1
      (old.its_window.size ∙ sym (ap (λ (s : Settings). s.md5_size) stays.rest.settings) ∙ off);
} where
  on_disk : (block since : ℕ) → rank_of (owing_rank mark) block (get old.blocks.cached block) ≡ Some since
      → block < old.geometry.blocks
  on_disk block since owing =
      old.its_cache.on_disk block (owing_some mark block since (get old.blocks.cached block) owing)

  requests : (why_ : Why) → WaitsFor old.window old.reading mark old.blocks.cached why_ → old.window.md5_size ≡ 0
      → IsForRequest why_
  requests (Busy block) waits_ off = tt
  requests (Spaced until) waits_ off =
      window_on old.window waits_.0 old.reading (at_later until _ waits_.2) off
  requests (WindowFull until) waits_ off =
      window_on old.window waits_.0 old.reading (full_later until _ waits_.2) off
  requests NoRoom waits_ off = tt

  waits : (why_ : Why) → WaitsFor old.window old.reading mark old.blocks.cached why_ → (why_ ≡ NoRoom → IsOwing mark old.blocks.cached)
      → IsIdle old → WaitsForWindow mark old new why_
  waits (Busy block) waits_ owing idle = absurd waits_
  waits (Spaced until) waits_ owing idle =
      let block = waits_.0 in
      let mine = until_owing mark old.window old.reading block until (get old.blocks.cached block) waits_.1.waits in
      let from = subst (EndsAhead old.window block old.reading) waits_.2
      (ends old block old.reading idle (on_disk block mine.0 mine.1)) in
      waits_by old new mark (Spaced until) block mine.0 until stays rule.0 mine.1
      (window_on old.window block old.reading (at_later until _ waits_.2)) refl tt from
  waits (WindowFull until) waits_ owing idle =
      let block = waits_.0 in
      let mine = until_owing mark old.window old.reading block until (get old.blocks.cached block) waits_.1.waits in
      let from = subst (EndsAhead old.window block old.reading) waits_.2
      (ends old block old.reading idle (on_disk block mine.0 mine.1)) in
      waits_by old new mark (WindowFull until) block mine.0 until stays rule.0 mine.1
      (window_on old.window block old.reading (full_later until _ waits_.2)) refl from.0 from.1
  waits NoRoom waits_ some idle =
      let owing = some refl in
      absurd (not_busy old owing.0 old.reading idle (on_disk owing.0 owing.1 owing.2)
      (sym (owing_until mark old.window old.reading owing.0 owing.1 (get old.blocks.cached owing.0) owing.2)
      ∙ waits_ owing.0) (not_ready old mark owing.0 owing.1 rule.0 owing.2))

pub owing_waits : (mark : Option ℕ) (old new : Core) (why : Why)
    → (IsIdle old → why ≡ NoRoom → IsOwing mark old.blocks.cached) → PutWaits mark old new why → LeadsToWait mark old new why
owing_waits mark old new why owing waits = record {
  blocks = waits.blocks;
  window = waits.window;
  idle = λ idle. waits.idle (owing idle) idle;
  off = waits.off;
}

-- where as many blocks are dirty as may be, one is
some_counted : (test : ℕ → Bool) (n : ℕ) → 0 < count test n → (b : ℕ) × (test b ≡ true)
some_counted test zero some = absurd (omega (arith, some))
some_counted test (suc n) some = by (test n) refl some (some_counted test n) where
  by : (t : Bool) → test n ≡ t → 0 < (if t then 1 + count test n else count test n)
      → (0 < count test n → (b : ℕ) × (test b ≡ true)) → (b : ℕ) × (test b ≡ true)
  by true is some_ more = (n, is)
  by false is some_ more = more some_

dirty_owing : (b : ℕ) (found : Option Cached) → passes is_dirty found ≡ true
    → (since : ℕ) × (rank_of (owing_rank None) b found ≡ Some since)
dirty_owing b None dirty = absurd (cc)
dirty_owing b (Some entry) dirty = by entry.state dirty where
  by : (state : State) → is_dirty state ≡ true → (since : ℕ) × (owing_by None state ≡ Some since)
  by (Reading get_) dirty_ = absurd (cc)
  by Clean dirty_ = absurd (cc)
  by (Dirty stamp since) dirty_ = (since, refl)
  by (Writing put stamp) dirty_ = absurd (cc)
  by (Writing2 put stamp later since) dirty_ = absurd (cc)

pub dirty_counted : (core : Core) → 0 < count_in is_dirty core.blocks.cached → IsOwing None core.blocks.cached
dirty_counted core some =
    let m = core.blocks.cached in
    let all = count_cache is_dirty m core.geometry.blocks core.its_cache.on_disk in
    let one = some_counted (λ b. passes is_dirty (get m b)) core.geometry.blocks (omega (arith, all, some)) in
    let owing = dirty_owing one.0 (get m one.0) one.1 in (one.0, owing.0, owing.1)

-- an idle cache that is full without a clean block has a dirty one
idle_dirty : (b : ℕ) (entry : Cached) → is_idle_in (Some entry) ≡ true → rank_of unused_rank b (Some entry) ≡ None
    → is_dirty entry.state ≡ true
idle_dirty b entry idle none = by entry.state idle none where
  by : (state : State) → is_idle_by state ≡ true
      → rank_of unused_rank b (Some (record entry { state = state })) ≡ None → is_dirty state ≡ true
  by (Reading get_) idle_ none_ = absurd (cc)
  by Clean idle_ none_ = absurd (cc)
  by (Dirty stamp since) idle_ none_ = refl
  by (Writing put stamp) idle_ none_ = absurd (cc)
  by (Writing2 put stamp later since) idle_ none_ = absurd (cc)

some_row : (es : List (ℕ × Cached)) → 0 < length es
    → (b : ℕ) × (entry : Cached) × (find nat_cmp b es ≡ Some entry)
some_row [] some = absurd (omega (arith, some))
some_row (e ∷ es) some = (e.0, e.1, found_head e es)

pub full_owing : (core : Core) → NoneRanks unused_rank core.blocks.cached
    → len core.blocks.cached ≡ core.settings.cache_size → IsIdle core → IsOwing None core.blocks.cached
full_owing core none full idle =
    let m = core.blocks.cached in
    let some = core.its_cache.some in
    let room = core.its_cache.room in
    let rows = len-entries m in
    let one = some_row (entries m) (omega (arith, some, room, full, rows)) in
    let is : get m one.0 ≡ Some one.1 = get-entries m one.0 ∙ one.2 in
    let dirty = idle_dirty one.0 one.1 (sym (ap is_idle_in is) ∙ idle one.0)
    (sym (ap (rank_of unused_rank one.0) is) ∙ none one.0) in
    let owing = dirty_owing one.0 (get m one.0) (ap (passes is_dirty) is ∙ dirty) in (one.0, owing.0, owing.1)
