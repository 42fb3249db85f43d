-- Which dirty blocks a flush covers, by the cache and by the history.
use Rattle.std.proofs.Common.{ℕ, ◌≡◌, Bool, true, false, not, nat_le, if◌then◌else◌, List}
use Rattle.std.proofs.Common.{Option, Some, None, is_some, refl, sym, ◌∙◌, ap, arith}
use Rattle.std.specs.Prelude.{nat_lt}
use Rattle.std.proofs.lemmas.Bool.Decides.{nat_tests}
use Rattle.sb_base.specs.declared.entry.Entry.{Entry}
use Rattle.sb_history.specs.Flushes.{flush_place}
use Rattle.sb_history.specs.Writes as writes
use Rattle.sb_history.specs.Writes.{unacked_writes, dirty_since, is_stamped, is_stamped_by, is_unstamped_by}
use Rattle.sb_window.specs.declared.window.PutWhen.{PutWhen}
use Rattle.sb_window.specs.declared.window.PutWhen.TheVariants as when
use Rattle.sb_window.specs.Windows.{WindowState, put_when}
use Rattle.sb_blocks.specs.declared.cached.State.{State}
use Rattle.sb_blocks.specs.declared.cached.State.TheVariants.{Reading, Clean, Dirty, Writing, Writing2}
use Rattle.sb_blocks.specs.declared.cached.Cached.{Cached}
use Rattle.sb_blocks.specs.Cached.{is_dirty, since_in}
use Rattle.sb_blocks.specs.Orders.{rank_of}
use Rattle.sb_core.specs.Represents.{nothing_found, BlockStands, IsStampOf}
use Rattle.sb_core.specs.Rules.{is_covered, owing_by, owing_rank, ready_by, ready_if, ready_rank}
use Rattle.sb_core.specs.Causes.{IsCovered}
use Rattle.sb_core.proofs.Counts.{dirty_is}
use Rattle.sb_core.proofs.OwnBlock.{with_state}

-- the flush of a mark has begun, where there is one
abbrev pub HasBegun : List Entry → Option ℕ → Type 0
HasBegun past None = Unit {0}
HasBegun past (Some mark) = is_some (flush_place past mark) ≡ true

not_above : (stamp mark : ℕ) → not (nat_lt mark stamp) ≡ nat_le stamp mark
not_above stamp mark = grind (arith, nat_tests)

-- a stamp is covered just where the flush has to wait for the block
pub stamped_is : (size : ℕ) (past : List Entry) (block mark stamp : ℕ)
    → IsStampOf past (unacked_writes size nothing_found past block) (Some stamp)
    → is_some (flush_place past mark) ≡ true → is_stamped size nothing_found past mark block ≡ nat_le stamp mark
stamped_is size past block mark stamp stands began = by (flush_place past mark) refl began where
  by : (begun : Option ℕ) → flush_place past mark ≡ begun → is_some begun ≡ true
      → is_stamped_by mark begun (unacked_writes size nothing_found past block) ≡ nat_le stamp mark
  by None is some = absurd (cc)
  by (Some place) is some = ap not (stands.marks mark place is) ∙ not_above stamp mark

-- and a block without a stamp is not
pub unstamped_is : (size : ℕ) (past : List Entry) (block mark : ℕ)
    → IsStampOf past (unacked_writes size nothing_found past block) None
    → is_some (flush_place past mark) ≡ true → is_stamped size nothing_found past mark block ≡ false
unstamped_is size past block mark stands began = by (flush_place past mark) refl began where
  by : (begun : Option ℕ) → flush_place past mark ≡ begun → is_some begun ≡ true
      → is_stamped_by mark begun (unacked_writes size nothing_found past block) ≡ false
  by None is some = absurd (cc)
  by (Some place) is some = ap not (stands.marks mark place is)

-- a covered block by the cache is one by the history
if_some : (t : Bool) (s since : ℕ) → (if t then Some s else None) ≡ Some since → (t ≡ true) × (s ≡ since)
if_some true s since is = (refl, same s since is) where
  same : (x y : ℕ) → Some x ≡ Some y → x ≡ y
  same x y is_ = cc
if_some false s since is = absurd (cc)

cover_mark : (size : ℕ) (past : List Entry) (mark : Option ℕ) (block stamp : ℕ) → HasBegun past mark
    → IsStampOf past (unacked_writes size nothing_found past block) (Some stamp)
    → writes.is_dirty size nothing_found past block ≡ true → is_covered mark stamp ≡ true → IsCovered size past mark block
cover_mark size past None block stamp began stands dirty covers = dirty
cover_mark size past (Some mark) block stamp began stands dirty covers =
    (dirty, stamped_is size past block mark stamp stands began ∙ covers)

pub covered_of : (size : ℕ) (past : List Entry) (mark : Option ℕ) (block since : ℕ) (found : Option Cached)
    → HasBegun past mark → BlockStands size past block found → rank_of (owing_rank mark) block found ≡ Some since
    → IsCovered size past mark block × (dirty_since size nothing_found past block ≡ since)
covered_of size past mark block since None began stands owing = absurd (cc)
covered_of size past mark block since (Some entry) began stands owing = by entry.state refl owing where
  by : (state : State) → entry.state ≡ state → owing_by mark state ≡ Some since
      → IsCovered size past mark block × (dirty_since size nothing_found past block ≡ since)
  by (Reading get_) is owes = absurd (cc)
  by Clean is owes = absurd (cc)
  by (Dirty stamp s) is owes =
      let here = with_state size past block entry (Dirty stamp s) is stands in
      let so = if_some (is_covered mark stamp) s since owes in
      let dirty = dirty_is size past block (Some entry) stands ∙ ap is_dirty is in
      (cover_mark size past mark block stamp began here.stamp dirty so.0, here.since ∙ so.1)
  by (Writing put stamp) is owes = absurd (cc)
  by (Writing2 put stamp later s) is owes = absurd (cc)

covers_mark : (size : ℕ) (past : List Entry) (mark : Option ℕ) (block stamp : ℕ) → HasBegun past mark
    → IsStampOf past (unacked_writes size nothing_found past block) (Some stamp) → IsCovered size past mark block
    → (writes.is_dirty size nothing_found past block ≡ true) × (is_covered mark stamp ≡ true)
covers_mark size past None block stamp began stands covered = (covered, refl)
covers_mark size past (Some mark) block stamp began stands covered =
    (covered.0, sym (stamped_is size past block mark stamp stands began) ∙ covered.1)

is_dirty_of : (size : ℕ) (past : List Entry) (mark : Option ℕ) (block : ℕ) → IsCovered size past mark block
    → writes.is_dirty size nothing_found past block ≡ true
is_dirty_of size past None block covered = covered
is_dirty_of size past (Some mark) block covered = covered.0

pub owing_of : (size : ℕ) (past : List Entry) (mark : Option ℕ) (block : ℕ) (found : Option Cached)
    → HasBegun past mark → BlockStands size past block found → IsCovered size past mark block
    → (since : ℕ) × (rank_of (owing_rank mark) block found ≡ Some since)
    × (dirty_since size nothing_found past block ≡ since)
owing_of size past mark block None began stands covered =
    absurd (let clash = sym (dirty_is size past block None stands) ∙ is_dirty_of size past mark block covered in cc)
owing_of size past mark block (Some entry) began stands covered = by entry.state refl where
  dirty : is_dirty entry.state ≡ true
  dirty = sym (dirty_is size past block (Some entry) stands) ∙ is_dirty_of size past mark block covered

  by : (state : State) → entry.state ≡ state
      → (since : ℕ) × (owing_by mark entry.state ≡ Some since) × (dirty_since size nothing_found past block ≡ since)
  by (Reading get_) is = absurd (let clash = sym (ap is_dirty is) ∙ dirty in cc)
  by Clean is = absurd (let clash = sym (ap is_dirty is) ∙ dirty in cc)
  by (Dirty stamp s) is =
      let here = with_state size past block entry (Dirty stamp s) is stands in
      let covers = covers_mark size past mark block stamp began here.stamp covered in
      (s, ap (owing_by mark) is ∙ ap (λ t. if t then Some s else None) covers.1, here.since)
  by (Writing put stamp) is = absurd (let clash = sym (ap is_dirty is) ∙ dirty in cc)
  by (Writing2 put stamp later s) is = absurd (let clash = sym (ap is_dirty is) ∙ dirty in cc)

-- a block that may be put is covered
pub ready_owing : (mark : Option ℕ) (window : WindowState) (now block since : ℕ) (found : Option Cached)
    → rank_of (ready_rank window now mark) block found ≡ Some since
    → (rank_of (owing_rank mark) block found ≡ Some since) × (put_when window block now ≡ when.Now)
ready_owing mark window now block since None is = absurd (cc)
ready_owing mark window now block since (Some entry) is = by (owing_by mark entry.state) is where
  at_now : (at : PutWhen) (s : ℕ) → ready_by at s ≡ Some since → (Some s ≡ Some since) × (at ≡ when.Now)
  at_now when.Now s is_ = (is_, refl)
  at_now when.Busy s is_ = absurd (cc)
  at_now (when.At until) s is_ = absurd (cc)
  at_now (when.Full until) s is_ = absurd (cc)

  by : (owing : Option ℕ) → ready_if (put_when window block now) owing ≡ Some since
      → (owing ≡ Some since) × (put_when window block now ≡ when.Now)
  by None is_ = absurd (cc)
  by (Some s) is_ = at_now (put_when window block now) s is_

-- a covered block is dirty since its rank
pub owing_since : (mark : Option ℕ) (block since : ℕ) (found : Option Cached)
    → rank_of (owing_rank mark) block found ≡ Some since → since_in found ≡ Some since
owing_since mark block since None is = absurd (cc)
owing_since mark block since (Some entry) is = by entry.state is where
  by : (state : State) → owing_by mark state ≡ Some since → since_in (Some (record entry { state = state })) ≡ Some since
  by (Reading get_) is_ = absurd (cc)
  by Clean is_ = absurd (cc)
  by (Dirty stamp s) is_ = ap Some (if_some (is_covered mark stamp) s since is_).1
  by (Writing put stamp) is_ = absurd (cc)
  by (Writing2 put stamp later s) is_ = absurd (cc)
