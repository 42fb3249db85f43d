-- Each answer to a step of a flush has its cause in the history.
use Rattle.std.proofs.Common.{ℕ, ◌≡◌, Bool, true, false, not, nat_le, if◌then◌else◌, List, Option, Some, None}
use Rattle.std.proofs.Common.{Ok, Err, is_some, refl, sym, ◌∙◌, ap}
use Rattle.std.specs.FinMap.{get}
use Rattle.sb_base.specs.declared.line.Why.{Why}
use Rattle.sb_base.specs.declared.line.Why.TheVariants.{Busy, Spaced, WindowFull, NoRoom}
use Rattle.sb_base.specs.declared.entry.Entry.{Entry}
use Rattle.sb_history.specs.Puts.{put_open, puts_of}
use Rattle.sb_history.specs.Flushes.{flush_place}
use Rattle.sb_history.specs.Writes.{is_stamped, is_stamped_by, unacked_writes}
use Rattle.sb_blocks.specs.declared.cached.State.{State}
use Rattle.sb_blocks.specs.declared.cached.State.TheVariants.{Reading, Clean, Dirty, Writing, Writing2}
use Rattle.sb_blocks.specs.declared.cached.Cached.{Cached}
use Rattle.sb_blocks.specs.Cached.{put_in, put_by, stamp_in}
use Rattle.sb_blocks.specs.Orders.{rank_of, writing_by, writing_rank}
use Rattle.sb_core.specs.declared.machine.Core.{Core}
use Rattle.sb_core.specs.declared.step.FlushStep.{FlushStep}
use Rattle.sb_core.specs.declared.step.FlushStep.TheVariants as flush
use Rattle.sb_core.specs.Represents.{nothing_found, BlockStands, is_above}
use Rattle.sb_core.specs.Cores.{Represents}
use Rattle.sb_core.specs.Flushing.{FlushRule, AnswersFlush}
use Rattle.sb_core.specs.Flushing as flushing
use Rattle.sb_core.specs.Causes.{IsBeingPut, FlushWaits, FlushCause, FlushesHaveCauses}
use Rattle.sb_core.proofs.Fields.{some_put}
use Rattle.sb_core.proofs.OwnBlock.{with_state}
use Rattle.sb_core.proofs.FlushEvents.{uncovered}
use Rattle.sb_core.proofs.CoverLemmas.{stamped_is, covered_of}
use Rattle.sb_core.proofs.PutCauses.{put_cause}

if_zero : (t : Bool) (rank : ℕ) → (if t then Some 0 else None) ≡ Some rank → (t ≡ true) × (rank ≡ 0)
if_zero true rank is = (refl, same rank is) where
  same : (x : ℕ) → Some 0 ≡ Some x → x ≡ 0
  same x is_ = cc
if_zero false rank is = absurd (cc)

module _ (core : Core) (past : List Entry) (s : Represents core past) (mark : ℕ)
    (began : is_some (flush_place past mark) ≡ true) where
  abbrev size : ℕ
  size = core.geometry.block_size

  -- a block of which a PUT is open is one that is being put
  open_is : (b : ℕ) (found : Option Cached) → BlockStands size past b found
      → put_open past b ≡ is_some (put_in found)
  open_is b found stands = some_put (puts_of past b) ∙ ap is_some stands.puts

  writing_is : (b rank : ℕ) (found : Option Cached) → BlockStands size past b found
      → rank_of (writing_rank mark) b found ≡ Some rank → IsBeingPut core.geometry past mark b × (rank ≡ 0)
  writing_is b rank None stands is = absurd (cc)
  writing_is b rank (Some entry) stands is = by entry.state refl is where
    by : (state : State) → entry.state ≡ state → writing_by mark state ≡ Some rank
        → IsBeingPut core.geometry past mark b × (rank ≡ 0)
    by (Reading get_) so is_ = absurd (cc)
    by Clean so is_ = absurd (cc)
    by (Dirty stamp since) so is_ = absurd (cc)
    by (Writing put stamp) so is_ =
        let here = with_state size past b entry (Writing put stamp) so stands in
        let covers = if_zero (nat_le stamp mark) rank is_ in
        ((open_is b _ here, stamped_is size past b mark stamp here.stamp began ∙ covers.0), covers.1)
    by (Writing2 put stamp later since) so is_ =
        let here = with_state size past b entry (Writing2 put stamp later since) so stands in
        let covers = if_zero (nat_le stamp mark) rank is_ in
        ((open_is b _ here, stamped_is size past b mark stamp here.stamp began ∙ covers.0), covers.1)

  is_writing : (b : ℕ) (found : Option Cached) → BlockStands size past b found → IsBeingPut core.geometry past mark b
      → rank_of (writing_rank mark) b found ≡ Some 0
  is_writing b None stands being = absurd (let clash = sym (open_is b None stands) ∙ being.0 in cc)
  is_writing b (Some entry) stands being = by entry.state refl where
    opened : is_some (put_by entry.state) ≡ true
    opened = sym (open_is b (Some entry) stands) ∙ being.0

    by : (state : State) → entry.state ≡ state → writing_by mark entry.state ≡ Some 0
    by (Reading get_) so = absurd (let clash = sym (ap (λ st. is_some (put_by st)) so) ∙ opened in cc)
    by Clean so = absurd (let clash = sym (ap (λ st. is_some (put_by st)) so) ∙ opened in cc)
    by (Dirty stamp since) so = absurd (let clash = sym (ap (λ st. is_some (put_by st)) so) ∙ opened in cc)
    by (Writing put stamp) so =
        let here = with_state size past b entry (Writing put stamp) so stands in
        ap (writing_by mark) so
        ∙ ap (λ t. if t then Some 0 else None) (sym (stamped_is size past b mark stamp here.stamp began) ∙ being.1)
    by (Writing2 put stamp later since) so =
        let here = with_state size past b entry (Writing2 put stamp later since) so stands in
        ap (writing_by mark) so
        ∙ ap (λ t. if t then Some 0 else None) (sym (stamped_is size past b mark stamp here.stamp began) ∙ being.1)

  -- a block that the flush doesn't cover
  above_is : (b : ℕ) (found : Option Cached) → BlockStands size past b found → is_above (stamp_in found) mark ≡ true
      → is_stamped size nothing_found past mark b ≡ false
  above_is b found stands above = by (flush_place past mark) refl began where
    by : (begun : Option ℕ) → flush_place past mark ≡ begun → is_some begun ≡ true
        → is_stamped_by mark begun (unacked_writes size nothing_found past b) ≡ false
    by None is some = absurd (cc)
    by (Some place) is some = ap not (stands.stamp.marks mark place is ∙ above)

  never_some : {X : Type 0} (found : Option X) (x : X) → found ≡ None → found ≡ Some x → ⊥
  never_some found x none some = cc

  wait_cause : (now : ℕ) (why : Why) → flushing.FlushWaits core.window now mark core.blocks.cached why
      → FlushWaits core.geometry core.settings past now mark why
  wait_cause now (Busy block) rule =
      let m = core.blocks.cached in
      let mine = writing_is block rule.1.0 (get m block) (s.blocks block) rule.1.1.ranks_so in (
        put_cause core past now (Some mark) (Err NoRoom) s began rule.0,
        mine.0,
        λ other being. rule.1.1.lowest other (is_writing other (get m other) (s.blocks other) being
            ∙ ap Some (sym mine.1)),
      )
  wait_cause now (Spaced until) rule = put_cause core past now (Some mark) (Err (Spaced until)) s began rule
  wait_cause now (WindowFull until) rule = put_cause core past now (Some mark) (Err (WindowFull until)) s began rule
  wait_cause now NoRoom rule =
      let m = core.blocks.cached in
      let owes = rule.2 in (
        put_cause core past now (Some mark) (Err NoRoom) s began rule.0,
        λ block being. never_some (rank_of (writing_rank mark) block (get m block)) 0 (rule.1 block)
            (is_writing block (get m block) (s.blocks block) being),
        (owes.0, (covered_of size past (Some mark) owes.0 owes.1 (get m owes.0) began (s.blocks owes.0) owes.2).0),
      )

  pub flush_cause : (now : ℕ) (step : FlushStep) → FlushRule core.window now mark core.blocks.cached step
      → FlushCause core.geometry core.settings past now mark step
  flush_cause now flush.Done rule = λ block.
      (let found = get core.blocks.cached block in
      above_is block found (s.blocks block) (uncovered mark block found (rule.1 block) (rule.0 block)))
  flush_cause now (flush.Put job) rule = put_cause core past now (Some mark) (Ok job.block) s began rule
  flush_cause now (flush.Wait why) rule = wait_cause now why rule

pub flushes_have_causes : FlushesHaveCauses
flushes_have_causes core past now mark step s began answer = flush_cause core past s mark began now step answer
