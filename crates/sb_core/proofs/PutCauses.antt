-- The put rule over the cache is the put rule over the history.
use Rattle.std.proofs.Common.{ℕ, ◌≡◌, ◌≢◌, List, Option, Some, None, Result, Ok, Err}
use Rattle.std.proofs.Common.{refl, sym, ◌∙◌, ap, arith}
use Rattle.std.specs.FinMap.{get}
use Rattle.sb_base.specs.declared.line.Why.{Why}
use Rattle.sb_base.specs.declared.line.Why.TheVariants.{Busy, Spaced, WindowFull, NoRoom}
use Rattle.sb_base.specs.declared.entry.Entry.{Entry}
use Rattle.sb_history.specs.Writes.{dirty_since}
use Rattle.sb_window.specs.declared.window.PutWhen.{PutWhen}
use Rattle.sb_window.specs.declared.window.PutWhen.TheVariants as when
use Rattle.sb_window.specs.Windows.{WindowState, put_when}
use Rattle.sb_blocks.specs.Caches.{CachedBlocks}
use Rattle.sb_blocks.specs.Orders.{rank_of, IsFirst, NoneRanks}
use Rattle.sb_core.specs.declared.machine.Core.{Core}
use Rattle.sb_core.specs.Represents.{nothing_found, BlockStands}
use Rattle.sb_core.specs.Rules.{owing_rank, ready_rank, until_rank, until_by, IsSoonest, WaitsFor, PutRule}
use Rattle.sb_core.specs.Cores.{Represents}
use Rattle.sb_core.specs.Causes.{IsCovered, IsNextPut, IsLeastWait, WaitsSo, PutsSo, PutCause}
use Rattle.sb_core.proofs.Awaiting.{owing_ready, owing_until, until_owing}
use Rattle.sb_core.proofs.CoverLemmas.{HasBegun, covered_of, owing_of, ready_owing, owing_since}

some_same : {X : Type 0} (found : Option X) (x : X) → found ≡ None → found ≡ Some x → ⊥
some_same found x none some = cc

module _ (size : ℕ) (past : List Entry) (window : WindowState) (now : ℕ) (mark : Option ℕ) (m : CachedBlocks)
    (began : HasBegun past mark) (stands : (b : ℕ) → BlockStands size past b (get m b)) where
  next_so : (block since : ℕ) → IsFirst (ready_rank window now mark) m since block
      → IsNextPut size past window now mark block
  next_so block since first =
      let ready = ready_owing mark window now block since (get m block) first.ranks_so in
      let mine = covered_of size past mark block since (get m block) began (stands block) ready.0 in
      let theirs : (o : ℕ) → IsCovered size past mark o → put_when window o now ≡ when.Now → (s : ℕ)
      × (rank_of (ready_rank window now mark) o (get m o) ≡ Some s) × (dirty_since size nothing_found past o ≡ s) =
      λ o covered now_. other o covered now_ in
      record {
        covered = mine.0;
        ready = ready.1;
        oldest = λ o covered now_.
            (let their = theirs o covered now_ in
            let less = first.least o their.0 their.1 in
            let one = mine.1 in let two = their.2 in omega (arith, less, one, two));
        lowest = λ o covered now_ tie.
            (let their = theirs o covered now_ in
            first.lowest o (their.1 ∙ ap Some (sym their.2 ∙ tie ∙ mine.1)));
      } where
        other : (o : ℕ) → IsCovered size past mark o → put_when window o now ≡ when.Now → (s : ℕ)
            × (rank_of (ready_rank window now mark) o (get m o) ≡ Some s) × (dirty_since size nothing_found past o ≡ s)
        other o covered now_ =
            let owing = owing_of size past mark o (get m o) began (stands o) covered in
            (owing.0, owing_ready mark window now o owing.0 (get m o) owing.1 now_, owing.2)

  none_so : NoneRanks (ready_rank window now mark) m → (block : ℕ) → IsCovered size past mark block
      → put_when window block now ≢ when.Now
  none_so none block covered now_ =
      let owing = owing_of size past mark block (get m block) began (stands block) covered in
      some_same (rank_of (ready_rank window now mark) block (get m block)) owing.0 (none block)
      (owing_ready mark window now block owing.0 (get m block) owing.1 now_)

  least_so : (block until : ℕ) (at : PutWhen) → IsSoonest window now mark m until block → put_when window block now ≡ at
      → IsLeastWait size past window now mark until at
  least_so block until at soon is =
      let owes = until_owing mark window now block until (get m block) soon.waits in
      let mine = covered_of size past mark block owes.0 (get m block) began (stands block) owes.1 in
      let since : soon.since ≡ owes.0 = same soon.since owes.0
      (sym soon.dirty ∙ owing_since mark block owes.0 (get m block) owes.1) in
      record {
        block = block;
        covered = mine.0;
        waits = is;
        least = λ o reading covered waits_. soon.least o reading (their_rank o covered ∙ waits_);
        first = λ o covered waits_.
            (let owing = owing_of size past mark o (get m o) began (stands o) covered in
            let less = soon.first o owing.0 (their_rank o covered ∙ waits_)
            (owing_since mark o owing.0 (get m o) owing.1) in
            let one = mine.1 in let two = owing.2 in omega (arith, less, one, two, since));
        lowest = λ o covered waits_ tie.
            (let owing = owing_of size past mark o (get m o) began (stands o) covered in
            soon.lowest o (their_rank o covered ∙ waits_)
            (owing_since mark o owing.0 (get m o) owing.1
            ∙ ap Some (sym owing.2 ∙ tie ∙ mine.1 ∙ sym since)));
      } where
        same : (x y : ℕ) → Some x ≡ Some y → x ≡ y
        same x y is_ = cc

        their_rank : (o : ℕ) → IsCovered size past mark o
            → rank_of (until_rank window now mark) o (get m o) ≡ until_by (put_when window o now)
        their_rank o covered =
            let owing = owing_of size past mark o (get m o) began (stands o) covered in
            owing_until mark window now o owing.0 (get m o) owing.1

  busy_so : NoneRanks (ready_rank window now mark) m → NoneRanks (until_rank window now mark) m → (block : ℕ)
      → IsCovered size past mark block → put_when window block now ≡ when.Busy
  busy_so ready until block covered = by (put_when window block now) refl (none_so ready block covered)
      (sym (owing_until mark window now block owing.0 (get m block) owing.1) ∙ until block) where
        owing : (since : ℕ) × (rank_of (owing_rank mark) block (get m block) ≡ Some since)
            × (dirty_since size nothing_found past block ≡ since)
        owing = owing_of size past mark block (get m block) began (stands block) covered

        by : (at : PutWhen) → put_when window block now ≡ at → at ≢ when.Now → until_by at ≡ None → at ≡ when.Busy
        by when.Now is later none = absurd (later refl)
        by when.Busy is later none = refl
        by (when.At until_) is later none = absurd (cc)
        by (when.Full until_) is later none = absurd (cc)

  waits_so : (why : Why) → NoneRanks (ready_rank window now mark) m → WaitsFor window now mark m why
      → WaitsSo size past window now mark why
  waits_so (Busy block) none waits = waits
  waits_so (Spaced until) none waits = least_so waits.0 until (when.At until) waits.1 waits.2
  waits_so (WindowFull until) none waits = least_so waits.0 until (when.Full until) waits.1 waits.2
  waits_so NoRoom none waits = busy_so none waits

  puts_so : (answer : Result ℕ Why) → PutRule window now mark m answer → PutsSo size past window now mark answer
  puts_so (Ok block) rule = next_so block rule.0 rule.1
  puts_so (Err why) rule = (none_so rule.0, waits_so why rule.0 rule.1)

pub put_cause : (core : Core) (past : List Entry) (now : ℕ) (mark : Option ℕ) (answer : Result ℕ Why)
    → Represents core past → HasBegun past mark → PutRule core.window now mark core.blocks.cached answer
    → PutCause core.geometry core.settings past now mark answer
put_cause core past now mark answer s began rule = record {
  window = core.window;
  is_window = core.its_window;
  puts = s.last_puts;
  rule = puts_so core.geometry.block_size past core.window now mark core.blocks.cached began s.blocks answer rule;
}
