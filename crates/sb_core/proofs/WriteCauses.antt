-- Each answer to a write has its cause in the history.
use Rattle.std.proofs.Common.{ℕ, ◌≡◌, ◌≢◌, ◌≤◌, ◌+◌, ◌⊎◌, inl, inr, Bool, true, false, not, ◌&&◌, ◌||◌, nat_eq, nat_le}
use Rattle.std.proofs.Common.{List, length, Option, Some, None, Result, Ok, Err, refl, sym, ◌∙◌, ap, subst, arith}
use Rattle.std.specs.Prelude.{nat_lt}
use Rattle.std.proofs.lemmas.Bool.{eqb-true, eqb-false}
use Rattle.std.proofs.lemmas.Bool.Decides.{nat_tests}
use Rattle.std.specs.FinMap.{get, len}
use Rattle.sb_base.specs.declared.part.Part.{Part}
use Rattle.sb_base.specs.Ranges.{IsPart}
use Rattle.sb_base.specs.declared.line.Why.{Why}
use Rattle.sb_base.specs.declared.line.Why.TheVariants.{Busy, Spaced, WindowFull, NoRoom}
use Rattle.sb_base.specs.declared.entry.Entry.{Entry}
use Rattle.sb_history.specs.Contents.{is_zeros}
use Rattle.sb_history.specs.Cache.{outcome, cached_content}
use Rattle.sb_history.specs.Eviction as eviction
use Rattle.sb_history.specs.CachePolicy.{IsTooDirty, HasNoVictim}
use Rattle.sb_blocks.specs.declared.cached.Cached.{Cached}
use Rattle.sb_blocks.specs.Cached.{content_in, passes, is_held, is_clean, is_dirty}
use Rattle.sb_blocks.specs.Caches.{CachedBlocks, count_in}
use Rattle.sb_core.specs.declared.machine.Core.{Core}
use Rattle.sb_core.specs.declared.job.PutJob.{PutJob}
use Rattle.sb_core.specs.declared.room.Room.{Room}
use Rattle.sb_core.specs.declared.room.Room.TheVariants as room
use Rattle.sb_core.specs.declared.step.WriteStep.{WriteStep}
use Rattle.sb_core.specs.declared.step.WriteStep.TheVariants as write
use Rattle.sb_core.specs.Represents.{nothing_found}
use Rattle.sb_core.specs.Rules.{PutRule}
use Rattle.sb_core.specs.Cores.{Represents, marks_of, put_block}
use Rattle.sb_core.specs.Steps.{RoomRule}
use Rattle.sb_core.specs.WriteSteps.{write_put, write_room}
use Rattle.sb_core.specs.Writing.{is_too_dirty, IsDone, PutAnswers, RoomAnswers, PartRule, WholeRule, MissingRule, UnheldRule}
use Rattle.sb_core.specs.Writing.{HeldRule, leaves_zeros, is_one_too_many, EntryRule, WriteRule}
use Rattle.sb_core.specs.Causes.{IsAbsent, known_zero, keeps_zero, IsFilled, DirtiesOne, NeedsEntry, WritePuts, WriteDone, WriteCause}
use Rattle.sb_core.specs.Causes.{WritesHaveCauses}
use Rattle.sb_core.proofs.Counts.{occupied_is, clean_is, count_dirty, too_dirty}
use Rattle.sb_blocks.specs.ZeroLaws.{zeros_around}
use Rattle.sb_core.proofs.EventParts.{held_content}
use Rattle.sb_core.proofs.PutCauses.{put_cause}
use Rattle.sb_core.proofs.ReadCauses.{absent_is, cached_is, asked_is, room_is, full_is, drop_cause, lacks_victim}

-- the limit of dirty blocks
pub limit_some : (a b : ℕ) → (not (nat_eq a 0) && nat_le a b) ≡ true → a ≢ 0
limit_some a b is none = grind (arith, nat_tests)

pub limit_reached : (a b : ℕ) → (not (nat_eq a 0) && nat_le a b) ≡ true → a ≤ b
limit_reached a b is = grind (arith, nat_tests)

pub limit_true : (a b : ℕ) → a ≢ 0 → a ≤ b → (not (nat_eq a 0) && nat_le a b) ≡ true
limit_true a b some le = by (nat_eq a 0) refl where
  by : (t : Bool) → nat_eq a 0 ≡ t → (not t && nat_le a b) ≡ true
  by true is = absurd (some (eqb-true a 0 is))
  by false is = grind (arith, nat_tests)

neither_known : (known whole : Bool) → (known || whole) ≡ false → known ≡ false
neither_known true whole is = absurd (cc)
neither_known false whole is = refl

neither_whole : (known whole : Bool) → (known || whole) ≡ false → whole ≡ false
neither_whole true whole is = absurd (cc)
neither_whole false whole is = is

not_true : (t : Bool) → not t ≡ true → t ≡ false
not_true true is = absurd (cc)
not_true false is = refl

not_both : (a b : Bool) → (a && not b) ≡ false → b ≡ false → a ≡ false
not_both true true is none = absurd (cc)
not_both true false is none = absurd (cc)
not_both false b is none = refl

module _ (core : Core) (past : List Entry) (s : Represents core past) (now : ℕ) (part : Part) (bytes : List ℕ)
    (is_part : IsPart core.geometry part) (sized : length bytes ≡ part.length) where
  abbrev Cause : WriteStep → Type 0
  Cause step = WriteCause core.geometry core.settings past now part bytes step

  abbrev cached : CachedBlocks
  cached = core.blocks.cached

  abbrev known : Bool
  known = marks_of core part.block

  known_is : known_zero core.geometry past part.block ≡ known
  known_is = s.zeros part.block is_part.block

  -- whether the block stays zeros
  keeps_by : (content : Option (List ℕ))
      → cached_content core.geometry.block_size nothing_found past part.block ≡ content
      → keeps_zero core.geometry past part bytes
      ≡ (known && is_zeros (outcome core.geometry.block_size content part bytes))
  keeps_by content is =
      ap (λ k. k && is_zeros (outcome core.geometry.block_size
      (cached_content core.geometry.block_size nothing_found past part.block) part bytes)) known_is
      ∙ ap (λ c. known && is_zeros (outcome core.geometry.block_size c part bytes)) is

  within : part.offset + length bytes ≤ core.geometry.block_size
  within = let fits = is_part.within in omega (arith, fits, sized)

  keeps_missing : get cached part.block ≡ None → keeps_zero core.geometry past part bytes ≡ (known && is_zeros bytes)
  keeps_missing none =
      keeps_by None ((s.blocks part.block).content ∙ ap content_in none)
      ∙ ap (λ z. known && z) (zeros_around core.geometry.block_size part.offset bytes within)

  keeps_held : (entry : Cached) → get cached part.block ≡ Some entry → is_held entry.state ≡ true
      → keeps_zero core.geometry past part bytes ≡ leaves_zeros known part bytes entry.body
  keeps_held entry is held =
      keeps_by (Some entry.body)
      ((s.blocks part.block).content ∙ ap content_in is ∙ held_content entry.state entry.body held)

  dirty_true : is_too_dirty core.settings cached ≡ true → IsTooDirty core.geometry core.settings nothing_found past
  dirty_true is =
      too_dirty core.geometry past cached s.on_disk s.blocks core.settings
      (limit_some core.settings.max_dirty (count_in is_dirty cached) is)
      (limit_reached core.settings.max_dirty (count_in is_dirty cached) is)

  never_both : (t : Bool) → t ≡ false → t ≡ true → ⊥
  never_both t one two = cc

  dirty_false : is_too_dirty core.settings cached ≡ false → IsTooDirty core.geometry core.settings nothing_found past → ⊥
  dirty_false is too =
      let count_ = count_dirty core.geometry past cached s.on_disk s.blocks in
      let reached = too.1 in
      never_both (is_too_dirty core.settings cached) is
      (limit_true core.settings.max_dirty (count_in is_dirty cached) too.0 (omega (arith, count_, reached)))

  abbrev Decides : Type 0
  Decides =
      (DirtiesOne core.geometry past part bytes × IsTooDirty core.geometry core.settings nothing_found past)
      ⊎ (NeedsEntry core.geometry past part bytes × HasNoVictim core.geometry core.settings nothing_found past)

  put_so : Decides → (answer : Result ℕ Why) → PutRule core.window now None cached answer
      → WritePuts core.geometry core.settings past now part bytes answer
  put_so decides answer rule = (decides, put_cause core past now None answer s tt rule)

  answer_so : Decides → (answer : Result PutJob Why) → PutRule core.window now None cached (put_block answer)
      → Cause (write_put answer)
  answer_so decides (Ok job) rule = put_so decides (Ok job.block) rule
  answer_so decides (Err (Busy told)) rule = absurd rule.1
  answer_so decides (Err (Spaced until)) rule = put_so decides (Err (Spaced until)) rule
  answer_so decides (Err (WindowFull until)) rule = put_so decides (Err (WindowFull until)) rule
  answer_so decides (Err NoRoom) rule = put_so decides (Err NoRoom) rule

  puts_cause : (step : WriteStep) → Decides → PutAnswers core.window now cached step → Cause step
  puts_cause step decides rule = subst Cause (sym rule.1) (answer_so decides rule.0 rule.2)

  made_so : (made : Room) → NeedsEntry core.geometry past part bytes → len cached ≡ core.settings.cache_size
      → RoomRule core.window now cached made → Cause (write_room made)
  made_so (room.Dropped victim) needs full rule = (needs, drop_cause core past s victim full rule)
  made_so (room.Put job) needs full rule =
      answer_so (inr (needs, lacks_victim core past s full rule.0)) (Ok job) rule.1
  made_so (room.Wait why) needs full rule =
      answer_so (inr (needs, lacks_victim core past s full rule.0)) (Err why) rule.1

  done_so : (step : WriteStep) → IsDone step → WriteDone core.geometry core.settings past part bytes → Cause step
  done_so (write.Done dirtied) is done = done
  done_so (write.Wait why) is done = absurd is
  done_so (write.Get job) is done = absurd is
  done_so (write.Dropped block) is done = absurd is
  done_so (write.Put job) is done = absurd is

  room_cause : (step : WriteStep) → NeedsEntry core.geometry past part bytes
      → nat_lt (len cached) core.blocks.room ≡ false → RoomAnswers core.window now cached step → Cause step
  room_cause step needs taken rule =
      subst Cause (sym rule.1) (made_so rule.0 needs (full_is core past s taken) rule.2)

  part_cause : (step : WriteStep) (free : Bool) → nat_lt (len cached) core.blocks.room ≡ free
      → NeedsEntry core.geometry past part bytes → (known || nat_eq part.length core.blocks.geometry.block_size) ≡ false
      → PartRule core.window now cached part.block free step → Cause step
  part_cause step true free needs less rule =
      subst Cause (sym rule) (
        (needs.0, known_is ∙ neither_known known (nat_eq part.length core.blocks.geometry.block_size) less),
        room_is core past s free,
        λ same. eqb-false part.length core.blocks.geometry.block_size
            (neither_whole known (nat_eq part.length core.blocks.geometry.block_size) less)
            (same ∙ sym core.its_cache.block_size),
      )
  part_cause step false free needs less rule = room_cause step needs free rule

  filled_is : (known_ whole_ : Bool) → known ≡ known_ → nat_eq part.length core.blocks.geometry.block_size ≡ whole_
      → (known_ || whole_) ≡ true
      → (known_zero core.geometry past part.block ≡ true) ⊎ (part.length ≡ core.geometry.block_size)
  filled_is true whole_ marked whole fills = inl (known_is ∙ marked)
  filled_is false whole_ marked whole fills =
      inr (eqb-true part.length core.blocks.geometry.block_size (whole ∙ fills) ∙ core.its_cache.block_size)

  whole_cause : (step : WriteStep) (too free : Bool) → is_too_dirty core.settings cached ≡ too
      → nat_lt (len cached) core.blocks.room ≡ free → NeedsEntry core.geometry past part bytes
      → IsFilled core.geometry past part → WholeRule core.window now cached too free step → Cause step
  whole_cause step true free dirty room_ needs fills rule =
      puts_cause step (inl ((inr fills, needs.1), dirty_true dirty)) rule
  whole_cause step false true dirty room_ needs fills rule =
      done_so step rule (
        inr (inl (fills, room_is core past s room_)),
        λ one too. dirty_false dirty too,
      )
  whole_cause step false false dirty room_ needs fills rule = room_cause step needs room_ rule

  missing_cause : (step : WriteStep) (fills : Bool)
      → (known || nat_eq part.length core.blocks.geometry.block_size) ≡ fills → get cached part.block ≡ None
      → NeedsEntry core.geometry past part bytes
      → MissingRule core.window now core.settings core.blocks part.block fills step → Cause step
  missing_cause step true fills none needs rule =
      whole_cause step (is_too_dirty core.settings cached) (nat_lt (len cached) core.blocks.room) refl refl needs
      (needs.0, filled_is known (nat_eq part.length core.blocks.geometry.block_size) refl refl fills) rule
  missing_cause step false fills none needs rule =
      part_cause step (nat_lt (len cached) core.blocks.room) refl needs fills rule

  unheld_cause : (step : WriteStep) (keeps : Bool) → (known && is_zeros bytes) ≡ keeps → get cached part.block ≡ None
      → UnheldRule core.window now core.settings core.blocks part.block keeps
      (known || nat_eq part.length core.blocks.geometry.block_size) step → Cause step
  unheld_cause step true keeps none rule =
      done_so step rule (
        inr (inr (absent_is core past s part.block none, keeps_missing none ∙ keeps)),
        λ one too. never_both (keeps_zero core.geometry past part bytes) one.1 (keeps_missing none ∙ keeps),
      )
  unheld_cause step false other none rule =
      missing_cause step (known || nat_eq part.length core.blocks.geometry.block_size) refl none
      (absent_is core past s part.block none, keeps_missing none ∙ other) rule

  not_absent : (entry : Cached) → get cached part.block ≡ Some entry → IsAbsent core.geometry past part.block → ⊥
  not_absent entry is absent =
      never_both _ absent (occupied_is core.geometry.block_size past part.block (get cached part.block)
      (s.blocks part.block) ∙ ap (passes (λ state. true)) is)

  clean_here : (entry : Cached) → get cached part.block ≡ Some entry
      → eviction.is_clean core.geometry.block_size nothing_found past part.block ≡ is_clean entry.state
  clean_here entry is =
      clean_is core.geometry.block_size past part.block (get cached part.block) (s.blocks part.block)
      ∙ ap (passes is_clean) is

  and_true : (a b : Bool) → (a && b) ≡ true → (a ≡ true) × (b ≡ true)
  and_true true b is = (refl, is)
  and_true false b is = absurd (cc)

  and_false : (a b : Bool) → (a && b) ≡ false → a ≡ true → b ≡ false
  and_false true b is one = is
  and_false false b is one = absurd (cc)

  held_cause : (step : WriteStep) (entry : Cached) (too : Bool)
      → is_one_too_many core.settings cached known part bytes entry ≡ too → is_held entry.state ≡ true
      → get cached part.block ≡ Some entry → HeldRule core.window now cached too step → Cause step
  held_cause step entry true too held is rule =
      let both = and_true (is_clean entry.state)
      (is_too_dirty core.settings cached && not (leaves_zeros known part bytes entry.body)) too in
      let limit = and_true (is_too_dirty core.settings cached) (not (leaves_zeros known part bytes entry.body)) both.1 in
      puts_cause step (inl (
        (inl (clean_here entry is ∙ both.0), keeps_held entry is held ∙ not_true (leaves_zeros known part bytes entry.body) limit.1),
        dirty_true limit.0,
      )) rule
  held_cause step entry false too held is rule =
      done_so step rule (
        inl (cached_is core past s part.block (ap (passes is_held) is ∙ held)),
        λ one dirty. never one.0 (sym (keeps_held entry is held) ∙ one.1) dirty,
      ) where
        never : (eviction.is_clean core.geometry.block_size nothing_found past part.block ≡ true)
            ⊎ IsFilled core.geometry past part → leaves_zeros known part bytes entry.body ≡ false
            → IsTooDirty core.geometry core.settings nothing_found past → ⊥
        never (inl clean) other dirty =
            dirty_false (not_both (is_too_dirty core.settings cached) (leaves_zeros known part bytes entry.body)
            (and_false (is_clean entry.state)
            (is_too_dirty core.settings cached && not (leaves_zeros known part bytes entry.body)) too
            (sym (clean_here entry is) ∙ clean)) other) dirty
        never (inr fills) other dirty = not_absent entry is fills.0

  entry_cause : (step : WriteStep) (entry : Cached) (held : Bool) → is_held entry.state ≡ held
      → get cached part.block ≡ Some entry
      → EntryRule core.window now cached part.block held (is_one_too_many core.settings cached known part bytes entry)
      step → Cause step
  entry_cause step entry true held is rule =
      held_cause step entry (is_one_too_many core.settings cached known part bytes entry) refl held is rule
  entry_cause step entry false held is rule = subst Cause (sym rule) (asked_is core past s part.block entry is held)

  pub write_cause : (step : WriteStep) (found : Option Cached) → get cached part.block ≡ found
      → WriteRule core.window now core.settings core.blocks known part bytes found step → Cause step
  write_cause step None is rule = unheld_cause step (known && is_zeros bytes) refl is rule
  write_cause step (Some entry) is rule = entry_cause step entry (is_held entry.state) refl is rule

pub writes_have_causes : WritesHaveCauses
writes_have_causes core past now part bytes step s is_part sized answer =
    write_cause core past s now part bytes is_part sized step (get core.blocks.cached part.block) refl answer
