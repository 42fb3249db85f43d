-- Each answer has its cause in the history.
use Rattle.std.proofs.Common.{ℕ, ◌≡◌, ◌≤◌, ◌<◌, Bool, true, false, if◌then◌else◌}
use Rattle.std.proofs.Common.{List, Option, Some, None, Result, Ok, Err, is_some, inl, inr, refl, sym, ◌∙◌, ap, subst, arith}
use Rattle.std.specs.Prelude.{nat_lt}
use Rattle.std.proofs.lemmas.Bool.Decides.{nat_tests}
use Rattle.std.specs.FinMap.{get, len}
use Rattle.sb_base.specs.declared.line.Why.{Why}
use Rattle.sb_base.specs.declared.line.Why.TheVariants.{Busy, Spaced, WindowFull, NoRoom}
use Rattle.sb_base.specs.declared.entry.Entry.{Entry}
use Rattle.sb_history.specs.Gets.{fetch_of}
use Rattle.sb_history.specs.CachePolicy.{HasNoVictim}
use Rattle.sb_blocks.specs.declared.cached.State.{State}
use Rattle.sb_blocks.specs.declared.cached.State.TheVariants.{Reading, Clean, Dirty, Writing, Writing2}
use Rattle.sb_blocks.specs.declared.cached.Cached.{Cached}
use Rattle.sb_blocks.specs.Cached.{content_in, content_by, get_in, get_by, passes, is_held}
use Rattle.sb_blocks.specs.Orders.{unused_rank, NoneRanks, FirstBlockIs}
use Rattle.sb_core.specs.declared.machine.Core.{Core}
use Rattle.sb_core.specs.declared.room.Room.{Room}
use Rattle.sb_core.specs.declared.room.Room.TheVariants as room
use Rattle.sb_core.specs.declared.step.ReadStep.{ReadStep}
use Rattle.sb_core.specs.declared.step.ReadStep.TheVariants as read
use Rattle.sb_core.specs.Represents.{nothing_found}
use Rattle.sb_core.specs.Rules.{PutRule}
use Rattle.sb_core.specs.Cores.{Represents, marks_of}
use Rattle.sb_core.specs.Steps.{RoomRule, read_room, MissingRead, UnheldRead, ReadRule}
use Rattle.sb_core.specs.Causes.{IsAbsent, IsUnknown, HasRoom, IsCached, IsAsked, ReadPuts, DropCause, ReadCause}
use Rattle.sb_core.specs.Causes.{ReadsHaveCauses}
use Rattle.sb_core.proofs.Fields.{some_get}
use Rattle.sb_core.proofs.Counts.{occupied_is, count_occupied, full_cache, victim_is, no_victim}
use Rattle.sb_core.proofs.PutCauses.{put_cause}

-- what a core says of one block, and of all
module _ (core : Core) (past : List Entry) (s : Represents core past) where
  pub absent_is : (block : ℕ) → get core.blocks.cached block ≡ None → IsAbsent core.geometry past block
  absent_is block none =
      occupied_is core.geometry.block_size past block (get core.blocks.cached block) (s.blocks block)
      ∙ ap (passes (λ state. true)) none

  held_content : (found : Option Cached) → passes is_held found ≡ true → is_some (content_in found) ≡ true
  held_content None held = absurd (cc)
  held_content (Some entry) held = by entry.state held where
    by : (state : State) → is_held state ≡ true → is_some (content_by state entry.body) ≡ true
    by (Reading get_) held_ = absurd (cc)
    by Clean held_ = refl
    by (Dirty stamp since) held_ = refl
    by (Writing put stamp) held_ = refl
    by (Writing2 put stamp later since) held_ = refl

  pub cached_is : (block : ℕ) → passes is_held (get core.blocks.cached block) ≡ true → IsCached core.geometry past block
  cached_is block held =
      ap is_some (s.blocks block).content ∙ held_content (get core.blocks.cached block) held

  unheld_get : (entry : Cached) → is_held entry.state ≡ false → is_some (get_in (Some entry)) ≡ true
  unheld_get entry held = by entry.state held where
    by : (state : State) → is_held state ≡ false → is_some (get_by state) ≡ true
    by (Reading get_) held_ = refl
    by Clean held_ = absurd (cc)
    by (Dirty stamp since) held_ = absurd (cc)
    by (Writing put stamp) held_ = absurd (cc)
    by (Writing2 put stamp later since) held_ = absurd (cc)

  pub asked_is : (block : ℕ) (entry : Cached) → get core.blocks.cached block ≡ Some entry → is_held entry.state ≡ false
      → IsAsked past block block
  asked_is block entry is held = (
    refl,
    some_get (fetch_of past block) ∙ ap is_some (s.blocks block).asks
        ∙ ap (λ (f : Option Cached). is_some (get_in f)) is ∙ unheld_get entry held,
  )

  lt_true : (a b : ℕ) → nat_lt a b ≡ true → a < b
  lt_true a b is = grind (arith, nat_tests)

  lt_false : (a b : ℕ) → nat_lt a b ≡ false → a ≤ b → a ≡ b
  lt_false a b is le = grind (arith, nat_tests)

  pub room_is : nat_lt (len core.blocks.cached) core.blocks.room ≡ true → HasRoom core.geometry core.settings past
  room_is free =
      let count_ = count_occupied core.geometry past core.blocks.cached s.on_disk s.blocks in
      let less = lt_true (len core.blocks.cached) core.blocks.room free in
      omega (arith, count_, less, core.its_cache.room)

  pub full_is : nat_lt (len core.blocks.cached) core.blocks.room ≡ false
      → len core.blocks.cached ≡ core.settings.cache_size
  full_is taken = lt_false (len core.blocks.cached) core.blocks.room taken core.its_cache.fits ∙ core.its_cache.room

  pub drop_cause : (victim : ℕ) → len core.blocks.cached ≡ core.settings.cache_size
      → FirstBlockIs unused_rank core.blocks.cached (Some victim) → DropCause core.geometry core.settings past victim
  drop_cause victim full first = (
    full_cache core.geometry past core.blocks.cached s.on_disk s.blocks core.settings full,
    victim_is core.geometry past core.blocks.cached s.on_disk s.blocks first.0 victim first.1,
  )

  pub lacks_victim : len core.blocks.cached ≡ core.settings.cache_size → NoneRanks unused_rank core.blocks.cached
      → HasNoVictim core.geometry core.settings nothing_found past
  lacks_victim full none =
      no_victim core.geometry past core.blocks.cached s.on_disk s.blocks core.settings full none

  -- reads
  module _ (now block : ℕ) (on : block < core.geometry.blocks) where
    unknown_is : get core.blocks.cached block ≡ None → marks_of core block ≡ false → IsUnknown core.geometry past block
    unknown_is none unmarked = (absent_is block none, s.zeros block on ∙ unmarked)

    read_puts : (answer : Result ℕ Why) → IsUnknown core.geometry past block
        → len core.blocks.cached ≡ core.settings.cache_size → NoneRanks unused_rank core.blocks.cached
        → PutRule core.window now None core.blocks.cached answer
        → ReadPuts core.geometry core.settings past now block answer
    read_puts answer unknown full unused rule =
        (unknown, lacks_victim full unused, put_cause core past now None answer s tt rule)

    read_made : (made : Room) → IsUnknown core.geometry past block
        → len core.blocks.cached ≡ core.settings.cache_size → RoomRule core.window now core.blocks.cached made
        → ReadCause core.geometry core.settings past now block (read_room made)
    read_made (room.Dropped victim) none full rule = (none, drop_cause victim full rule)
    read_made (room.Put job) none full rule = read_puts (Ok job.block) none full rule.0 rule.1
    read_made (room.Wait (Busy told)) none full rule = absurd rule.1.1
    read_made (room.Wait (Spaced until)) none full rule = read_puts (Err (Spaced until)) none full rule.0 rule.1
    read_made (room.Wait (WindowFull until)) none full rule = read_puts (Err (WindowFull until)) none full rule.0 rule.1
    read_made (room.Wait NoRoom) none full rule = read_puts (Err NoRoom) none full rule.0 rule.1

    read_missing : (step : ReadStep) (free : Bool) → nat_lt (len core.blocks.cached) core.blocks.room ≡ free
        → IsUnknown core.geometry past block → MissingRead core.window now core.blocks.cached block free step
        → ReadCause core.geometry core.settings past now block step
    read_missing step true free none rule =
        subst (ReadCause core.geometry core.settings past now block) (sym rule) (none, room_is free)
    read_missing step false free none rule =
        subst (ReadCause core.geometry core.settings past now block) (sym rule.1)
        (read_made rule.0 none (full_is free) rule.2)

    read_held : (step : ReadStep) (entry : Cached) (held : Bool) → is_held entry.state ≡ held
        → get core.blocks.cached block ≡ Some entry → step ≡ (if held then read.Done else read.Wait (Busy block))
        → ReadCause core.geometry core.settings past now block step
    read_held step entry true held is rule =
        subst (ReadCause core.geometry core.settings past now block) (sym rule)
        (inl (cached_is block (ap (passes is_held) is ∙ held)))
    read_held step entry false held is rule =
        subst (ReadCause core.geometry core.settings past now block) (sym rule) (asked_is block entry is held)

    read_unheld : (step : ReadStep) (known : Bool) → marks_of core block ≡ known → get core.blocks.cached block ≡ None
        → UnheldRead core.window now core.blocks block known step
        → ReadCause core.geometry core.settings past now block step
    read_unheld step true marked none rule =
        subst (ReadCause core.geometry core.settings past now block) (sym rule)
        (inr (absent_is block none, s.zeros block on ∙ marked))
    read_unheld step false unmarked none rule =
        read_missing step (nat_lt (len core.blocks.cached) core.blocks.room) refl (unknown_is none unmarked) rule

    pub read_cause : (step : ReadStep) (found : Option Cached) → get core.blocks.cached block ≡ found
        → ReadRule core.window now core.blocks (marks_of core block) block found step
        → ReadCause core.geometry core.settings past now block step
    read_cause step None is rule = read_unheld step (marks_of core block) refl is rule
    read_cause step (Some entry) is rule = read_held step entry (is_held entry.state) refl is rule

pub reads_have_causes : ReadsHaveCauses
reads_have_causes core past now block step s on answer =
    read_cause core past s now block on step (get core.blocks.cached block) refl answer
