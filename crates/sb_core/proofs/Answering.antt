-- What a core answers.
use Rattle.std.proofs.Common.{ℕ, ◌≡◌, Bool, true, false, List, Option, Some, None, Result, refl, sym, subst, arith}
use Rattle.std.specs.Prelude.{nat_lt}
use Rattle.std.proofs.lemmas.Bool.Decides.{nat_tests}
use Rattle.std.specs.FinMap.{len}
use Rattle.sb_base.specs.declared.part.Part.{Part}
use Rattle.sb_base.specs.declared.line.Why.{Why}
use Rattle.sb_window.specs.Windows.{WindowState}
use Rattle.sb_blocks.specs.declared.cached.Cached.{Cached}
use Rattle.sb_blocks.specs.Caches.{CacheState}
use Rattle.sb_blocks.specs.Cached.{passes, is_held}
use Rattle.sb_core.specs.declared.machine.Core.{Core}
use Rattle.sb_core.specs.declared.job.PutJob.{PutJob}
use Rattle.sb_core.specs.declared.room.Room.TheVariants as room
use Rattle.sb_core.specs.declared.step.ReadStep.TheVariants as read
use Rattle.sb_core.specs.declared.step.WriteStep.{WriteStep}
use Rattle.sb_core.specs.Rules.{PutRule}
use Rattle.sb_core.specs.Cores.{marks_of, put_block}
use Rattle.sb_core.specs.WriteSteps.{write_put}
use Rattle.sb_core.specs.Steps.{RoomRule, MissingRead, ReadRule}
use Rattle.sb_core.specs.Writing.{is_one_too_many, HeldRule, EntryRule, WriteRule, DirtiesTooMany}

pub none_free : (a b : ℕ) → a ≡ b → nat_lt a b ≡ false
none_free a b same = grind (arith, nat_tests)

-- a read waits for room
pub read_waits : (window : WindowState) (now : ℕ) (cache : CacheState) (known : Bool) (block : ℕ) (found : Option Cached)
    (why : Why) → found ≡ None → known ≡ false → len cache.cached ≡ cache.room
    → RoomRule window now cache.cached (room.Wait why) → ReadRule window now cache known block found (read.Wait why)
read_waits window now cache false block None why none unmarked full rule =
    subst (λ t. MissingRead window now cache.cached block t (read.Wait why))
    (sym (none_free (len cache.cached) cache.room full)) (room.Wait why, refl, rule)
read_waits window now cache true block None why none unmarked full rule = absurd (cc)
read_waits window now cache known block (Some entry) why none unmarked full rule = absurd (cc)

-- a write that would make one more block dirty than may be
pub dirty_answer : (core : Core) (part : Part) (bytes : List ℕ) (found : Option Cached) (answer : Result PutJob Why)
    (step : WriteStep) → step ≡ write_put answer → passes is_held found ≡ true
    → DirtiesTooMany core part bytes found true
    → PutRule core.window core.reading None core.blocks.cached (put_block answer)
    → WriteRule core.window core.reading core.settings core.blocks (marks_of core part.block) part bytes found step
dirty_answer core part bytes None answer step is held many rule = absurd many
dirty_answer core part bytes (Some entry) answer step is held many rule =
    subst (λ h. EntryRule core.window core.reading core.blocks.cached part.block h
    (is_one_too_many core.settings core.blocks.cached (marks_of core part.block) part bytes entry) step) (sym held)
    (subst (λ t. HeldRule core.window core.reading core.blocks.cached t step) many (answer, is, rule))
