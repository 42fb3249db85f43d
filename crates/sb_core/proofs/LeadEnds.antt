-- Where the ends of GETs and PUTs lead.
use Rattle.std.proofs.Common.{ℕ, ◌≡◌, ◌≢◌, ◌<◌, Bool, true, false, List, Option, Some, None, is_some}
use Rattle.std.proofs.Common.{refl, sym, ◌∙◌, ap, subst}
use Rattle.std.specs.FinMap.{get}
use Rattle.sb_base.specs.declared.settings.Settings.{Settings}
use Rattle.sb_base.specs.declared.line.Expect.{Expect}
use Rattle.sb_base.specs.declared.entry.Shown.{Shown}
use Rattle.sb_history.specs.Cache.{answer_content}
use Rattle.sb_blocks.specs.declared.cached.OpenGet.{OpenGet}
use Rattle.sb_blocks.specs.declared.cached.OpenPut.{OpenPut}
use Rattle.sb_blocks.specs.declared.cached.State.{State}
use Rattle.sb_blocks.specs.declared.cached.State.TheVariants.{Reading, Clean, Dirty, Writing, Writing2}
use Rattle.sb_blocks.specs.Cached.{get_in, get_by, put_in, passes, is_dirty}
use Rattle.sb_blocks.specs.Moves.{taken, put_ended}
use Rattle.sb_blocks.specs.Calls.{EndsRead}
use Rattle.sb_blocks.specs.Caches.{CacheState, with_entry}
use Rattle.sb_core.specs.declared.machine.Core.{Core}
use Rattle.sb_core.specs.declared.step.GetDone.{GetDone}
use Rattle.sb_core.specs.declared.step.GetDone.TheVariants as done
use Rattle.sb_core.specs.Progress.{events_until_clean, events_by_state, steps_left_in}
use Rattle.sb_core.specs.Judging.{judged, is_taken, IsStaleByWindow}
use Rattle.sb_core.specs.Cores.{TakesAnswer, EndsWrite}
use Rattle.sb_core.specs.Leads.{AllIdle, IsIdle, IsIdleBut, IsCloser, IsDirty, KeepsOthers, LeavesNothing}
use Rattle.sb_core.specs.Leads.{steps_left}
use Rattle.sb_core.proofs.Maps.{get_same, get_other, gone_other}
use Rattle.sb_core.proofs.Changing.{changed}
use Rattle.sb_core.proofs.Progressing.{closer_taken}
use Rattle.sb_core.proofs.Endings.{asked_entry}
use Rattle.sb_core.proofs.Leading.{idle_set, idle_gone, ended_closer, ended_idle, failed_dirty}

-- the block of which a GET ends is idle
pub take_idle : (old new : Core) (place block : ℕ) (answer : Shown) (took : Bool)
    → TakesAnswer old new place block answer took → IsIdleBut block old → IsIdle new
take_idle old new place block answer took does idle = by took does.blocks where
  by : (t : Bool) → EndsRead old.blocks new.blocks old.reading place block (answer_content old.geometry.block_size None answer) t → IsIdle new
  by true made =
      subst (λ (c : CacheState). AllIdle c.cached) (sym made)
      (idle_set old.blocks.cached block (taken old.reading place (answer_content old.geometry.block_size None answer)) refl idle)
  by false made = subst (λ (c : CacheState). AllIdle c.cached) (sym made) (idle_gone old.blocks.cached block idle)

-- and nothing of another one changes
pub take_others : (old new : Core) (place block : ℕ) (answer : Shown) (took : Bool)
    → TakesAnswer old new place block answer took → KeepsOthers block old new
take_others old new place block answer took does other apart = by took does.blocks where
  by : (t : Bool) → EndsRead old.blocks new.blocks old.reading place block (answer_content old.geometry.block_size None answer) t
      → get new.blocks.cached other ≡ get old.blocks.cached other
  by true made =
      ap (λ (c : CacheState). get c.cached other) made
      ∙ get_other old.blocks.cached block other (taken old.reading place (answer_content old.geometry.block_size None answer)) apart
  by false made =
      ap (λ (c : CacheState). get c.cached other) made ∙ gone_other old.blocks.cached block other apart

-- an answer that isn't taken leaves it without an entry
pub take_nothing : (old new : Core) (place block : ℕ) (answer : Shown) (outcome : GetDone)
    → TakesAnswer old new place block answer (is_taken outcome) → LeavesNothing old new block outcome
take_nothing old new place block answer done.Taken does = tt
take_nothing old new place block answer done.Failed does = does.blocks
take_nothing old new place block answer (done.Stale expected shown) does = does.blocks

-- one that is taken brings it closer
asked_steps : (state : State) (get_ : OpenGet) → get_by state ≡ Some get_
    → (events_until_clean state ≡ 0) × (events_by_state state ≡ 1)
asked_steps (Reading of) get_ is = (refl, refl)
asked_steps Clean get_ is = absurd (cc)
asked_steps (Dirty stamp since) get_ is = absurd (cc)
asked_steps (Writing put stamp) get_ is = absurd (cc)
asked_steps (Writing2 put stamp later since) get_ is = absurd (cc)

pub take_closer : (old new : Core) (place block : ℕ) (get_ : OpenGet) (answer : Shown) (outcome : GetDone)
    → get_in (get old.blocks.cached block) ≡ Some get_ → TakesAnswer old new place block answer (is_taken outcome)
    → outcome ≡ done.Taken → steps_left new block < steps_left old block
take_closer old new place block get_ answer outcome opened does took =
    let content = answer_content old.geometry.block_size None answer in
    let e = asked_entry (get old.blocks.cached block) get_ opened in
    let steps = asked_steps e.0.state get_ e.2 in
    let made : EndsRead old.blocks new.blocks old.reading place block content true = subst
    (λ (o : GetDone). EndsRead old.blocks new.blocks old.reading place block content (is_taken o)) took does.blocks in
    subst (λ (c : CacheState). steps_left_in c block < steps_left_in old.blocks block) (sym made)
    (closer_taken old.blocks block e.0 (taken old.reading place content) e.1 steps.0 steps.1 refl refl)

-- an answer is stale only where a digest is expected
pub stale_window : (settings : Settings) (expect : Option Expect) (digest : Option (List ℕ)) (outcome : GetDone)
    → (is_some expect ≡ true → settings.md5_size ≢ 0) → outcome ≡ judged expect digest
    → IsStaleByWindow settings outcome
stale_window settings expect digest done.Taken on is = tt
stale_window settings expect digest done.Failed on is = tt
stale_window settings None None (done.Stale expected shown) on is = absurd (cc)
stale_window settings None (Some digest) (done.Stale expected shown) on is = absurd (cc)
stale_window settings (Some expect) digest (done.Stale expected shown) on is = on refl

-- the block of which a PUT ends is idle
pub end_idle : (old new : Core) (block : ℕ) (zeros ok : Bool) (digest : List ℕ) (put : OpenPut)
    → put_in (get old.blocks.cached block) ≡ Some put → EndsWrite old new block zeros ok digest → IsIdleBut block old → IsIdle new
end_idle old new block zeros ok digest put opened does idle =
    let found = changed old.blocks new.blocks block (put_ended ok old.reading) (get old.blocks.cached block) does.blocks in
    subst (λ (c : CacheState). AllIdle c.cached) (sym found.2)
    (idle_set old.blocks.cached block (put_ended ok old.reading found.0)
    (ended_idle ok found.0.state old.reading put (sym (ap put_in found.1) ∙ opened)) idle)

pub end_others : (old new : Core) (block : ℕ) (zeros ok : Bool) (digest : List ℕ) → EndsWrite old new block zeros ok digest → KeepsOthers block old new
end_others old new block zeros ok digest does other apart =
    let found = changed old.blocks new.blocks block (put_ended ok old.reading) (get old.blocks.cached block) does.blocks in
    ap (λ (c : CacheState). get c.cached other) found.2
    ∙ get_other old.blocks.cached block other (put_ended ok old.reading found.0) apart

-- each block is closer after one that ended ok, and after another its block is dirty
pub end_closer : (old new : Core) (block : ℕ) (zeros ok : Bool) (digest : List ℕ) (put : OpenPut)
    → put_in (get old.blocks.cached block) ≡ Some put → EndsWrite old new block zeros ok digest → ok ≡ true → IsCloser old new
end_closer old new block zeros ok digest put opened does is b =
    let found = changed old.blocks new.blocks block (put_ended ok old.reading) (get old.blocks.cached block) does.blocks in
    let made = found.2
    ∙ ap (λ t. with_entry old.blocks block (put_ended t old.reading found.0)) is in
    subst (λ (c : CacheState). steps_left_in c b < steps_left_in old.blocks b) (sym made)
    (ended_closer old.blocks block old.reading put found.0 found.1 (sym (ap put_in found.1) ∙ opened) b)

pub end_dirty : (old new : Core) (block : ℕ) (zeros ok : Bool) (digest : List ℕ) (put : OpenPut)
    → put_in (get old.blocks.cached block) ≡ Some put → EndsWrite old new block zeros ok digest → ok ≡ false → IsDirty new block
end_dirty old new block zeros ok digest put opened does is =
    let found = changed old.blocks new.blocks block (put_ended ok old.reading) (get old.blocks.cached block) does.blocks in
    let made = found.2
    ∙ ap (λ t. with_entry old.blocks block (put_ended t old.reading found.0)) is in
    ap (λ (c : CacheState). passes is_dirty (get c.cached block)) made
    ∙ ap (passes is_dirty) (get_same old.blocks.cached block (put_ended false old.reading found.0))
    ∙ failed_dirty found.0.state old.reading put (sym (ap put_in found.1) ∙ opened)
