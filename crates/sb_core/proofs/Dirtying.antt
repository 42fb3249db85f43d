-- A write that is done tells whether its block became dirty by it.
use Rattle.std.proofs.Common.{ℕ, ◌≡◌, not, ◌&&◌, List, ◌∷◌, sym, ◌∙◌, ap}
use Rattle.std.specs.FinMap.{get}
use Rattle.sb_base.specs.declared.geometry.Geometry.{Geometry}
use Rattle.sb_base.specs.declared.entry.Entry.{Entry}
use Rattle.sb_history.specs.Writes as writes
use Rattle.sb_blocks.specs.Cached.{passes, is_dirty}
use Rattle.sb_core.specs.declared.machine.Core.{Core}
use Rattle.sb_core.specs.declared.step.WriteStep.{WriteStep}
use Rattle.sb_core.specs.declared.step.WriteStep.TheVariants as write
use Rattle.sb_core.specs.Represents.{nothing_found}
use Rattle.sb_core.specs.Cores.{Represents, Adds}
use Rattle.sb_core.specs.Requests.{SameBase}
use Rattle.sb_core.specs.Writing.{SaysDirtied, TellsDirtied}
use Rattle.sb_core.proofs.Counts.{dirty_is}

-- a history and the cache agree before its entry and behind it
pub tells_dirtied : (old new : Core) (entry : Entry) (block : ℕ) (step : WriteStep) → Adds old new entry
    → SameBase old new → SaysDirtied old new block step → TellsDirtied old entry block step
tells_dirtied old new entry block (write.Done dirtied) adds base says = λ past s.
    let before = dirty_is old.geometry.block_size past block (get old.blocks.cached block) (s.blocks block) in
    let after =
    ap (λ (g : Geometry). writes.is_dirty g.block_size nothing_found (entry ∷ past) block) (sym base.geometry)
    ∙ dirty_is new.geometry.block_size (entry ∷ past) block (get new.blocks.cached block)
    ((adds past s).blocks block) in
    says
    ∙ ap (λ t. not t && passes is_dirty (get new.blocks.cached block)) (sym before)
    ∙ ap (λ t. not (writes.is_dirty old.geometry.block_size nothing_found past block) && t) (sym after)
tells_dirtied old new entry block (write.Wait why) adds base says = tt
tells_dirtied old new entry block (write.Get job) adds base says = tt
tells_dirtied old new entry block (write.Dropped dropped) adds base says = tt
tells_dirtied old new entry block (write.Put job) adds base says = tt
