-- How far a call still has to go, behind a GET.
use Rattle.std.proofs.Common.{ℕ, ◌≡◌, ◌<◌, ◌≤◌, ◌+◌, ◌-◌, ◌*◌, ◌^◌, inl, inr, ap, subst, ◌∙◌, arith}
use Rattle.std.specs.FinMap.{get}
use Rattle.sb_blocks.specs.Caches.{CacheState}
use Rattle.sb_core.specs.declared.machine.Core.{Core}
use Rattle.sb_core.specs.declared.job.GetJob.{GetJob}
use Rattle.sb_core.specs.Leads.{steps_left, IsIdle, is_idle_in, LeadsToGet, get_undone}
use Rattle.sb_crew.specs.Turns.{GoesOn}

-- a core whose cache stays is idle as before
pub idle_stays : (old new : Core) → new.blocks ≡ old.blocks → IsIdle old → IsIdle new
idle_stays old new same idle block = ap (λ (cache : CacheState). is_idle_in (get cache.cached block)) same ∙ idle block

-- behind a GET a call has less to go than before it began
pub less_behind_get : (old mid new : Core) (block now next latest : ℕ) (job : GetJob)
    → LeadsToGet old mid 1 block job → GoesOn mid new job.block latest next → latest ≡ now → next ≤ 2 ^ 62
    → steps_left new block * (2 ^ 62 + 1) + (2 ^ 62 - next) < steps_left old block * (2 ^ 62 + 1) + (2 ^ 62 - now)
less_behind_get old mid new block now next latest job leads goes is limit =
    by (subst (λ (b : ℕ). GoesOn mid new b latest next) leads.same_block goes) where
      by : GoesOn mid new block latest next
          → steps_left new block * (2 ^ 62 + 1) + (2 ^ 62 - next) < steps_left old block * (2 ^ 62 + 1) + (2 ^ 62 - now)
      by (inl closer) = omega (arith, leads.closer, closer)
      by (inr still) = omega (arith, get_undone old mid new 1 block job leads still.0 block, still.1, is, limit)
