-- Where an event leads, from before its reading rose.
use Rattle.std.proofs.Common.{ℕ, ◌<◌, List}
use Rattle.std.proofs.Common.{Option, None, sym, ◌∙◌, ap, subst}
use Rattle.md5.specs.Md5.{md5}
use Rattle.sb_base.specs.declared.line.Why.{Why}
use Rattle.sb_window.specs.Windows as windows
use Rattle.sb_window.specs.Windows.{WindowState, expected}
use Rattle.sb_blocks.specs.Caches.{CacheState}
use Rattle.sb_core.specs.declared.machine.Core.{Core}
use Rattle.sb_core.specs.declared.job.GetJob.{GetJob}
use Rattle.sb_core.specs.declared.job.PutJob.{PutJob}
use Rattle.sb_core.specs.declared.step.WriteStep.{WriteStep}
use Rattle.sb_core.specs.declared.step.WriteStep.TheVariants as write
use Rattle.sb_core.specs.Progress.{steps_left_in}
use Rattle.sb_core.specs.Cores.{Ticks}
use Rattle.sb_core.specs.Leads.{AllIdle, IsIdle, KeepsRequests, KeepsOpen}
use Rattle.sb_core.specs.Leads.{IsCloser, LeadsToGet, LeadsToPut, LeadsOn, LeadsToEnd, LeadsToWait}
use Rattle.sb_core.specs.Leads.{WaitsForWindow, WriteLeads}

-- the same from before the reading rose
module _ (old mid new : Core) (now place : ℕ) (ticks : Ticks old mid now place) where
  idle_since : IsIdle old → IsIdle mid
  idle_since idle = subst (λ (c : CacheState). AllIdle c.cached) (sym ticks.blocks) idle

  pub since_keeps : KeepsOpen mid new → KeepsOpen old new
  since_keeps keeps = subst (λ (c : CacheState). KeepsRequests c.cached new.blocks.cached) ticks.blocks keeps

  pub since_closer : IsCloser mid new → IsCloser old new
  since_closer closer b =
      subst (λ (c : CacheState). steps_left_in new.blocks b < steps_left_in c b) ticks.blocks (closer b)

  pub since_end : LeadsToEnd mid new → LeadsToEnd old new
  since_end leads = record { idle = λ idle. leads.idle (idle_since idle); window = leads.window ∙ ticks.window }

  pub since_get : (pass block : ℕ) (job : GetJob) → LeadsToGet mid new pass block job
      → LeadsToGet old new pass block job
  since_get pass block job leads = record {
    same_block = leads.same_block;
    begun = leads.begun;
    reading = leads.reading;
    closer = subst (λ (c : CacheState). steps_left_in new.blocks block < steps_left_in c block) ticks.blocks leads.closer;
    expects = leads.expects ∙ ap (λ (w : WindowState). expected w block new.reading) ticks.window;
    verify = leads.verify;
    undone = leads.undone ∙ ticks.blocks;
    window = leads.window ∙ ticks.window;
    idle = λ idle. leads.idle (idle_since idle);
  }

  pub since_put : (pass : ℕ) (out : List ℕ) (job : PutJob) → LeadsToPut mid new pass out job
      → LeadsToPut old new pass out job
  since_put pass out job leads = record {
    begun = leads.begun;
    closer = since_closer leads.closer;
    window = leads.window
        ∙ ap (λ (w : WindowState). windows.begun w job.block new.reading) ticks.window;
    idle = λ idle. leads.idle (idle_since idle);
  }

  pub since_on : (block : ℕ) → LeadsOn mid new block → LeadsOn old new block
  since_on block leads = record {
    idle = λ idle. leads.idle (idle_since idle);
    closer = subst (λ (c : CacheState). steps_left_in new.blocks block < steps_left_in c block) ticks.blocks leads.closer;
    window = leads.window ∙ ticks.window;
  }

  waits_since : (mark : Option ℕ) (why : Why) → WaitsForWindow mark mid new why → WaitsForWindow mark old new why
  waits_since mark why waits = record {
    on = waits.on;
    until = waits.until;
    reason = waits.reason;
    in_time = waits.in_time;
    ahead = waits.ahead;
    waits = rw (← ticks.blocks, ← ticks.window) waits.waits;
    later = waits.later;
  }

  pub since_wait : (mark : Option ℕ) (why : Why) → LeadsToWait mark mid new why → LeadsToWait mark old new why
  since_wait mark why leads = record {
    blocks = leads.blocks ∙ ticks.blocks;
    window = leads.window ∙ ticks.window;
    idle = λ idle. waits_since mark why (leads.idle (idle_since idle));
    off = leads.off;
  }

  pub since_write : (pass block : ℕ) (out : List ℕ) (step : WriteStep) → WriteLeads mid new pass block out step
      → WriteLeads old new pass block out step
  since_write pass block out (write.Done dirtied) leads = since_end leads
  since_write pass block out (write.Wait why) leads = since_wait None why leads
  since_write pass block out (write.Get job) leads = since_get pass block job leads
  since_write pass block out (write.Dropped dropped) leads = since_on block leads
  since_write pass block out (write.Put job) leads = since_put pass out job leads
