use Rattle.std.specs.FinMap.{get}
use Rattle.sb_core.proofs.Changing.{ready_facts}
use Rattle.sb_core.proofs.CoreEvents.{stays_put}
use Rattle.sb_core.proofs.Awaiting.{put_waits}
use Rattle.sb_core.proofs.LeadEvents.{put_leads, put_keeps}
use Rattle.sb_core.proofs.machine.Core.put_next.Goals as goal

pub returns-in-Ok-clause-leads : goal.returns-in-Ok-clause-leads
returns-in-Ok-clause-leads c =
    let core = c.args.self.now in
    let block = c.in-Ok.block in
    let facts = ready_facts core.window core.reading c.args.mark block c.in-Ok.ensures.0
    (get core.blocks.cached block) c.in-Ok.ensures.1.ranks_so in
    put_leads core c.begin_put.new.self c.args.pass block c.begin_put.new.out c.begin_put.result
    c.begin_put.ensures.starts facts.0 c.begin_put.ensures.opens

pub returns-in-Ok-clause-open : goal.returns-in-Ok-clause-open
returns-in-Ok-clause-open c =
    let core = c.args.self.now in
    let block = c.in-Ok.block in
    let facts = ready_facts core.window core.reading c.args.mark block c.in-Ok.ensures.0
    (get core.blocks.cached block) c.in-Ok.ensures.1.ranks_so in
    put_keeps core c.begin_put.new.self c.args.pass block c.begin_put.new.out c.begin_put.result
    c.begin_put.ensures.starts facts.0

pub returns-in-Err-clause-leads : goal.returns-in-Err-clause-leads
returns-in-Err-clause-leads c =
    put_waits c.args.self.now c.args.self.now c.args.mark c.in-Err.why (stays_put c.args.self.now) c.in-Err.ensures
