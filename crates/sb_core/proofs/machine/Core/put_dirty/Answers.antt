use Rattle.sb_core.proofs.WriteEvents.{put_dirty_from}
use Rattle.sb_core.proofs.LeadEvents.{dirty_leads}
use Rattle.sb_core.proofs.machine.Core.put_dirty.Goals as goal

pub returns-clause-adds : goal.returns-clause-adds
returns-clause-adds c =
    put_dirty_from c.args.self.now c.put_next.new.self c.args.pass c.put_next.new.out c.put_next.result
    c.put_next.ensures.rule c.put_next.ensures.puts c.requires.dirty

pub returns-clause-leads : goal.returns-clause-leads
returns-clause-leads c =
    dirty_leads c.args.self.now c.put_next.new.self c.args.pass c.put_next.new.out c.put_next.result c.requires.dirty
    c.put_next.ensures.leads
