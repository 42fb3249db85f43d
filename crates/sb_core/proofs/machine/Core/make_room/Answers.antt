use Rattle.std.proofs.Common.{None, [], inl, refl}
use Rattle.std.specs.FinMap.{get}
use Rattle.sb_core.proofs.Keeping.{gone_is_cache, opens_gone, expects_gone}
use Rattle.sb_core.proofs.Counts.{rank_clean, full_cache}
use Rattle.sb_core.proofs.Changing.{ready_facts}
use Rattle.sb_core.proofs.Events.{drops}
use Rattle.sb_core.proofs.CoreEvents.{waits_from, puts_from, put_copies, due_without_victim, clean_no_put}
use Rattle.sb_core.proofs.LeadEvents.{drop_leads}
use Rattle.sb_core.proofs.Awaiting.{owing_waits, full_owing}
use Rattle.sb_core.proofs.machine.Core.make_room.Goals as goal

pub invariant_of-self : goal.invariant_of-self
invariant_of-self c =
    let core = c.args.self.now in
    let first = c.in-Some.ensures in
    let clean = rank_clean core.geometry.block_size [] c.in-Some.block (get core.blocks.cached c.in-Some.block) first.0
    first.1.ranks_so in
    record {
      limit = core.limit;
      given = core.given;
      its_window = core.its_window;
      its_cache = rw c.drop_block.ensures (gone_is_cache core.geometry core.settings core.blocks c.in-Some.block
          core.its_cache);
      opens = rw c.drop_block.ensures (opens_gone core.blocks.cached core.window c.in-Some.block
          (clean_no_put (get core.blocks.cached c.in-Some.block) clean) core.opens);
      expects = rw c.drop_block.ensures (expects_gone core.settings core.blocks.cached c.in-Some.block core.expects);
      its_marks = core.its_marks;
      absent_of = core.absent_of;
    }

pub returns-in-Some-clause-adds : goal.returns-in-Some-clause-adds
returns-in-Some-clause-adds c before place past later next s =
    let core = c.args.self.now in
    rw (c.drop_block.ensures, next)
    (drops core.geometry core.settings before core.epoch place core.blocks.cached past s core.reading c.args.pass
    c.in-Some.block c.in-Some.ensures.0 later c.in-Some.ensures.1
    (inl (full_cache core.geometry past core.blocks.cached s.on_disk s.blocks core.settings c.requires.full)))

pub returns-in-Ok-clause-adds : goal.returns-in-Ok-clause-adds
returns-in-Ok-clause-adds c before place past later next s =
    let core = c.args.self.now in
    let block = c.in-Ok.job.block in
    let facts = ready_facts core.window core.reading None block c.in-Ok.ensures.rule.0 (get core.blocks.cached block)
    c.in-Ok.ensures.rule.1.ranks_so in
    puts_from core c.put_next.new.self c.args.pass block c.put_next.new.out c.in-Ok.job c.in-Ok.ensures.puts facts.0
    (due_without_victim core block c.in-None.ensures c.requires.full) before place past later next s

pub returns-in-Err-clause-adds : goal.returns-in-Err-clause-adds
returns-in-Err-clause-adds c before place past later next s =
    let core = c.args.self.now in
    waits_from core c.put_next.new.self c.args.pass c.in-Err.why c.in-Err.ensures.puts before place past later next s

pub returns-in-Ok-clause-copies : goal.returns-in-Ok-clause-copies
returns-in-Ok-clause-copies c =
    let core = c.args.self.now in
    let block = c.in-Ok.job.block in
    let facts = ready_facts core.window core.reading None block c.in-Ok.ensures.rule.0 (get core.blocks.cached block)
    c.in-Ok.ensures.rule.1.ranks_so in
    put_copies core c.put_next.new.self c.args.pass block c.put_next.new.out c.in-Ok.job c.in-Ok.ensures.puts facts.0

pub returns-in-Some-clause-leads : goal.returns-in-Some-clause-leads
returns-in-Some-clause-leads c block missing =
    let core = c.args.self.now in
    let first = c.in-Some.ensures in
    let clean = rank_clean core.geometry.block_size [] c.in-Some.block (get core.blocks.cached c.in-Some.block) first.0
    first.1.ranks_so in
    let leads = drop_leads core c.drop_block.new.self c.in-Some.block clean c.requires.full c.drop_block.ensures in
    record { idle = leads.0; closer = leads.1 block missing; window = refl }

pub returns-in-Some-clause-open : goal.returns-in-Some-clause-open
returns-in-Some-clause-open c =
    let core = c.args.self.now in
    let first = c.in-Some.ensures in
    let clean = rank_clean core.geometry.block_size [] c.in-Some.block (get core.blocks.cached c.in-Some.block) first.0
    first.1.ranks_so in
    (drop_leads core c.drop_block.new.self c.in-Some.block clean c.requires.full c.drop_block.ensures).2

pub returns-in-Err-clause-leads : goal.returns-in-Err-clause-leads
returns-in-Err-clause-leads c =
    let core = c.args.self.now in
    owing_waits None core c.put_next.new.self c.in-Err.why
    (λ idle is. full_owing core c.in-None.ensures c.requires.full idle) c.in-Err.ensures.leads
