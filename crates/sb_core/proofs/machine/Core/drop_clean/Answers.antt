use Rattle.std.specs.FinMap.{get}
use Rattle.sb_core.proofs.Keeping.{gone_is_cache, opens_gone, expects_gone}
use Rattle.sb_core.proofs.CoreEvents.{clean_no_put}
use Rattle.sb_core.proofs.machine.Core.drop_clean.Goals as goal

pub invariant_of-self : goal.invariant_of-self
invariant_of-self c =
    let core = c.args.self.now in
    let block = c.args.block in
    record {
      limit = core.limit;
      given = core.given;
      its_window = core.its_window;
      its_cache = rw c.drop_block.ensures (gone_is_cache core.geometry core.settings core.blocks block core.its_cache);
      opens = rw c.drop_block.ensures (opens_gone core.blocks.cached core.window block
          (clean_no_put (get core.blocks.cached block) c.requires.clean) core.opens);
      expects = rw c.drop_block.ensures (expects_gone core.settings core.blocks.cached block core.expects);
      its_marks = core.its_marks;
      absent_of = core.absent_of;
    }
