use Rattle.std.proofs.Common.{◌∙◌, []}
use Rattle.std.specs.FinMap.{get}
use Rattle.sb_base.specs.declared.entry.EntryKind.TheVariants as kind
use Rattle.sb_core.specs.declared.step.JobStep.TheVariants.{Dropped}
use Rattle.sb_core.specs.Jobs.{HasPutJob, HasDropJob}
use Rattle.sb_core.specs.Writing.{is_too_dirty}
use Rattle.sb_core.proofs.Counts.{rank_clean}
use Rattle.sb_core.proofs.CoreEvents.{one_ticked}
use Rattle.sb_core.proofs.QuietEvents.{stops, sleeps}
use Rattle.sb_core.proofs.LeadEvents.{put_keeps}
use Rattle.sb_core.proofs.LeadsSince.{since_keeps}
use Rattle.sb_core.proofs.JobSearch.{first_comes}
use Rattle.sb_core.proofs.WorkerEvents.{job_facts, job_put_from, job_drop_from, job_drop_keeps, open_rule, none_due}
use Rattle.sb_core.proofs.machine.Core.next_job.Goals as goal

pub returns-then-self-clause-represents : goal.returns-then-self-clause-represents
returns-then-self-clause-represents c past marked s =
    let mid = c.tick-place.new.self in
    one_ticked c.args.self.now mid mid c.args.now c.tick-place.result c.args.pass kind.Stopped c.tick-place.ensures past s
    (λ before later next at_. rw next (stops mid.geometry mid.settings before mid.epoch c.tick-place.result
    mid.blocks.cached past at_ mid.reading c.args.pass later))

pub returns-in-Now-clause-represents : goal.returns-in-Now-clause-represents
returns-in-Now-clause-represents c past marked s =
    let mid = c.tick-place.new.self in
    let block = c.in-Now.block in
    let starts = c.begin_put.ensures.starts in
    rw starts.is_block (one_ticked c.args.self.now mid c.begin_put.new.self c.args.now c.tick-place.result c.args.pass
    (kind.PutBegin block c.begin_put.new.out) c.tick-place.ensures past s
    (λ before later next at_. job_put_from mid c.begin_put.new.self c.tick-place.result c.args.pass block
    c.in-Now.ensures.0 c.begin_put.new.out c.begin_put.result starts c.in-Now.ensures.1.ranks_so before past
    (c.tick-place.ensures.last_mark ∙ marked) later next at_))

pub returns-in-Now-clause-open : goal.returns-in-Now-clause-open
returns-in-Now-clause-open c =
    let mid = c.tick-place.new.self in
    let block = c.in-Now.block in
    let facts = job_facts mid.window mid.settings mid.reading mid.last_mark (is_too_dirty mid.settings mid.blocks.cached)
    block c.in-Now.ensures.0 (get mid.blocks.cached block) c.in-Now.ensures.1.ranks_so in
    since_keeps c.args.self.now mid c.begin_put.new.self c.args.now c.tick-place.result c.tick-place.ensures
    (put_keeps mid c.begin_put.new.self c.args.pass block c.begin_put.new.out c.begin_put.result
    c.begin_put.ensures.starts facts.dirty)

pub returns-in-Now-next_drop-clause-represents : goal.returns-in-Now-next_drop-clause-represents
returns-in-Now-next_drop-clause-represents c past marked s =
    let mid = c.tick-place.new.self in
    one_ticked c.args.self.now mid c.drop_clean.new.self c.args.now c.tick-place.result c.args.pass
    (kind.Dropped c.in-Now-next_drop.block) c.tick-place.ensures past s
    (λ before later next at_. job_drop_from mid c.drop_clean.new.self c.tick-place.result c.args.pass
    c.in-Now-next_drop.block c.drop_clean.ensures c.in-Now-next_drop.ensures before past later next at_)

pub returns-in-Now-next_drop-clause-open : goal.returns-in-Now-next_drop-clause-open
returns-in-Now-next_drop-clause-open c =
    let mid = c.tick-place.new.self in
    let block = c.in-Now-next_drop.block in
    let victim = c.in-Now-next_drop.ensures.victim in
    since_keeps c.args.self.now mid c.drop_clean.new.self c.args.now c.tick-place.result c.tick-place.ensures
    (job_drop_keeps mid c.drop_clean.new.self block c.drop_clean.ensures
    (rank_clean mid.geometry.block_size [] block (get mid.blocks.cached block) victim.0 victim.1.ranks_so))

pub returns-in-Now-next_drop-clause-answer : goal.returns-in-Now-next_drop-clause-answer
returns-in-Now-next_drop-clause-answer c =
    let mid = c.tick-place.new.self in
    let ticks = c.tick-place.ensures in
    let step = Dropped c.in-Now-next_drop.block in
    rw (
      ← ticks.reading,
      ← ticks.window,
      ← ticks.settings,
      ← ticks.last_mark,
      ← ticks.blocks,
      ← ticks.closed,
    ) (open_rule mid.window mid.settings mid.last_mark mid.blocks.cached mid.reading mid.closed step c.if-self.false (
      none_due mid.window mid.settings mid.last_mark mid.blocks.cached mid.reading c.in-From.ensures.not_yet,
      c.in-Now-next_drop.ensures,
    ))

pub returns-in-From-next_drop-clause-represents : goal.returns-in-From-next_drop-clause-represents
returns-in-From-next_drop-clause-represents c past marked s =
    let mid = c.tick-place.new.self in
    one_ticked c.args.self.now mid mid c.args.now c.tick-place.result c.args.pass (kind.Slept c.min.result)
    c.tick-place.ensures past s
    (λ before later next at_. rw next (sleeps mid.geometry mid.settings before mid.epoch c.tick-place.result
    mid.blocks.cached past at_ mid.reading c.args.pass c.min.result later))

pub returns-in-From-next_drop-clause-answer : goal.returns-in-From-next_drop-clause-answer
returns-in-From-next_drop-clause-answer c =
    let mid = c.tick-place.new.self in
    let ticks = c.tick-place.ensures in
    rw (
      c.min.ensures,
      ← ticks.reading,
      ← ticks.window,
      ← ticks.settings,
      ← ticks.last_mark,
      ← ticks.blocks,
      ← ticks.closed,
    ) (open_rule mid.window mid.settings mid.last_mark mid.blocks.cached mid.reading mid.closed _ c.if-self.false
    (first_comes (HasPutJob mid.window mid.settings mid.last_mark mid.blocks.cached)
    (HasDropJob mid.settings mid.blocks.cached) mid.reading c.in-From.put c.in-From-next_drop.drop c.in-From.ensures
    c.in-From-next_drop.ensures))
