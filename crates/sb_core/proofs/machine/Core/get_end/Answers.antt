use Rattle.std.proofs.Common.{◌≡◌, ◌<◌, ◌∙◌, Some, subst, sym, ap}
use Rattle.std.specs.FinMap.{get}
use Rattle.sb_base.specs.Lines.{shown_of}
use Rattle.sb_base.specs.declared.entry.EntryKind.TheVariants as kind
use Rattle.sb_blocks.specs.declared.cached.OpenGet.{OpenGet}
use Rattle.sb_blocks.specs.Cached.{get_in}
use Rattle.sb_blocks.specs.Caches.{CacheState}
use Rattle.sb_core.specs.Progress.{steps_left_in}
use Rattle.sb_core.specs.Leads.{OthersIdle, steps_left}
use Rattle.sb_core.specs.Judging.{is_taken}
use Rattle.sb_core.specs.Steps.{ShownFits}
use Rattle.sb_core.specs.Cores.{TakesAnswer}
use Rattle.sb_core.proofs.CoreEvents.{adds_ticked}
use Rattle.sb_core.proofs.Endings.{get_ends_from}
use Rattle.sb_core.proofs.LeadEnds.{take_idle, take_others, take_closer}
use Rattle.sb_core.proofs.machine.Core.get_end.Goals as goal

pub returns-clause-represents : goal.returns-clause-represents
returns-clause-represents c =
    let mid = c.tick-place.new.self in
    let job = c.args.job in
    let get_ : OpenGet = record { pass = c.args.pass; begun = job.begun; expect = job.expect; verify = job.verify } in
    let answer = shown_of c.args.answer in
    let opened : get_in (get mid.blocks.cached job.block) ≡ Some get_ = rw c.tick-place.ensures.blocks c.requires.job in
    let fits : ShownFits mid.geometry.block_size job.verify answer =
    rw c.tick-place.ensures.geometry c.requires.answer in
    let does = subst (TakesAnswer mid c.take.new.self c.tick-place.result job.block answer) c.is_taken.ensures c.take.ensures in
    adds_ticked c.args.self.now mid c.take.new.self c.args.now c.tick-place.result c.args.pass
    (kind.GetEnd job.block answer job.verify (is_taken c.judge-outcome.result)) c.tick-place.ensures
    (get_ends_from mid c.take.new.self c.tick-place.result job.block get_ answer c.judge-outcome.result opened fits
    c.judge-outcome.ensures does)

pub returns-clause-idle : goal.returns-clause-idle
returns-clause-idle c idle =
    let mid = c.tick-place.new.self in
    let ticks = c.tick-place.ensures in
    take_idle mid c.take.new.self c.tick-place.result c.args.job.block _ _ c.take.ensures
    (subst (λ (b : CacheState). OthersIdle c.args.job.block b.cached) (sym ticks.blocks) idle)

pub returns-clause-others : goal.returns-clause-others
returns-clause-others c other apart =
    let mid = c.tick-place.new.self in
    take_others mid c.take.new.self c.tick-place.result c.args.job.block _ _ c.take.ensures other apart
    ∙ ap (λ (b : CacheState). get b.cached other) c.tick-place.ensures.blocks

pub returns-clause-closer : goal.returns-clause-closer
returns-clause-closer c took =
    let mid = c.tick-place.new.self in
    let job = c.args.job in
    let get_ : OpenGet = record { pass = c.args.pass; begun = job.begun; expect = job.expect; verify = job.verify } in
    let answer = shown_of c.args.answer in
    let opened : get_in (get mid.blocks.cached job.block) ≡ Some get_ = rw c.tick-place.ensures.blocks c.requires.job in
    let does = subst (TakesAnswer mid c.take.new.self c.tick-place.result job.block answer) c.is_taken.ensures c.take.ensures in
    subst (λ (b : CacheState). steps_left c.take.new.self job.block < steps_left_in b job.block)
    c.tick-place.ensures.blocks
    (take_closer mid c.take.new.self c.tick-place.result job.block get_ answer c.judge-outcome.result opened does took)
