use Rattle.std.proofs.Common.{◌≡◌, ◌∙◌, Some, subst, sym, ap}
use Rattle.sb_base.specs.declared.entry.EntryKind.TheVariants as kind
use Rattle.std.specs.FinMap.{get}
use Rattle.sb_blocks.specs.Cached.{put_in}
use Rattle.sb_blocks.specs.Caches.{CacheState}
use Rattle.sb_core.specs.Leads.{OthersIdle}
use Rattle.sb_core.proofs.LeadsSince.{since_closer}
use Rattle.sb_blocks.specs.declared.cached.OpenPut.{OpenPut}
use Rattle.sb_base.specs.declared.settings.Settings.{Settings}
use Rattle.sb_core.specs.PutWindow.{IsPutDigest}
use Rattle.sb_core.proofs.CoreEvents.{one_ticked}
use Rattle.sb_core.proofs.Endings.{put_ends_from}
use Rattle.sb_core.proofs.LeadEnds.{end_idle, end_others, end_closer, end_dirty}
use Rattle.sb_core.proofs.machine.Core.put_end.Goals as goal

pub returns-clause-represents : goal.returns-clause-represents
returns-clause-represents c past is_digest s =
    let mid = c.tick-place.new.self in
    let put : OpenPut = record { pass = c.args.pass; zeros = c.args.job.zeros } in
    let opened : put_in (get mid.blocks.cached c.args.job.block) ≡ Some put =
    rw c.tick-place.ensures.blocks c.requires.job in
    let of_mid = subst (λ (settings : Settings). IsPutDigest settings past c.args.job.block c.args.digest)
    (sym c.tick-place.ensures.settings) is_digest in
    one_ticked c.args.self.now mid c.end_put.new.self c.args.now c.tick-place.result c.args.pass
    (kind.PutEnd c.args.job.block c.args.ok) c.tick-place.ensures past s
    (λ before later next at_. put_ends_from mid c.end_put.new.self c.tick-place.result c.args.job.block c.args.ok
    c.args.digest put opened c.end_put.ensures before past of_mid later next at_)

pub returns-clause-idle : goal.returns-clause-idle
returns-clause-idle c idle =
    let put : OpenPut = record { pass = c.args.pass; zeros = c.args.job.zeros } in
    let mid = c.tick-place.new.self in
    let opened : put_in (get mid.blocks.cached c.args.job.block) ≡ Some put =
    rw c.tick-place.ensures.blocks c.requires.job in
    end_idle mid c.end_put.new.self c.args.job.block c.args.job.zeros c.args.ok c.args.digest put opened c.end_put.ensures
    (subst (λ (b : CacheState). OthersIdle c.args.job.block b.cached) (sym c.tick-place.ensures.blocks) idle)

pub returns-clause-closer : goal.returns-clause-closer
returns-clause-closer c is =
    let put : OpenPut = record { pass = c.args.pass; zeros = c.args.job.zeros } in
    let mid = c.tick-place.new.self in
    let opened : put_in (get mid.blocks.cached c.args.job.block) ≡ Some put =
    rw c.tick-place.ensures.blocks c.requires.job in
    since_closer c.args.self.now mid c.end_put.new.self c.args.now c.tick-place.result c.tick-place.ensures
    (end_closer mid c.end_put.new.self c.args.job.block c.args.job.zeros c.args.ok c.args.digest put opened c.end_put.ensures is)

pub returns-clause-dirty : goal.returns-clause-dirty
returns-clause-dirty c is =
    let put : OpenPut = record { pass = c.args.pass; zeros = c.args.job.zeros } in
    let mid = c.tick-place.new.self in
    let opened : put_in (get mid.blocks.cached c.args.job.block) ≡ Some put =
    rw c.tick-place.ensures.blocks c.requires.job in
    end_dirty mid c.end_put.new.self c.args.job.block c.args.job.zeros c.args.ok c.args.digest put opened c.end_put.ensures is

pub returns-clause-others : goal.returns-clause-others
returns-clause-others c other apart =
    end_others c.tick-place.new.self c.end_put.new.self c.args.job.block c.args.job.zeros c.args.ok c.args.digest c.end_put.ensures other apart
    ∙ ap (λ (b : CacheState). get b.cached other) c.tick-place.ensures.blocks
