use Rattle.std.proofs.Common.{true}
use Rattle.sb_base.specs.declared.entry.EntryKind.TheVariants as kind
use Rattle.sb_core.proofs.CoreEvents.{adds_ticked}
use Rattle.sb_core.proofs.QuietEvents.{closes}
use Rattle.sb_core.proofs.machine.Core.close.Goals as goal

pub returns-clause-represents : goal.returns-clause-represents
returns-clause-represents c =
    let mid = c.tick-place.new.self in
    adds_ticked c.args.self.now mid (record mid { closed = true }) c.args.now c.tick-place.result c.args.pass kind.Closing
    c.tick-place.ensures
    (λ before past later next s. rw next (closes mid.geometry mid.settings before mid.epoch c.tick-place.result
    mid.blocks.cached past s mid.reading c.args.pass later))
