use Rattle.std.proofs.Common.{◌+◌, ◌≤◌, ◌<◌, sym}
use Rattle.std.specs.FinMap.{get}
use Rattle.sb_base.specs.declared.line.Why.TheVariants.{Busy}
use Rattle.sb_base.specs.declared.entry.EntryKind.TheVariants as kind
use Rattle.sb_core.specs.Cores.{marks_of}
use Rattle.sb_core.specs.Writing.{bytes_of, write_kind}
use Rattle.sb_core.proofs.CoreEvents.{adds_ticked, waits_from, stays_put}
use Rattle.sb_core.proofs.WriteEvents.{adds_put, write_from, may_held}
use Rattle.sb_core.proofs.Answering.{dirty_answer}
use Rattle.sb_core.proofs.LeadEvents.{write_ends, write_keeps, write_put_leads}
use Rattle.sb_core.proofs.LeadsSince.{since_keeps, since_end, since_write}
use Rattle.sb_core.proofs.machine.Core.write_bytes.Goals as goal

pub returns-then-is_missing-clause-represents : goal.returns-then-is_missing-clause-represents
returns-then-is_missing-clause-represents c =
    adds_ticked c.args.self.now c.tick-place.new.self c.write_missing.new.self c.args.now c.tick-place.result c.args.pass
    (write_kind c.args.part (bytes_of c.args.part c.args.bytes) c.write_missing.new.out c.write_missing.result) c.tick-place.ensures
    c.write_missing.ensures.adds

pub returns-then-not-holds-clause-represents : goal.returns-then-not-holds-clause-represents
returns-then-not-holds-clause-represents c =
    let mid = c.tick-place.new.self in
    adds_ticked c.args.self.now mid mid c.args.now c.tick-place.result c.args.pass
    (kind.Waited (Busy c.args.part.block)) c.tick-place.ensures
    (λ before past later next s. waits_from mid mid c.args.pass (Busy c.args.part.block) (stays_put mid) before
    c.tick-place.result past later next s)

pub returns-then-is_one_too_many-clause-represents : goal.returns-then-is_one_too_many-clause-represents
returns-then-is_one_too_many-clause-represents c =
    let mid = c.tick-place.new.self in
    adds_ticked c.args.self.now mid c.put_dirty.new.self c.args.now c.tick-place.result c.args.pass
    (write_kind c.args.part (bytes_of c.args.part c.args.bytes) c.put_dirty.new.out c.put_step.result) c.tick-place.ensures
    (adds_put mid c.put_dirty.new.self c.tick-place.result c.args.pass c.args.part (bytes_of c.args.part c.args.bytes)
    c.put_dirty.new.out c.put_dirty.result c.put_step.result c.put_step.ensures c.put_dirty.ensures.adds)

pub returns-clause-represents : goal.returns-clause-represents
returns-clause-represents c =
    let mid = c.tick-place.new.self in
    let on : c.args.part.block < mid.geometry.blocks = rw c.tick-place.ensures.geometry c.requires.part.block in
    let within : c.args.part.offset + c.args.part.length ≤ mid.geometry.block_size =
    rw c.tick-place.ensures.geometry c.requires.part.within in
    adds_ticked c.args.self.now mid c.write_part-dirtied.new.self c.args.now c.tick-place.result c.args.pass
    (kind.Write c.args.part (bytes_of c.args.part c.args.bytes)) c.tick-place.ensures
    (write_from mid c.write_part-dirtied.new.self c.tick-place.result c.args.pass c.args.part (bytes_of c.args.part c.args.bytes)
    c.write_part-dirtied.ensures.writes on within c.requires.bytes
    (may_held mid.blocks (marks_of mid c.args.part.block) c.args.part (get mid.blocks.cached c.args.part.block) (sym c.if-not-holds.ensures)))

pub returns-clause-leads : goal.returns-clause-leads
returns-clause-leads c =
    let mid = c.tick-place.new.self in
    since_end c.args.self.now mid c.write_part-dirtied.new.self c.args.now c.tick-place.result c.tick-place.ensures
    (write_ends mid c.write_part-dirtied.new.self c.tick-place.result c.args.part (bytes_of c.args.part c.args.bytes) c.write_part-dirtied.ensures.writes)

pub returns-clause-open : goal.returns-clause-open
returns-clause-open c =
    let mid = c.tick-place.new.self in
    since_keeps c.args.self.now mid c.write_part-dirtied.new.self c.args.now c.tick-place.result c.tick-place.ensures
    (write_keeps mid c.write_part-dirtied.new.self c.tick-place.result c.args.part (bytes_of c.args.part c.args.bytes) c.write_part-dirtied.ensures.writes)

pub returns-then-is_missing-clause-leads : goal.returns-then-is_missing-clause-leads
returns-then-is_missing-clause-leads c =
    since_write c.args.self.now c.tick-place.new.self c.write_missing.new.self c.args.now c.tick-place.result
    c.tick-place.ensures c.args.pass c.args.part.block c.write_missing.new.out c.write_missing.result
    c.write_missing.ensures.leads

pub returns-then-is_one_too_many-clause-leads : goal.returns-then-is_one_too_many-clause-leads
returns-then-is_one_too_many-clause-leads c =
    let mid = c.tick-place.new.self in
    since_write c.args.self.now mid c.put_dirty.new.self c.args.now c.tick-place.result c.tick-place.ensures c.args.pass
    c.args.part.block c.put_dirty.new.out c.put_step.result
    (write_put_leads mid c.put_dirty.new.self c.args.pass c.args.part.block c.put_dirty.new.out c.put_dirty.result
    c.put_step.result c.put_step.ensures c.put_dirty.ensures.leads)

pub returns-then-is_one_too_many-clause-answer : goal.returns-then-is_one_too_many-clause-answer
returns-then-is_one_too_many-clause-answer c =
    let mid = c.tick-place.new.self in
    rw (
      ← c.tick-place.ensures.reading,
      ← c.tick-place.ensures.window,
      ← c.tick-place.ensures.settings,
      ← c.tick-place.ensures.blocks,
      ← c.tick-place.ensures.marks,
    ) (dirty_answer mid c.args.part (bytes_of c.args.part c.args.bytes) (get mid.blocks.cached c.args.part.block)
    c.put_dirty.result c.put_step.result c.put_step.ensures (sym c.if-not-holds.ensures) c.if-is_one_too_many.ensures
    c.put_dirty.ensures.rule)
