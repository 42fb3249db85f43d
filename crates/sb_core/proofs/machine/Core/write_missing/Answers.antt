use Rattle.std.proofs.Common.{arith, ◌<◌, sym, ◌∙◌, nat_eq}
use Rattle.std.specs.FinMap.{get, len}
use Rattle.sb_core.proofs.CoreEvents.{get_from}
use Rattle.sb_core.specs.Cores.{marks_of}
use Rattle.sb_core.specs.Writing.{bytes_of}
use Rattle.sb_core.proofs.WriteEvents.{adds_put, adds_room, write_from, zeros_written, unfilled, may_fresh}
use Rattle.sb_core.proofs.LeadEvents.{get_leads, get_keeps, write_ends, write_keeps}
use Rattle.sb_core.proofs.machine.Core.write_missing.Goals as goal

pub returns-then-is_too_dirty-clause-adds : goal.returns-then-is_too_dirty-clause-adds
returns-then-is_too_dirty-clause-adds c =
    adds_put c.args.self.now c.put_dirty.new.self c.args.place c.args.pass c.args.part (bytes_of c.args.part c.args.bytes)
    c.put_dirty.new.out c.put_dirty.result c.put_step.result c.put_step.ensures c.put_dirty.ensures.adds

pub returns-then-free-eq0-clause-adds : goal.returns-then-free-eq0-clause-adds
returns-then-free-eq0-clause-adds c =
    adds_room c.args.self.now c.make_room.new.self c.args.place c.args.pass c.args.part (bytes_of c.args.part c.args.bytes)
    c.make_room.new.out c.make_room.result c.room_step.result c.room_step.ensures c.make_room.ensures.adds

pub returns-clause-adds : goal.returns-clause-adds
returns-clause-adds c before past later next s =
    let core = c.args.self.now in
    let free : len core.blocks.cached < core.settings.cache_size =
    omega (arith, c.free.ensures, c.if-free-eq0.false, core.its_cache.room) in
    get_from core c.begin_get.new.self c.args.pass c.args.part.block c.begin_get.result c.begin_get.ensures.starts
    c.requires.missing free c.requires.part.block (unfilled (marks_of core c.args.part.block) (nat_eq c.args.part.length core.blocks.geometry.block_size)
    (sym c.fills-fills.ensures ∙ c.if-fills-2.false)) before c.args.place past
    later next s

pub returns-then-fills-2-clause-adds : goal.returns-then-fills-2-clause-adds
returns-then-fills-2-clause-adds c =
    let core = c.args.self.now in
    let free : len core.blocks.cached < core.blocks.room = omega (arith, c.free.ensures, c.if-free-eq0.false) in
    write_from core c.write_part-dirtied.new.self c.args.place c.args.pass c.args.part (bytes_of c.args.part c.args.bytes) c.write_part-dirtied.ensures.writes
    c.requires.part.block c.requires.part.within c.requires.bytes
    (may_fresh core.blocks (marks_of core c.args.part.block) c.args.part (get core.blocks.cached c.args.part.block)
    c.requires.missing free (sym c.fills-fills.ensures ∙ c.if-fills-2.true))

pub returns-clause-leads : goal.returns-clause-leads
returns-clause-leads c =
    let core = c.args.self.now in
    let free : len core.blocks.cached < core.blocks.room = omega (arith, c.free.ensures, c.if-free-eq0.false) in
    get_leads core c.begin_get.new.self c.args.pass c.args.part.block c.begin_get.result c.begin_get.ensures.starts
    c.requires.missing free c.begin_get.ensures.opens

pub returns-clause-open : goal.returns-clause-open
returns-clause-open c =
    get_keeps c.args.self.now c.begin_get.new.self c.args.pass c.args.part.block c.begin_get.result
    c.begin_get.ensures.starts c.requires.missing

pub returns-then-fills-2-clause-leads : goal.returns-then-fills-2-clause-leads
returns-then-fills-2-clause-leads c =
    write_ends c.args.self.now c.write_part-dirtied.new.self c.args.place c.args.part (bytes_of c.args.part c.args.bytes) c.write_part-dirtied.ensures.writes

pub returns-then-fills-2-clause-open : goal.returns-then-fills-2-clause-open
returns-then-fills-2-clause-open c =
    write_keeps c.args.self.now c.write_part-dirtied.new.self c.args.place c.args.part (bytes_of c.args.part c.args.bytes) c.write_part-dirtied.ensures.writes

pub returns-then-stays_zeros-clause-adds : goal.returns-then-stays_zeros-clause-adds
returns-then-stays_zeros-clause-adds c =
    zeros_written c.args.self.now c.args.place c.args.pass c.args.part (bytes_of c.args.part c.args.bytes)
    c.requires.missing c.requires.part.block c.requires.part.within c.requires.bytes (sym c.if-stays_zeros.ensures)
