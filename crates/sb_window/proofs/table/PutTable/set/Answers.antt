use Rattle.std.proofs.Common.{sym, subst, arith}
use Rattle.std.proofs.lemmas.List.Edits.{length-insert}
use Rattle.sb_window.specs.Tables.{IsTable}
use Rattle.sb_window.proofs.TableLemmas.{set_table, set_view}
use Rattle.sb_window.proofs.table.PutTable.set.Goals as goal

pub invariant_of-self : goal.invariant_of-self
invariant_of-self c =
    let rows = c.self.inside.rows.items in
    let written = rw c.deref.ensures.value at (c.in-Ok.ensures.found.written c.args.put) in
    let fits = rw (← c.self.view_is) at c.requires.fits in
    (set_table c.self.inside.room rows _ c.args.block c.args.put c.self.invariant.0 written fits, c.self.invariant.1)

pub returns-in-Ok : goal.returns-in-Ok
returns-in-Ok c =
    let rows = c.self.inside.rows.items in
    let written = rw c.deref.ensures.value at (c.in-Ok.ensures.found.written c.args.put) in
    rw (← c.self.view_is) (set_view c.self.inside.room rows _ c.args.block c.args.put c.self.invariant.0 written)

pub invariant_of-self-in-Ok-insert : goal.invariant_of-self-in-Ok-insert
invariant_of-self-in-Ok-insert c =
    let rows = c.self.inside.rows.items in
    let inserted = rw c.deref.ensures.value at (c.in-Err.ensures.absent.inserted c.args.put) in
    let fits = rw (← c.self.view_is) at c.requires.fits in
    let shaped = set_table c.self.inside.room rows _ c.args.block c.args.put c.self.invariant.0 inserted fits in (
      subst (IsTable c.self.inside.room) (sym c.in-Ok-insert.ensures.items) shaped,
      omega
          (arith, c.insert.ensures.capacity, c.self.invariant.1),
    )

pub returns-in-Ok-insert : goal.returns-in-Ok-insert
returns-in-Ok-insert c =
    let rows = c.self.inside.rows.items in
    let inserted = rw c.deref.ensures.value at (c.in-Err.ensures.absent.inserted c.args.put) in
    rw (c.in-Ok-insert.ensures.items, ← c.self.view_is)
    (set_view c.self.inside.room rows _ c.args.block c.args.put c.self.invariant.0 inserted)

pub unreachable-requires : goal.unreachable-requires
unreachable-requires c =
    let rows = c.self.inside.rows.items in
    let inserted = rw c.deref.ensures.value at (c.in-Err.ensures.absent.inserted c.args.put) in
    let fits = rw (← c.self.view_is) at c.requires.fits in
    let shaped = set_table c.self.inside.room rows _ c.args.block c.args.put c.self.invariant.0 inserted fits in
    let place = rw c.deref.ensures.value at c.in-Err.ensures.absent.in_range in
    let longer = length-insert rows c.in-Err.place (c.args.block, c.args.put) place in
    omega (arith, shaped.fits, longer, c.in-Err-insert.ensures.full, c.self.invariant.1)
