use Rattle.std.proofs.Common.{◌≢◌, refl, ap, ◌∙◌}
use Rattle.sb_window.specs.Tables.{Table}
use Rattle.sb_window.specs.Windows.{window_of}
use Rattle.sb_window.proofs.WindowLemmas.{purged_shape, begun_shape, fits_begun, set_open}
use Rattle.sb_window.proofs.window.Window.begin_put.Goals as goal

pub set-requires : goal.set-requires
set-requires c =
    let ready = rw (← c.self.view_is) at c.requires.ready in
    let same = ap (λ (t : Table). t.room) c.purge.ensures in
    let on : c.self.inside.table.room ≢ 0 = λ off. c.if-room-ne0.true (c.room.ensures ∙ same ∙ off) in
    let before =
    window_of c.self.inside.min_write_delay c.self.inside.md5_time c.self.inside.reading c.self.inside.table in
    record { fits = rw c.purge.ensures (fits_begun before c.args.block c.args.now _ c.self.invariant.fits on ready) }

pub invariant_of-self : goal.invariant_of-self
invariant_of-self c =
    let later = rw (← c.self.view_is) at c.requires.reading in
    let ready = rw (← c.self.view_is) at c.requires.ready in
    let same = ap (λ (t : Table). t.room) c.purge.ensures in
    let on : c.self.inside.table.room ≢ 0 = λ off. c.if-room-ne0.true (c.room.ensures ∙ same ∙ off) in
    rw (c.set.ensures, c.purge.ensures)
    (begun_shape c.self.inside.min_write_delay c.self.inside.md5_time c.self.inside.reading c.args.now c.args.block _
    c.self.inside.table tt later c.requires.limit c.self.invariant on ready)

pub invariant_of-self-else-room-ne0 : goal.invariant_of-self-else-room-ne0
invariant_of-self-else-room-ne0 c =
    let later = rw (← c.self.view_is) at c.requires.reading in
    rw c.purge.ensures
    (purged_shape c.self.inside.md5_time c.self.inside.reading c.args.now c.self.inside.table later c.requires.limit
    c.self.invariant)

pub returns-then-room-ne0-clause-fits : goal.returns-then-room-ne0-clause-fits
returns-then-room-ne0-clause-fits c = (invariant_of-self c).fits

pub returns-else-room-ne0-clause-fits : goal.returns-else-room-ne0-clause-fits
returns-else-room-ne0-clause-fits c = (invariant_of-self-else-room-ne0 c).fits

pub returns-then-room-ne0-clause-open : goal.returns-then-room-ne0-clause-open
returns-then-room-ne0-clause-open c on = rw c.set.ensures (set_open c.purge.new.self.puts c.args.block _ refl)
