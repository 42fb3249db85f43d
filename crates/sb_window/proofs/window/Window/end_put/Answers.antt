use Rattle.std.proofs.Common.{Some, sym, ◌∙◌, arith}
use Rattle.sb_window.specs.declared.last_put.LastPut.{LastPut}
use Rattle.sb_window.proofs.WindowLemmas.{set_shape, later_shape, held_stays}
use Rattle.sb_window.proofs.window.Window.end_put.Goals as goal

pub set-requires : goal.set-requires
set-requires c =
    record {
      fits =
          held_stays c.self.inside.table c.args.block _ c.in-Some._put
          (sym c.get.ensures ∙ c.in-Some.is) c.self.invariant.fits;
    }

pub invariant_of-self : goal.invariant_of-self
invariant_of-self c =
    let later = rw (← c.self.view_is) at c.requires.reading in
    let last : LastPut =
    record { ending = Some (record { reading = c.args.now; ok = c.args.ok; digest = c.args.digest }) } in
    let fits =
    held_stays c.self.inside.table c.args.block last c.in-Some._put
    (sym c.get.ensures ∙ c.in-Some.is) c.self.invariant.fits in
    let shape =
    later_shape c.self.inside.reading c.args.now c.self.inside.table later c.requires.limit c.self.invariant in
    rw c.set.ensures (set_shape c.args.now c.args.block last c.self.inside.table (omega arith) fits shape)

pub invariant_of-self-in_default : goal.invariant_of-self-in_default
invariant_of-self-in_default c =
    let later = rw (← c.self.view_is) at c.requires.reading in
    later_shape c.self.inside.reading c.args.now c.self.inside.table later c.requires.limit c.self.invariant
