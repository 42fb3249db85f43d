use Rattle.sb_window.proofs.WindowLemmas.{purged_shape}
use Rattle.sb_window.proofs.window.Window.purge.Goals as goal

pub invariant_of-self : goal.invariant_of-self
invariant_of-self c =
    let later = rw (← c.self.view_is) at c.requires.reading in
    rw c.purge.ensures
    (purged_shape c.self.inside.md5_time c.self.inside.reading c.args.now c.self.inside.table later c.requires.limit
    c.self.invariant)
