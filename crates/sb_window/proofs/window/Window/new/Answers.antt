use Rattle.sb_window.proofs.WindowLemmas.{new_shape}
use Rattle.sb_window.proofs.window.Window.new.Goals as goal

pub invariant_of-result : goal.invariant_of-result
invariant_of-result c = rw c.in_ok-with_room.ensures (new_shape c.args.settings.now.md5_size)
