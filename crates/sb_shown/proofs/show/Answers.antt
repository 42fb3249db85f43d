use Rattle.std.proofs.Common.{length-take, arith}
use Rattle.sb_shown.proofs.show.Goals as goal

pub slice_bounds-show_bytes-end : goal.slice_bounds-show_bytes-end
slice_bounds-show_bytes-end c = omega (arith, length-take 128 c.args.value.now, c.if-value-gt-MAX_SHOWN.true)
