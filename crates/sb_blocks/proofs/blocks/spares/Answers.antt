use Rattle.std.proofs.Common.{sym, subst, arith}
use Rattle.sb_blocks.specs.Tables.{AllRoomy}
use Rattle.sb_blocks.proofs.CacheLemmas.{roomy_push}
use Rattle.sb_blocks.proofs.blocks.spares.Goals as goal

pub loop-made-preserved : goal.loop-made-preserved
loop-made-preserved c = (
  subst (AllRoomy c.args.size) (sym c.in_ok-push.ensures.items)
      (roomy_push c.args.size c.loop-made.spares.items c.in_ok-reserve.field-0 c.loop-made.invariant.0 c.in_ok-reserve.ensures),
  omega (arith, c.in_ok-push.ensures.len, c.loop-made.invariant.1),
  omega (arith, c.in_ok-push.ensures.capacity, c.loop-made.invariant.2),
)
