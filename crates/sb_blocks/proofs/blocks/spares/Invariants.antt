use Rattle.std.proofs.Common.{◌≡◌, ◌≤◌, vec_len}
use Rattle.std.specs.Vec.{vec_capacity}
use Rattle.sb_blocks.specs.Tables.{AllRoomy}
use Rattle.sb_blocks.proofs.blocks.spares.Given as goal

abbrev pub invariant-loop-made : goal.invariant-loop-made
invariant-loop-made l =
    AllRoomy l.fn.size l.spares.items × (vec_len l.spares ≡ l.made) × (l.fn.count ≤ vec_capacity l.spares)
