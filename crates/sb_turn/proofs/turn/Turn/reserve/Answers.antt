use Rattle.std.proofs.Common.{rules}
use Rattle.sb_turn.proofs.Splitting.{numbers_keep}
use Rattle.sb_turn.proofs.turn.Turn.reserve.Goals as goal

pub compare_exchange-requires : goal.compare_exchange-requires
compare_exchange-requires g c = (
  search rules,
  search rules,
  numbers_keep _ _ _ _ _ _ c.args.seat.now.me _ c.requires.none.0 c.requires.none.1,
)
