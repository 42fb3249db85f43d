use Rattle.std.proofs.Common.{rules, ◌<◌, ℕ, subst}
use Rattle.sb_turn.proofs.Splitting.{joins_keep}
use Rattle.sb_turn.proofs.turn.Turn.join.Goals as goal

pub join_seat-requires : goal.join_seat-requires
join_seat-requires g c = let p = c.requires.pass.1 in let o = c.requires.other.1 in (
  search rules,
  search rules,
  search rules,
  search rules,
  joins_keep _ _ _ _ _ c.args.pass.now.seat.me.0 _ c.args.other.seat.me.0 p.0 o.0 p.2 o.2
      (subst (λ (x : ℕ). 0 < x) c.args.pass.now.own.0 c.args.pass.now.own.1),
)
