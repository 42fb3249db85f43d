use Rattle.std.proofs.Common.{rules, arith, ◌<◌, ℕ, subst, ap, sym, ◌∙◌}
use Rattle.sb_turn.proofs.Splitting.{splits_keep}
use Rattle.sb_turn.proofs.turn.Turn.split.Goals as goal

pub split_seat-seat-requires : goal.split_seat-seat-requires
split_seat-seat-requires g c = let e = c.take_number-number.ensures.taken in let own =
    c.args.pass.now.own in let less = e.1 in (
      search rules,
      search rules,
      splits_keep _ _ _ _ _ c.take_number-number.new.seat.me.0 c.take_number-number.result (ap (λ m. m.0.reserved) e.0)
          (omega arith)
          (subst (λ (x : ℕ). 0 < x) (own.0 ∙ sym (ap (λ m. m.0.number) e.0)) own.1),
    )
