use Rattle.std.proofs.Common.{[], ◌∷◌, ap, sym, subst, ◌∙◌}
use Rattle.sb_turn.specs.Histories.{IsPast}
use Rattle.sb_turn.proofs.Histories.{IsPast-append}
use Rattle.test_turns.proofs.Adds.{counts_on}
use Rattle.test_turns.proofs.adding.add.Goals as goal

pub leave_with-requires-clause-count : goal.leave_with-requires-clause-count
leave_with-requires-clause-count g c = counts_on _ _ c.args.pass.now.number c.args.amount
    (ap (λ h. h.count) c.value-counter.ensures.value ∙ c.enter-held.ensures.value.0)

pub returns-clause-seen : goal.returns-clause-seen
returns-clause-seen g c = let before = c.args.pass.now.seat.me.0.seen in let inside =
    c.enter-held.new.pass.seat.me.0.seen in let entry = (c.enter-held.new.pass.seat.me.0.number, c.args.amount) ∷ [] in
    subst (IsPast before) (sym c.leave_with.ensures.seen) (IsPast-append before inside entry c.enter-held.ensures.seen)
