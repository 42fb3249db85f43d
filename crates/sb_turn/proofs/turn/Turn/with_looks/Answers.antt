use Rattle.std.proofs.Common.{◌≡◌, ℕ, ◌<◌, [], ◌∷◌, ◌++◌, subst, ap, sym, ◌∙◌}
use Rattle.std.specs.Prelude.{Some}
use Rattle.atomic_table.specs.Table.{opening}
use Rattle.sb_turn.specs.Histories.{entries_of_pass}
use Rattle.sb_turn.specs.Views.{first_view}
use Rattle.sb_turn.specs.Rule.{IsOrdered}
use Rattle.sb_turn.proofs.Splitting.{starts}
use Rattle.sb_turn.proofs.turn.Turn.with_looks.Goals as goal

pub new-requires : goal.new-requires
new-requires g c = let e = c.of-key.ensures in let d = g.S.Stands in
    let items = c.in_ok-push.ensures.items ∙ ap (λ l. l ++ Some c.args.value ∷ []) c.new-slots.ensures.items in
    subst (λ l. IsOrdered d.stands d.base (d.base c.of-key.result.value) (d.opening c.of-key.result.value)
    (opening (0 ∷ 0 ∷ 0 ∷ 2 ∷ []) l (first_view (d.base c.of-key.result.value)
    (d.opening c.of-key.result.value)))) (sym items)
    (starts d.stands d.base (d.base c.of-key.result.value) (d.opening c.of-key.result.value) c.args.value
    (subst (λ v. d.stands c.args.value (d.opening v)) (sym e) c.requires.stands)
    (subst (λ v. (k : ℕ) → 0 < k → entries_of_pass k (d.opening v) ≡ []) (sym e) c.requires.opening)
    (ap d.base (sym e)))
