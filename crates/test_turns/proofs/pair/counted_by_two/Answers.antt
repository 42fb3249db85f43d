use Rattle.std.proofs.Common.{rules, ◌≡◌, ◌<◌, ℕ, [], ◌∷◌, subst}
use Rattle.std.specs.Prelude.{None}
use Rattle.sb_turn.specs.Histories.{IsPast}
use Rattle.sb_turn.specs.Views.{IsConsistent}
use Rattle.sb_turn.proofs.Histories.{IsPast-trans}
use Rattle.test_turns.proofs.Threes.{three}
use Rattle.test_turns.proofs.pair.counted_by_two.Goals as goal

pub returns-clause-three : goal.returns-clause-three
returns-clause-three g c = let d = c.join.new.pass.seat.me.0 in let n : ℕ = c.split-two.result.seat.me.0.number in
    let more : 1 < n = search rules in
    let consistent : IsConsistent d = search rules in
    let number : d.number ≡ 1 = search rules in
    let reserved : d.reserved ≡ None = search rules in
    let opened : d.opening ≡ [] = search rules in
    let mine : d.mine ≡ (1, 4) ∷ (1, 3) ∷ [] = search rules in
    let joined : d.joined ≡ (n, (n, 4) ∷ []) ∷ [] = search rules in
    let handed : d.handed_out ≡ n ∷ [] = search rules in
    three d n more consistent number reserved opened mine joined handed

pub returns-clause-first : goal.returns-clause-first
returns-clause-first g c = let added = c.add.new.pass.seat.me.0.seen in let by_one =
    c.join-one.result.0.seat.me.0.seen in
    let start : added ≡ (1, 3) ∷ [] = search rules in
    let went_on : IsPast added by_one = search rules in
    IsPast-trans ((1, 3) ∷ []) by_one c.join.new.pass.seat.me.0.seen
    (subst (λ s. IsPast s by_one) start went_on) c.join.ensures.seen.0
