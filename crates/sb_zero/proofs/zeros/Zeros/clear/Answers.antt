use Rattle.std.proofs.Common.{◌≡◌, ◌/◌, ◌%◌, ◌+◌, ℕ, true, subst, sym, ◌∙◌, arith, rules, length}
use Rattle.std.proofs.lemmas.Grind.{get_or_default_zero}
use Rattle.sb_zero.specs.Marks.{is_set, SetsBit}
use Rattle.sb_zero.proofs.Bits.{one_less, has_word}
use Rattle.sb_zero.proofs.zeros.Zeros.clear.Goals as goal

pub overflow_sub-self : goal.overflow_sub-self
overflow_sub-self c =
    let words = c.args.self.now.words.items in
    let sized : length words ≡ c.args.self.now.blocks / 64 + 1 = sym c.args.self.now.words.ok.0 ∙ c.args.self.now.sized in
    let within = has_word words c.args.block c.args.self.now.blocks sized c.requires in
    let sets = subst (λ (w : ℕ). SetsBit w c.without_bit.result (c.args.block % 64) 0) (c.index.ensures ∙ get_or_default_zero words (c.args.block / 64) c.index.result.now within) c.without_bit.ensures in
    let was : is_set words c.args.block ≡ true = search rules in
    let less = one_less words c.args.block c.without_bit.result c.args.self.now.blocks c.requires within sets was in
    omega (arith, c.args.self.now.counted, less)

pub invariant_of-self : goal.invariant_of-self
invariant_of-self c =
    let words = c.args.self.now.words.items in
    let sized : length words ≡ c.args.self.now.blocks / 64 + 1 = sym c.args.self.now.words.ok.0 ∙ c.args.self.now.sized in
    let within = has_word words c.args.block c.args.self.now.blocks sized c.requires in
    let sets = subst (λ (w : ℕ). SetsBit w c.without_bit.result (c.args.block % 64) 0) (c.index.ensures ∙ get_or_default_zero words (c.args.block / 64) c.index.result.now within) c.without_bit.ensures in
    let was : is_set words c.args.block ≡ true = search rules in
    let less = one_less words c.args.block c.without_bit.result c.args.self.now.blocks c.requires within sets was in
    record { sized = c.args.self.now.sized; counted = omega (arith, c.args.self.now.counted, less) }
