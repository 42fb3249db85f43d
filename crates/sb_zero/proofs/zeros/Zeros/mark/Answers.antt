use Rattle.std.proofs.Common.{◌≡◌, ◌/◌, ◌%◌, ◌+◌, ℕ, false, subst, sym, ◌∙◌, arith, rules, set, length}
use Rattle.std.proofs.lemmas.Grind.{get_or_default_zero}
use Rattle.sb_zero.specs.Marks.{is_set, SetsBit}
use Rattle.sb_zero.proofs.Counts.{count_within}
use Rattle.sb_zero.proofs.Bits.{one_more, has_word}
use Rattle.sb_zero.proofs.zeros.Zeros.mark.Goals as goal

pub overflow_add-self : goal.overflow_add-self
overflow_add-self c =
    let words = c.args.self.now.words.items in
    let sized : length words ≡ c.args.self.now.blocks / 64 + 1 = sym c.args.self.now.words.ok.0 ∙ c.args.self.now.sized in
    let within = has_word words c.args.block c.args.self.now.blocks sized c.requires in
    let sets = subst (λ (w : ℕ). SetsBit w c.with_bit.result (c.args.block % 64) 1) (c.index.ensures ∙ get_or_default_zero words (c.args.block / 64) c.index.result.now within) c.with_bit.ensures in
    let was : is_set words c.args.block ≡ false = search rules in
    let more = one_more words c.args.block c.with_bit.result c.args.self.now.blocks c.requires within sets was in
    let most = count_within (is_set (set words (c.args.block / 64) c.with_bit.result)) c.args.self.now.blocks in
    omega (arith, c.args.self.now.counted, more, most, c.well_formed)

pub invariant_of-self : goal.invariant_of-self
invariant_of-self c =
    let words = c.args.self.now.words.items in
    let sized : length words ≡ c.args.self.now.blocks / 64 + 1 = sym c.args.self.now.words.ok.0 ∙ c.args.self.now.sized in
    let within = has_word words c.args.block c.args.self.now.blocks sized c.requires in
    let sets = subst (λ (w : ℕ). SetsBit w c.with_bit.result (c.args.block % 64) 1) (c.index.ensures ∙ get_or_default_zero words (c.args.block / 64) c.index.result.now within) c.with_bit.ensures in
    let was : is_set words c.args.block ≡ false = search rules in
    let more = one_more words c.args.block c.with_bit.result c.args.self.now.blocks c.requires within sets was in
    record { sized = c.args.self.now.sized; counted = omega (arith, c.args.self.now.counted, more) }
