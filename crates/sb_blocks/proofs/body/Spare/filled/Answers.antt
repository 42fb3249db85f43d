use Rattle.std.proofs.Common.{◌≡◌, ◌+◌, ◌-◌, ◌++◌, ◌∙◌, ap, vec_len, arith, length}
use Rattle.sb_history.specs.Contents.{zeros}
use Rattle.sb_blocks.proofs.BodyLemmas.{filled_is}
use Rattle.sb_blocks.proofs.body.Spare.filled.Goals as goal

pub returns : goal.returns
returns c =
    let left : c.args.size - vec_len c.extend.new.bytes ≡ c.args.size - (c.args.offset + length c.args.bytes.now) =
    omega (arith, c.extend.ensures.len, c.extend_by_zeros.ensures.len) in
    let first : c.args.offset - vec_len c.clear.new.self ≡ c.args.offset - 0 = omega (arith, c.clear.ensures.len) in
    filled_is c.args.size c.args.offset c.args.bytes.now c.extend_by_zeros-2.new.bytes.items c.requires.within
    (c.extend_by_zeros-2.ensures.items
    ∙ ap (λ n. c.extend.new.bytes.items ++ zeros n) left
    ∙ ap (λ items. items ++ zeros (c.args.size - (c.args.offset + length c.args.bytes.now)))
    (c.extend.ensures.items ∙ ap (λ items. items ++ c.args.bytes.now)
    (c.extend_by_zeros.ensures.items ∙ ap (λ n. c.clear.new.self.items ++ zeros n) first
    ∙ ap (λ items. items ++ zeros (c.args.offset - 0)) c.clear.ensures.items)))
