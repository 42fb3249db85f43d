use Rattle.std.proofs.Common.{rules, arith, ◌+◌, ◌-◌, ◌*◌, ◌≡◌, ◌∙◌, ◌++◌, ap, sym, take, drop}
use Rattle.std.proofs.Math.Seq.{take-add}
use Rattle.sb_nbd.proofs.InfoParts.{one_kind_more}
use Rattle.sb_nbd.proofs.info.details_of.Goals as goal

pub loop-i-preserved : goal.loop-i-preserved
loop-i-preserved c =
    let i = c.loop-i.i in
    let kinds = c.args.kinds.now in
    let two : 2 * i + 2 - 2 * i ≡ 2 = omega arith in
    let next : 2 * (i + 1) ≡ 2 * i + 2 = omega arith in
    one_kind_more (take (2 * i) kinds) (take (2 * i + 2 - 2 * i) (drop (2 * i) kinds)) (take (2 * (i + 1)) kinds) i
    c.u16_of.result c.loop-i.wanted c.with_kind-wanted.result (search rules) c.u16_of.ensures
    (ap (λ n. take n kinds) next ∙ take-add (2 * i) 2 kinds
    ∙ ap (λ n. take (2 * i) kinds ++ take n (drop (2 * i) kinds)) (sym two))
    c.with_kind-wanted.ensures c.loop-i.invariant
