use Rattle.std.proofs.Common.{◌<◌, ◌+◌, ◌∙◌, List, All, subst, sym, ap, arith, sum_by}
use Rattle.sb_base.specs.declared.part.Part.{Part}
use Rattle.sb_base.specs.Ranges.{IsPart}
use Rattle.sb_base.proofs.PartLemmas.{parts_of-whole, parts_of-each}
use Rattle.sb_base.proofs.part.parts.Goals as goal

pub returns-clause-each : goal.returns-clause-each
returns-clause-each c =
    let P : List Part → Type 0 = λ ps. All (IsPart c.args.geometry.now) ps in
    let some : 0 < c.args.geometry.now.block_size = omega (arith, c.requires.sound.block_size) in
    subst P (sym c.between.ensures) (parts_of-each c.args.geometry.now c.args.length c.args.offset
    (c.args.offset + c.args.length) (omega arith) some c.requires.range)

pub returns-clause-whole : goal.returns-clause-whole
returns-clause-whole c =
    let some : 0 < c.args.geometry.now.block_size = omega (arith, c.requires.sound.block_size) in
    ap (λ (ps : List Part). sum_by (λ (part : Part). part.length) ps) c.between.ensures
    ∙ parts_of-whole c.args.length c.args.geometry.now.block_size c.args.offset (c.args.offset + c.args.length)
    (omega arith) some c.requires.range.ordered
    ∙ omega arith
