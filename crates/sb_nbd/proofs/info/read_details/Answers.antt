use Rattle.std.proofs.Common.{rules, ◌<◌, ◌∙◌, ℕ, List, length, sym, subst}
use Rattle.sb_nbd.proofs.InfoParts.{spelled, nothing_in}
use Rattle.sb_nbd.proofs.info.read_details.Goals as goal

pub returns-then-is_empty : goal.returns-then-is_empty
returns-then-is_empty c =
    let s = spelled c.args.name.now c.args.kinds.now c.args.count c.details_of-wanted.result c.requires.name
    (search rules) c.details_of-wanted.ensures in (
      s.0,
      s.1,
      s.2,
      s.3 ∙ nothing_in c.args.name.now (search rules),
      s.4,
    )

pub returns-else-is_empty : goal.returns-else-is_empty
returns-else-is_empty c =
    let s = spelled c.args.name.now c.args.kinds.now c.args.count c.details_of-wanted.result c.requires.name
    (search rules) c.details_of-wanted.ensures in (
      s.0,
      s.1,
      s.2,
      subst (λ (name : List ℕ). 0 < length name) (sym s.3) (search rules),
    )
