use Rattle.std.proofs.Common.{◌∙◌, refl}
use Rattle.std.specs.Cmp.Lexicographic.{lists_agrees}
use Rattle.sb_tools.proofs.Ordering.{greater_is}
use Rattle.sb_tools.proofs.listing.is_above.Goals as goal

pub returns : goal.returns
returns c = c.gt.ensures ∙ greater_is c.args.name.now c.args.before.now
