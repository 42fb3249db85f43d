use Rattle.sb_tools.proofs.Ordering.{end_is}
use Rattle.sb_tools.proofs.listing.Listing.turn.Goals as goal

pub returns-in-Some : goal.returns-in-Some
returns-in-Some c = end_is _ _ _ c.in-Some.name c.args.self.now c.self.view_is c.in-Some.ensures.items
