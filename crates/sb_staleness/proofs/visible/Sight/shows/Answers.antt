use Rattle.std.proofs.lemmas.Bool.Decides.{Decides-at}
use Rattle.sb_staleness.specs.Showing.{visible_to}
use Rattle.sb_staleness.proofs.ShowingLemmas.{decides_shown}
use Rattle.sb_staleness.proofs.visible.Sight.shows.Goals as goal

pub returns-in_default : goal.returns-in_default
returns-in_default c =
    Decides-at c.shows_content.result _ c.shows_content.ensures
    (decides_shown c.args.block_size (visible_to c.args.self.now) c.args.verify c.args.answer.now
    c.in_default.not-Failed)
