use Rattle.sb_fakes.specs.Versions.{newest_body}
use Rattle.sb_fakes.proofs.timed.TimedStore.names_after.Goals as goal

pub returns : goal.returns
returns c = c.next_page.ensures (newest_body c.args.self.now) c.in_ok-page-inside.ensures
