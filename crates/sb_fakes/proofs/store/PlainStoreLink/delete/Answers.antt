use Rattle.sb_fakes.proofs.FileLemmas.{taken}
use Rattle.sb_fakes.proofs.store.PlainStoreLink.delete.Goals as goal

pub returns-clause-gone : goal.returns-clause-gone
returns-clause-gone c = taken c.args.name.now c.args.self.now.objects.items _ c.take_away.ensures
