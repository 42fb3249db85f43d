use Rattle.sb_fakes.proofs.FileLemmas.{HasNames-files}
use Rattle.sb_fakes.proofs.folder.MemoryFolderFolder.list.Goals as goal

pub returns-in-Ok-clause-told : goal.returns-in-Ok-clause-told
returns-in-Ok-clause-told c = HasNames-files _ _ (rw c.deref.ensures.value at c.in-Ok.ensures)
