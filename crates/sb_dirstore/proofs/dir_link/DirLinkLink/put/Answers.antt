use Rattle.std.proofs.Common.{ap, sym, ◌∙◌}
use Rattle.sb_dirstore.proofs.ObjectLemmas.{PutsObject-from_Puts}
use Rattle.sb_dirstore.proofs.dir_link.DirLinkLink.put.Goals as goal

pub returns-clause-object : goal.returns-clause-object
returns-clause-object g c object = record {
  told = λ files now.
      let told = c.store-answer.ensures.told.told files (ap g.F.Folder.files (sym c.count.ensures.stays.0) ∙ now) in
      (told.0, told.1, PutsObject-from_Puts _ _ _ _ _ object told.2);
}
