use Rattle.std.proofs.lemmas.Option.{IfSome_then}
use Rattle.sb_dirstore.proofs.files.list.Goals as goal

pub returns-in-Ok-clause-listed : goal.returns-in-Ok-clause-listed
returns-in-Ok-clause-listed g c =
    IfSome_then (g.F.Folder.files c.args.folder.now) c.in-Ok.ensures.told c.keep_page.ensures
