use Rattle.sb_dirstore.specs.Objects.{objects_of}
use Rattle.sb_dirstore.proofs.ObjectLemmas.{HasNames-objects}
use Rattle.sb_dirstore.proofs.listing.keep_page.Goals as goal

pub returns : goal.returns
returns c files has =
    c.next_page.ensures (objects_of files)
    (rw (c.drop_temporary.ensures, c.page.view_is) (HasNames-objects c.args.page.now files has))
