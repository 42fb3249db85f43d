use Rattle.sb_dirstore.proofs.NameLemmas.{blocks_are_objects}
use Rattle.sb_dirstore.proofs.laws.blocks_are_objects.Goals as goal

pub returns : goal.returns
returns c = blocks_are_objects
