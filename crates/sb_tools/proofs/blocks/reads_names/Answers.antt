use Rattle.sb_tools.proofs.Finding.{reads_names}
use Rattle.sb_tools.proofs.blocks.reads_names.Goals as goal

pub returns : goal.returns
returns c = reads_names c.names_differ.ensures
