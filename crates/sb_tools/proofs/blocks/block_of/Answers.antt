use Rattle.sb_tools.proofs.Finding.{is_block_of}
use Rattle.sb_tools.proofs.blocks.block_of.Goals as goal

pub returns : goal.returns
returns c =
    is_block_of c.reads_names.ensures c.args.prefix.now c.args.hashed c.args.name.now c.read_name.result c.read_name.ensures
