use Rattle.sb_core.specs.Cores.{reading_at}
use Rattle.sb_core.specs.Writing.{write_entry}
use Rattle.sb_core.proofs.Dirtying.{tells_dirtied}
use Rattle.sb_core.proofs.machine.Core.write.Goals as goal

pub returns-clause-dirtied : goal.returns-clause-dirtied
returns-clause-dirtied c =
    tells_dirtied c.args.self.now c.write_bytes.new.self
    (write_entry c.args.pass (reading_at c.args.now c.args.self.now) c.args.part c.args.bytes.now
    c.write_bytes.new.out c.write_bytes.result) c.args.part.block c.write_bytes.result c.write_bytes.ensures.represents
    c.write_bytes.ensures.base c.write_bytes.ensures.dirtied
