use Rattle.std.proofs.Common.{◌≡◌}
use Rattle.sb_world.specs.Told.{Gains}
use Rattle.sb_core.specs.Cores.{marks_of}
use Rattle.sb_core.specs.Opening.{opening}
use Rattle.sb_crew.proofs.alone.Alone.open.Given as goal

-- the blocks so far that are known to be zeros stand on the tape
abbrev pub invariant-loop-block : goal.invariant-loop-block
invariant-loop-block g l = record {
  told : Gains (g.T.Tape.told l.fn.self.tape) (g.T.Tape.told l.self.tape) (opening (marks_of l.fn.self.core) l.block);
  core : l.self.core ≡ l.fn.self.core;
  names : l.self.names ≡ l.fn.self.names;
  reading : l.self.reading ≡ l.fn.self.reading;
}
