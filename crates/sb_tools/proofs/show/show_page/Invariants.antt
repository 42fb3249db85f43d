use Rattle.std.proofs.Common.{◌≡◌, ◌≤◌, length, take}
use Rattle.sb_world.specs.Streams.{Holds}
use Rattle.sb_tools.specs.Blocks.{blocks_in}
use Rattle.sb_tools.specs.Showing.{lines_in}
use Rattle.sb_tools.proofs.show.show_page.Given as goal

-- the lines of the names so far were written
abbrev pub invariant-loop-name : goal.invariant-loop-name
invariant-loop-name g l = record {
  wrote : Holds (g.S.Sink.held l.fn.sink) (g.S.Sink.held l.sink) (lines_in l.prefix l.hashed (take l.name-index l.names));
  count : l.shown ≡ length (blocks_in l.prefix l.hashed (take l.name-index l.names));
  fits : l.shown ≤ l.name-index;
  later : g.S.Sink.faults l.fn.sink ≤ g.S.Sink.faults l.sink;
}
