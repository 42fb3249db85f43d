-- What a run can see of a bench and of the tape. Lists are newest first.
use Rattle.std.specs.Prelude.{ℕ, List, Option}
use Rattle.sb_base.specs.declared.entry.Entry.{Entry}
use Rattle.sb_world.specs.Benches.{BenchParts}
use Rattle.sb_world.specs.declared.clock.Tick.{Tick}
use Rattle.sb_world.specs.declared.link.Call.{Call}
use Rattle.sb_world.specs.declared.link.Link as link
use Rattle.sb_world.specs.declared.clock.Clock as clock
use Rattle.sb_world.specs.declared.stream.Source as source
use Rattle.sb_world.specs.declared.stream.Sink as sink
use Rattle.sb_session.specs.Streams.{Streams}

-- how links, clocks, sources and sinks of these types tell what they did, and count their faults
pub record Telling (L C R S : Type 0) : Type 0 where
  pub log : L → Option (List Call)
  pub link_faults : L → ℕ
  pub ticks : C → Option (List Tick)
  pub left : R → Option (List ℕ)
  pub read_faults : R → ℕ
  pub held : S → Option (List ℕ)
  pub write_faults : S → ℕ

-- as their traits say
abbrev pub telling : {L C R S : Type 0} → link.Ghosts L → clock.Ghosts C → source.Ghosts R → sink.Ghosts S
    → Telling L C R S
telling links clocks sources sinks = record {
  log = links.log;
  link_faults = links.faults;
  ticks = clocks.ticks;
  left = sources.left;
  read_faults = sources.faults;
  held = sinks.held;
  write_faults = sinks.faults;
}

-- what one session works with
pub record Gear (L C R S : Type 0) : Type 0 where
  pub link : L
  pub clock : C
  pub input : R
  pub output : S
  pub errors : S

abbrev pub gear_of : {L C R S : Type 0} → L → C → R → S → S → Gear L C R S
gear_of link clock input output errors =
    record { link = link; clock = clock; input = input; output = output; errors = errors }

-- a link, and the other parts of a bench
abbrev pub gear_in : {L C R S : Type 0} → L → BenchParts L C R S → Gear L C R S
gear_in link bench = gear_of link bench.clock bench.input bench.output bench.errors

-- what is told of it, and of the tape
pub record View : Type 0 where
  pub log : Option (List Call)
  pub link_faults : ℕ
  pub ticks : Option (List Tick)
  pub streams : Streams
  pub read_faults : ℕ
  pub write_faults : ℕ
  pub errors : Option (List ℕ)
  pub error_faults : ℕ
  pub tape : Option (List Entry)

abbrev pub view_of : {L C R S : Type 0} → Telling L C R S → Gear L C R S → Option (List Entry) → View
view_of tells gear tape = record {
  log = tells.log gear.link;
  link_faults = tells.link_faults gear.link;
  ticks = tells.ticks gear.clock;
  streams = record { left = tells.left gear.input; held = tells.held gear.output };
  read_faults = tells.read_faults gear.input;
  write_faults = tells.write_faults gear.output;
  errors = tells.held gear.errors;
  error_faults = tells.write_faults gear.errors;
  tape = tape;
}
