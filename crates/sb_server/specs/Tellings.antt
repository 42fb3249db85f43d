-- What is told of what clients and workers work with. Lists are newest first.
use Rattle.std.specs.Prelude.{ℕ, Bool, List, Option}
use Rattle.sb_world.specs.Listeners.{Handed}
use Rattle.sb_world.specs.declared.clock.Tick.{Tick}
use Rattle.sb_world.specs.declared.link.Call.{Call}
use Rattle.sb_world.specs.declared.clock.Clock as clock
use Rattle.sb_world.specs.declared.link.Link as link
use Rattle.sb_world.specs.declared.listener.Listener as listener
use Rattle.sb_world.specs.declared.stream.Source as source
use Rattle.sb_world.specs.declared.stream.Sink as sink

-- how listeners, links, clocks, sources and sinks of these types tell what they did, and count their faults
pub record Telling (N L C R S : Type 0) : Type 0 where
  pub came : N → Option (List (Option (List ℕ)))
  pub over : N → Option Bool
  pub gave : N → Option (List (Handed R S))
  pub listen_faults : N → ℕ
  pub log : L → Option (List Call)
  pub link_faults : L → ℕ
  pub ticks : C → Option (List Tick)
  pub left : R → Option (List ℕ)
  pub read_faults : R → ℕ
  pub held : S → Option (List ℕ)
  pub write_faults : S → ℕ

-- as their traits say
abbrev pub telling : {N L C R S : Type 0} → listener.Ghosts N R S → link.Ghosts L → clock.Ghosts C → source.Ghosts R
    → sink.Ghosts S → Telling N L C R S
telling listeners links clocks sources sinks = record {
  came = listeners.came;
  over = listeners.over;
  gave = listeners.gave;
  listen_faults = listeners.faults;
  log = links.log;
  link_faults = links.faults;
  ticks = clocks.ticks;
  left = sources.left;
  read_faults = sources.faults;
  held = sinks.held;
  write_faults = sinks.faults;
}
