-- What the world of a process tells: nothing but its count of faults.
use Rattle.std.specs.Prelude.{false, None}
use Rattle.sb_world.specs.Worlds.{WorldView}
use Rattle.sb_host.specs.declared.clock.HostClock.{HostClock}
use Rattle.sb_host.specs.declared.folder.HostFolder.{HostFolder}
use Rattle.sb_host.specs.declared.store.Store.{Store}
use Rattle.sb_host.specs.declared.wire.TcpWire.{TcpWire}
use Rattle.sb_host.specs.declared.tcp.HostListener.{HostListener}
use Rattle.sb_host.specs.declared.streams.HostSource.{HostSource}
use Rattle.sb_host.specs.declared.streams.HostSink.{HostSink}
use Rattle.sb_host.specs.declared.world.HostWorld.{HostWorld}

abbrev pub world_view : HostWorld
    → WorldView HostListener (Store TcpWire HostFolder HostClock) HostClock HostSource HostSink
world_view world = record {
  next = None;
  tells = false;
  last = None;
  asks = None;
  said = None;
  heard = None;
  faults = world.faults;
}
