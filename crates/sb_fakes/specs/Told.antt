-- What the worlds in memory tell.
use Rattle.std.specs.Prelude.{ℕ, ◌≡◌, Bool, true, false, ◌&&◌, nat_le, nat_lt, List, [], length, Option, Some, drop}
use Rattle.std.specs.Prelude.{Result, Ok, Err, slice_get}
use Rattle.sb_world.specs.Worlds.{WorldView}
use Rattle.sb_world.specs.declared.world.MakeFault.{MakeFault}
use Rattle.sb_world.specs.declared.world.MakeFault.TheVariants as fault
use Rattle.sb_base.specs.declared.entry.Entry.{Entry}
use Rattle.sb_world.specs.declared.clock.Tick.{Tick}
use Rattle.sb_world.specs.declared.link.Link.{Ghosts}
use Rattle.sb_fakes.specs.declared.clock.HandClock.{HandClock}
use Rattle.sb_fakes.specs.declared.conn.MemoryConn.{MemoryConn}
use Rattle.sb_fakes.specs.declared.listener.MemoryListener.{MemoryListener}
use Rattle.sb_fakes.specs.declared.tape.RecordTape.{RecordTape}
use Rattle.sb_fakes.specs.declared.world.MemoryWorld.{MemoryWorld}
use Rattle.sb_fakes.specs.Worlds.{next_of, told_list}

-- the readings and pauses of a clock
abbrev pub ticks_of : HandClock → Option (List Tick)
ticks_of clock = clock.ticks

-- the bytes that a source has left, or that a sink holds
abbrev pub bytes_of : MemoryConn → Option (List ℕ)
bytes_of conn = Some (drop conn.at conn.bytes.items)

-- how often it has failed
abbrev pub faults_of : MemoryConn → ℕ
faults_of conn = conn.faults.count

-- the entries on a tape
abbrev pub entries_of : RecordTape → Option (List Entry)
entries_of tape = tape.entries

module _ {L : Type 0} {g : Ghosts L} where
  -- what a world tells: all of it, but for lists whose growth was refused
  abbrev pub world_view : MemoryWorld L g → WorldView MemoryListener L HandClock MemoryConn MemoryConn
  world_view world = record {
    next = next_of world.links.items world.clocks.items world.inputs.items world.sinks.items;
    tells = true;
    last = world.last;
    asks = world.asks;
    said = told_list world.said.items world.said_whole;
    heard = told_list world.heard.items world.heard_whole;
    faults = world.faults;
  }

  -- a world has the parts of a bench with so many links
  abbrev pub has_parts : ℕ → MemoryWorld L g → Bool
  has_parts links world = nat_le links (length world.links.items) && nat_lt 0 (length world.clocks.items)
      && nat_lt 0 (length world.inputs.items) && nat_le 2 (length world.sinks.items)

  -- a world has a link and a clock
  abbrev pub has_desk : MemoryWorld L g → Bool
  has_desk world = nat_lt 0 (length world.links.items) && nat_lt 0 (length world.clocks.items)

  -- the parts of a world but for the first of each: so many links, clocks, ends of connections and listeners
  pub record LeavesParts (links clocks inputs sinks listeners : ℕ) (old now : MemoryWorld L g) : Type 0 where
    pub links_left : now.links.items ≡ drop links old.links.items
    pub clocks_left : now.clocks.items ≡ drop clocks old.clocks.items
    pub inputs_left : now.inputs.items ≡ drop inputs old.inputs.items
    pub sinks_left : now.sinks.items ≡ drop sinks old.sinks.items
    pub listeners_left : now.listeners.items ≡ drop listeners old.listeners.items
    pub same_token : now.token ≡ old.token

  -- the parts of a world stay
  abbrev pub KeepsParts : MemoryWorld L g → MemoryWorld L g → Type 0
  KeepsParts old now = LeavesParts 0 0 0 0 0 old now

  -- a bench takes its parts; a part is missing just where there are too few, and then all stay, as without memory
  abbrev pub Hands : {B : Type 0} → ℕ → Result B MakeFault → MemoryWorld L g → MemoryWorld L g → Type 0
  Hands links (Ok bench) old now = (has_parts links old ≡ true) × LeavesParts links 1 1 2 0 old now
  Hands links (Err fault.Store) old now = (has_parts links old ≡ false) × KeepsParts old now
  Hands links (Err fault.Listen) old now = ⊥
  Hands links (Err fault.Memory) old now = (has_parts links old ≡ true) × KeepsParts old now

  -- a desk is the first link and the first clock, one of them is missing just where there is none, and then all stay
  abbrev pub HandsDesk : Result (L × HandClock) MakeFault → MemoryWorld L g → MemoryWorld L g → Type 0
  HandsDesk (Ok desk) old now = (slice_get old.links.items 0 ≡ Some desk.0)
      × (slice_get old.clocks.items 0 ≡ Some desk.1) × LeavesParts 1 1 0 0 0 old now
  HandsDesk (Err fault.Store) old now = (has_desk old ≡ false) × KeepsParts old now
  HandsDesk (Err fault.Listen) old now = ⊥
  HandsDesk (Err fault.Memory) old now = ⊥

  -- the first listener comes, and none just where there is none
  abbrev pub HandsListener : Result MemoryListener MakeFault → MemoryWorld L g → MemoryWorld L g → Type 0
  HandsListener (Ok listener) old now =
      (slice_get old.listeners.items 0 ≡ Some listener) × LeavesParts 0 0 0 0 1 old now
  HandsListener (Err fault.Listen) old now = (old.listeners.items ≡ []) × KeepsParts old now
  HandsListener (Err fault.Store) old now = ⊥
  HandsListener (Err fault.Memory) old now = ⊥
