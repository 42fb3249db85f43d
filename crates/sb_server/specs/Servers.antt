-- What a server asks for, does and gives back. Lists are newest first, but for clients and workers.
use Rattle.std.specs.Prelude.{ℕ, ◌≡◌, ◌⊎◌, List, [], ◌∷◌, ◌++◌, Some, IfSome, Result, Ok, Err}
use Rattle.sb_world.specs.Told.{Gains, IsUnused}
use Rattle.sb_world.specs.Benches.{BenchParts, with_links, shut_bench}
use Rattle.sb_world.specs.Worlds.{WorldView, with_last, with_heard}
use Rattle.sb_world.specs.declared.clock.Clock as clock
use Rattle.sb_world.specs.declared.link.Link as link
use Rattle.sb_world.specs.declared.listener.Listener as listener
use Rattle.sb_world.specs.declared.listener.ListenFault.{ListenFault}
use Rattle.sb_world.specs.declared.listener.ListenFault.TheVariants as listen
use Rattle.sb_world.specs.declared.world.Ask.{Ask}
use Rattle.sb_world.specs.declared.world.Ask.TheVariants as ask
use Rattle.sb_world.specs.declared.world.MakeFault.{MakeFault}
use Rattle.sb_world.specs.declared.world.MakeFault.TheVariants as fault
use Rattle.sb_crew.specs.declared.calls.FlushFault.{FlushFault}
use Rattle.sb_crew.specs.declared.disk.Disk.{Disk}
use Rattle.sb_crew.specs.Safety.{IsSafe}
use Rattle.sb_crew.specs.Sharing.{seen_by, caller_of}
use Rattle.sb_crew.specs.SharedDisks.{fixed_of_disk}
use Rattle.sb_server.specs.declared.caller.Caller.{Caller}
use Rattle.sb_server.specs.declared.client.Client.{Client}
use Rattle.sb_server.specs.declared.mount.Mount.{Mount}
use Rattle.sb_server.specs.declared.server.Crew.{Crew}
use Rattle.sb_server.specs.declared.server.ServeFault.{ServeFault}
use Rattle.sb_server.specs.declared.server.ServeFault.TheVariants as serve
use Rattle.sb_server.specs.declared.server.ServerEnd.{ServerEnd}
use Rattle.sb_server.specs.declared.server.ServerEnd.TheVariants as end
use Rattle.sb_server.specs.declared.serving.Served.{Served}
use Rattle.sb_server.specs.Tellings.{Telling}
use Rattle.sb_server.specs.Callers.{CorePass}
use Rattle.sb_server.specs.Endings.{AllServed, FlushesLast}
use Rattle.sb_server.specs.Gatherings.{client_asks, worker_asks, AsksFor, AreClientsAnew, AreWorkersAnew}
use Rattle.sb_server.specs.Handings.{heard_of_clients, heard_of_workers}
use Rattle.sb_server.specs.Mounts.{IsNewDisk}

-- what a server asks for: a bench over its store with one link, and behind it a listener and a desk of each client and
-- a desk of each worker
abbrev pub asks_behind_bench : Mount → List Ask
asks_behind_bench mount = worker_asks mount.store mount.settings.threads
    ++ client_asks mount.store mount.address mount.connections mount.settings.clients

abbrev pub server_asks : Mount → List Ask
server_asks mount = asks_behind_bench mount ++ ask.Bench (Some mount.store) 1 ∷ []

-- the fault of the first client that has one
abbrev pub fault_or : Result Unit ListenFault → Result Unit ListenFault → Result Unit ListenFault
fault_or (Ok done) others = others
fault_or (Err fault) others = Err fault

abbrev pub first_fault : {N L C : Type 0} → List (Caller (Client N L C)) → Result Unit ListenFault
first_fault [] = Ok tt
first_fault (client ∷ clients) = fault_or client.tools.ended (first_fault clients)

-- a server ends with the first fault of its clients, and else with that of the last flush
abbrev pub serve_end : Result Unit ListenFault → Result Unit FlushFault → Result Unit ServeFault
serve_end (Ok done) (Ok flushed) = Ok tt
serve_end (Ok done) (Err fault) = Err (serve.Flush fault)
serve_end (Err listen.Failed) flushed = Err serve.Listen

-- clients and workers, as many as the settings say, that nothing was done with
pub record IsCrewAnew {N L C R S : Type 0} (listeners : listener.Ghosts N R S) (links : link.Ghosts L) (mount : Mount)
    (crew : Crew N L C) : Type 0 where
  pub clients : AreClientsAnew listeners links mount.geometry mount.settings.clients crew.clients.items
  pub workers : AreWorkersAnew links mount.geometry 0 mount.settings.threads crew.workers.items

-- a bench with another link, which is its only one, and another clock
abbrev pub bench_with : {L C R S : Type 0} → L × C → BenchParts L C R S → BenchParts L C R S
bench_with desk bench = record {
  links = desk.0 ∷ [];
  clock = desk.1;
  input = bench.input;
  output = bench.output;
  errors = bench.errors;
}

module _ {N L C R S : Type 0} (tells : Telling N L C R S) (links : link.Ghosts L) (clocks : clock.Ghosts C) where
  -- what was done with a disk by clients and workers, up to its last flush: all of it is one history, which is safe
  pub record CrewServed (mount : Mount) (disk : Disk) (all all' : Served N L C) (flushed : Result Unit FlushFault)
      : Type 0 where
    pub new : IsNewDisk mount disk all.pass
    pub served : AllServed tells links clocks disk mount.read_only all.pass all'.pass all.clients.items
        all'.clients.items all.workers.items all'.workers.items
    pub flush : FlushesLast disk mount.read_only (caller_of links clocks all.pass all.desk)
        (caller_of links clocks all'.pass all'.desk) flushed
    pub safe : IsSafe (fixed_of_disk disk) (seen_by all'.pass)

  -- clients and workers of a crew served a disk with a link and a clock, and were handed over then
  pub record LinkServed {R' S' : Type 0} (mount : Mount) (crew : Crew N L C) (desk desk' : L × C)
      (before after : WorldView N L C R' S') (pass : CorePass) (result : Result Unit ServeFault) : Type 0 where
    pub disk : Disk
    pub all : Served N L C
    pub all' : Served N L C
    pub clients_are : all.clients ≡ crew.clients
    pub workers_are : all.workers ≡ crew.workers
    pub desk_is : desk ≡ (all.desk.link, all.desk.clock)
    pub desk_is' : desk' ≡ (all'.desk.link, all'.desk.clock)
    pub flushed : Result Unit FlushFault
    pub served : CrewServed mount disk all all' flushed
    pub pass_is : pass ≡ all'.pass
    pub result_is : result ≡ serve_end (first_fault all'.clients.items) flushed
    pub heard : Gains before.heard after.heard
        (heard_of_workers all'.workers.items ++ heard_of_clients all'.clients.items)
    pub others : after ≡ with_heard after.heard before

  -- so it did, or there was no memory for a disk, and nothing was done
  abbrev pub LinkServes : {R' S' : Type 0} → Mount → Crew N L C → L × C → L × C → WorldView N L C R' S'
      → WorldView N L C R' S' → ServerEnd → Type 0
  LinkServes mount crew desk desk' before after (end.Served pass result) =
      LinkServed mount crew desk desk' before after pass result
  LinkServes mount crew desk desk' before after (end.Unmade fault.Memory) = (desk' ≡ desk) × (after ≡ before)
  LinkServes mount crew desk desk' before after (end.Unmade other) = ⊥

  -- the same with the link and the clock of a bench, which was shut then
  pub record ServesBench {R' S' : Type 0} (mount : Mount) (crew : Crew N L C) (bench : BenchParts L C R' S')
      (before after : WorldView N L C R' S') (ended : ServerEnd) : Type 0 where
    pub link : L
    pub desk' : L × C
    pub link_is : bench.links ≡ link ∷ []
    pub served_then : WorldView N L C R' S'
    pub serves : LinkServes mount crew (link, bench.clock) desk' before served_then ended
    pub shut : after ≡ with_last (shut_bench served_then.tells (bench_with desk' bench)) served_then

  -- a disk was served: all was made that the world was asked for, nothing of which had been used, and given back
  pub record MountServed {R' S' : Type 0} (listeners : listener.Ghosts N R S) (mount : Mount)
      (before after : WorldView N L C R' S') (pass : CorePass) (result : Result Unit ServeFault) : Type 0 where
    pub asked_then : WorldView N L C R' S'
    pub asked : AsksFor (server_asks mount) before asked_then (Ok (tt {0}))
    pub bench : BenchParts L C R' S'
    pub link : L
    pub desk' : L × C
    pub next_is : IfSome before.next (λ told. bench ≡ with_links 1 told)
    pub link_is : bench.links ≡ link ∷ []
    pub unused : IsUnused (links.log link) (links.faults link)
    pub crew : Crew N L C
    pub anew : IsCrewAnew listeners links mount crew
    pub served_then : WorldView N L C R' S'
    pub served : LinkServed mount crew (link, bench.clock) desk' asked_then served_then pass result
    pub shut : after ≡ with_last (shut_bench before.tells (bench_with desk' bench)) served_then

-- a bench that wasn't made, or one that was shut as it came
abbrev pub ShutAsItCame : {N L C R S : Type 0} → Mount → List Ask → WorldView N L C R S → WorldView N L C R S
    → WorldView N L C R S → Type 0
ShutAsItCame {N} {L} {C} {R} {S} mount asks before asked after =
    ((asks ≡ ask.Bench (Some mount.store) 1 ∷ []) × (after ≡ asked))
    ⊎ ((bench : BenchParts L C R S) × IfSome before.next (λ told. bench ≡ with_links 1 told)
    × (after ≡ with_last (shut_bench before.tells bench) asked))

-- no disk was made: something that the world was asked for wasn't, or memory was wanted
pub record MountUnmade {N L C R S : Type 0} (mount : Mount) (before after : WorldView N L C R S) (fault : MakeFault)
    : Type 0 where
  pub asked_then : WorldView N L C R S
  pub asked : AsksFor {T = Unit {0}} (server_asks mount) before asked_then (Err fault)
  pub back : ShutAsItCame mount asked.asks before asked_then after

-- how a server ended
abbrev pub ServerEnds : {N L C R S R' S' : Type 0} → Telling N L C R S → listener.Ghosts N R S → link.Ghosts L
    → clock.Ghosts C → Mount → WorldView N L C R' S' → WorldView N L C R' S' → ServerEnd → Type 0
ServerEnds tells listeners links clocks mount before after (end.Served pass result) =
    MountServed tells links clocks listeners mount before after pass result
ServerEnds tells listeners links clocks mount before after (end.Unmade fault) =
    MountUnmade mount before after fault
