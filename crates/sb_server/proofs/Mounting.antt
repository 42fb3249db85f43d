-- A server's asks, its disk and its end, put together.
use Rattle.std.proofs.Common.{ℕ, zero, suc, ◌≡◌, Bool, List, [], ◌∷◌, ◌++◌, Option, Some, IfSome, Result, Ok, Err, length, refl, sym, ◌∙◌, ap, subst, inl, inr, arith}
use Rattle.std.specs.List.{AllByRecursion}
use Rattle.sb_base.specs.declared.access.StorePlan.{StorePlan}
use Rattle.sb_base.specs.declared.geometry.Geometry.{Geometry}
use Rattle.sb_world.specs.Told.{CountsJust, Gains, IsUnused}
use Rattle.sb_world.specs.Benches.{BenchParts, with_links, link_count, shut_bench}
use Rattle.sb_world.specs.Worlds.{HeardParts, WorldView, IsOfStore, Makes, MakesBench, with_last, with_heard}
use Rattle.sb_world.specs.declared.clock.Clock as clock
use Rattle.sb_world.specs.declared.link.Link as link
use Rattle.sb_world.specs.declared.listener.Listener as listener
use Rattle.sb_world.specs.declared.world.Ask.{Ask}
use Rattle.sb_world.specs.declared.world.Ask.TheVariants as ask
use Rattle.sb_world.specs.declared.world.MakeFault.{MakeFault}
use Rattle.sb_world.specs.declared.world.MakeFault.TheVariants as fault
use Rattle.sb_crew.specs.declared.disk.Disk.{Disk}
use Rattle.sb_crew.specs.Desks.{HasRoom}
use Rattle.sb_crew.specs.SharedDisks.{fixed_of_disk}
use Rattle.sb_server.specs.declared.caller.Caller.{Caller}
use Rattle.sb_server.specs.declared.client.Client.{Client}
use Rattle.sb_server.specs.declared.mount.Mount.{Mount}
use Rattle.sb_server.specs.declared.server.Crew.{Crew}
use Rattle.sb_server.specs.declared.server.ServerEnd.{ServerEnd}
use Rattle.sb_server.specs.declared.server.ServerEnd.TheVariants as end
use Rattle.sb_server.specs.declared.worker.Worker.{Worker}
use Rattle.sb_server.specs.Clients.{HasDesk}
use Rattle.sb_server.specs.Gatherings.{AsksFor, AreClientsAnew, AreWorkersAnew}
use Rattle.sb_server.specs.Handings.{HandsOver}
use Rattle.sb_server.specs.Servers.{asks_behind_bench, server_asks, bench_with, IsCrewAnew, ServesBench, ServerEnds}
use Rattle.sb_server.specs.Tellings.{Telling}
use Rattle.sb_server.specs.Workers.{HasWorkDesk}
use Rattle.sb_server.proofs.Asking.{same_failed, asks_one, bench_failed, asks_then, asks_failed, asks_made, asks_in_vain}

-- clients and workers just made have desks of a disk with their geometry
pub clients_fit : {N L C R S : Type 0} (listeners : listener.Ghosts N R S) (links : link.Ghosts L)
    (geometry : Geometry) (disk : Disk) (count : ℕ) (clients : List (Caller (Client N L C)))
    → (fixed_of_disk disk).geometry ≡ geometry → AreClientsAnew listeners links geometry count clients
    → AllByRecursion (HasDesk disk) clients
clients_fit listeners links geometry disk zero [] is are = tt
clients_fit listeners links geometry disk zero (x ∷ xs) is are = absurd are
clients_fit listeners links geometry disk (suc count) [] is are = absurd are
clients_fit listeners links geometry disk (suc count) (x ∷ xs) is are = (
  subst (λ (shape : Geometry). HasRoom shape x.tools.desk) (sym is) are.0.desk.room,
  clients_fit listeners links geometry disk count xs is are.1,
)

pub workers_fit : {L C : Type 0} (links : link.Ghosts L) (geometry : Geometry) (disk : Disk) (first count : ℕ)
    (workers : List (Caller (Worker L C))) → (fixed_of_disk disk).geometry ≡ geometry
    → AreWorkersAnew links geometry first count workers → AllByRecursion (HasWorkDesk disk) workers
workers_fit links geometry disk first zero [] is are = tt
workers_fit links geometry disk first zero (x ∷ xs) is are = absurd are
workers_fit links geometry disk first (suc count) [] is are = absurd are
workers_fit links geometry disk first (suc count) (x ∷ xs) is are = (
  subst (λ (shape : Geometry). HasRoom shape x.tools.desk) (sym is) are.0.room,
  workers_fit links geometry disk (suc first) count xs is are.2,
)

-- a list of one
pub only : {X : Type 0} (front : List X) (x : X) → length (front ++ x ∷ []) ≡ 1 → front ++ x ∷ [] ≡ x ∷ []
only [] x one = refl
only (y ∷ []) x one = absurd (omega (arith, one))
only (y ∷ z ∷ ys) x one = absurd (omega (arith, one))

none_before : {X : Type 0} (front : List X) (x y : X) → length (front ++ x ∷ []) ≡ 1 → front ++ y ∷ [] ≡ y ∷ []
none_before [] x y one = refl
none_before (z ∷ []) x y one = absurd (omega (arith, one))
none_before (z ∷ v ∷ zs) x y one = absurd (omega (arith, one))

-- the only link was taken out, and another put in its place
pub put_back : {X : Type 0} (links front links' : List X) (x y : X) → length links ≡ 1 → links ≡ front ++ x ∷ []
    → links' ≡ front ++ y ∷ [] → (links ≡ x ∷ []) × (links' ≡ y ∷ [])
put_back {X} links front links' x y one is is' =
    let counted : length (front ++ x ∷ []) ≡ 1 = subst (λ (l : List X). length l ≡ 1) is one in
    (is ∙ only front x counted, is' ∙ none_before front x y counted)

same_bench : {L C R S : Type 0} (link : L) (desk : L × C) (bench : BenchParts L C R S) → bench.links ≡ link ∷ []
    → desk ≡ (link, bench.clock) → bench_with desk bench ≡ bench
same_bench {L} {C} {R} {S} link desk bench is same =
    ap (λ (d : L × C). bench_with d bench) same ∙ ap (λ (l : List L). record {
      links = l;
      clock = bench.clock;
      input = bench.input;
      output = bench.output;
      errors = bench.errors;
    }) (sym is)

first_unused : {L C R S : Type 0} (links : link.Ghosts L) (bench : BenchParts L C R S) (link : L) → bench.links ≡ link ∷ []
    → AllByRecursion (λ (l : L). IsUnused (links.log l) (links.faults l)) bench.links
    → IsUnused (links.log link) (links.faults link)
first_unused {L} {C} {R} {S} links bench link is all =
    (subst (λ (ls : List L). AllByRecursion (λ (l : L). IsUnused (links.log l) (links.faults l)) ls) is all).0

-- a bench was shut whose only link came back
pub shut_with : {N L C R S : Type 0} (a b : WorldView N L C R S) (bench : BenchParts L C R S) (links : List L)
    (desk : L × C) → b ≡ with_last (shut_bench a.tells (record {
      links = links;
      clock = desk.1;
      input = bench.input;
      output = bench.output;
      errors = bench.errors;
    })) a → links ≡ desk.0 ∷ [] → b ≡ with_last (shut_bench a.tells (bench_with desk bench)) a
shut_with {L} a b bench links desk shut is = shut ∙ ap (λ (ls : List L). with_last (shut_bench a.tells (record {
  links = ls;
  clock = desk.1;
  input = bench.input;
  output = bench.output;
  errors = bench.errors;
})) a) is

-- what was handed over is all that changed since the world was last asked for something
pub handed_since : {N L C R S : Type 0} (a b c : WorldView N L C R S) (parts : List (HeardParts N L C)) → b ≡ a
    → HandsOver b c parts → Gains a.heard c.heard parts × (c ≡ with_heard c.heard a)
handed_since {N} {L} {C} {R} {S} a b c parts same hands = (
  subst (λ (w : WorldView N L C R S). Gains w.heard c.heard parts) same hands.told,
  subst (λ (w : WorldView N L C R S). c ≡ with_heard c.heard w) same hands.others,
)

module _ {N L C R S : Type 0} where
  -- a bench was asked for
  bench_makes : (a b : WorldView N L C R S) (store : StorePlan) (result : Result (BenchParts L C R S) MakeFault)
      → MakesBench a b (Some store) 1 result → Makes a b (ask.Bench (Some store) 1) result
  bench_makes a b store result made = record {
    asked = made.asked;
    counted = made.counted;
    same_tells = made.same_tells;
    same_last = made.same_last;
    same_said = made.same_said;
    same_heard = made.same_heard;
  }

  bench_asked : (a b : WorldView N L C R S) (store : StorePlan) (bench : BenchParts L C R S)
      → MakesBench a b (Some store) 1 (Ok bench)
      → AsksFor {T = Unit {0}} (ask.Bench (Some store) 1 ∷ []) a b (Ok (tt {0}))
  bench_asked a b store bench made =
      asks_one (BenchParts L C R S) (Unit {0}) a b (ask.Bench (Some store) 1) bench (tt {0})
      (bench_makes a b store (Ok bench) made)

  -- no bench was made
  pub no_bench : {R' S' : Type 0} (tells : Telling N L C R' S') (listeners : listener.Ghosts N R' S')
      (links : link.Ghosts L) (clocks : clock.Ghosts C) (mount : Mount) (a b : WorldView N L C R S) (f : MakeFault)
      → IsOfStore f → MakesBench {R = R} {S = S} a b (Some mount.store) 1 (Err f)
      → ServerEnds tells listeners links clocks mount a b (end.Unmade f)
  no_bench tells listeners links clocks mount a b f fits made = record {
    asked_then = b;
    asked = record {
      asks = ask.Bench (Some mount.store) 1 ∷ [];
      left_out = asks_behind_bench mount;
      in_order = refl;
      whole = tt;
      failed = bench_failed (Some mount.store) 1 f fits;
      asked = made.asked;
      counted = subst (λ (failed : Bool). CountsJust a.faults b.faults failed)
          (same_failed (BenchParts L C R S) (Unit {0}) f) made.counted;
      same_tells = made.same_tells;
      same_last = made.same_last;
      same_said = made.same_said;
      same_heard = made.same_heard;
    };
    back = inl (refl, refl);
  }

  -- a bench was made, and something behind it wasn't
  pub no_crew : {R' S' : Type 0} (tells : Telling N L C R' S') (listeners : listener.Ghosts N R' S')
      (links : link.Ghosts L) (clocks : clock.Ghosts C) (mount : Mount) (a b c d : WorldView N L C R S)
      (bench : BenchParts L C R S) (f : MakeFault) → MakesBench a b (Some mount.store) 1 (Ok bench)
      → AsksFor {T = Crew N L C} (asks_behind_bench mount) b c (Err f)
      → d ≡ with_last (shut_bench c.tells bench) c → ServerEnds tells listeners links clocks mount a d (end.Unmade f)
  no_crew tells listeners links clocks mount a b c d bench f made failed shut = record {
    asked_then = c;
    asked = asks_failed (Crew N L C) (Unit {0}) a c (server_asks mount) [] f
        (asks_then a b c (ask.Bench (Some mount.store) 1 ∷ []) (asks_behind_bench mount) (tt {0}) (Err f)
        (bench_asked a b mount.store bench made) failed);
    back = inr (
      bench,
      made.next_is,
      shut ∙ ap (λ t. with_last (shut_bench t bench) c)
          (failed.same_tells ∙ made.same_tells),
    );
  }

  -- all was made, and the disk was served, or there was no memory for it
  pub bench_served : {R' S' : Type 0} (tells : Telling N L C R' S') (listeners : listener.Ghosts N R' S')
      (links : link.Ghosts L) (clocks : clock.Ghosts C) (mount : Mount) (a b c d : WorldView N L C R S)
      (bench : BenchParts L C R S) (crew : Crew N L C) (ended : ServerEnd)
      → MakesBench a b (Some mount.store) 1 (Ok bench)
      → AllByRecursion (λ (l : L). IsUnused (links.log l) (links.faults l)) bench.links
      → AsksFor (asks_behind_bench mount) b c (Ok crew) → IsCrewAnew listeners links mount crew
      → ServesBench tells links clocks mount crew bench c d ended
      → ServerEnds tells listeners links clocks mount a d ended
  bench_served tells listeners links clocks mount a b c d bench crew (end.Served pass result) made unused asked anew serves =
      record {
        asked_then = c;
        asked = asks_made (Crew N L C) (Unit {0}) a c (server_asks mount) crew (tt {0})
            (asks_then a b c (ask.Bench (Some mount.store) 1 ∷ []) (asks_behind_bench mount) (tt {0}) (Ok crew)
            (bench_asked a b mount.store bench made) asked);
        bench = bench;
        link = serves.link;
        desk' = serves.desk';
        next_is = made.next_is;
        link_is = serves.link_is;
        unused = first_unused links bench serves.link serves.link_is unused;
        crew = crew;
        anew = anew;
        served_then = serves.served_then;
        served = serves.serves;
        shut = serves.shut ∙ ap (λ t. with_last (shut_bench t (bench_with serves.desk' bench)) serves.served_then)
            (ap (λ (w : WorldView N L C R S). w.tells) serves.serves.others ∙ asked.same_tells ∙ made.same_tells);
      }
  bench_served tells listeners links clocks mount a b c d bench crew (end.Unmade fault.Memory) made unused asked anew serves =
      let same = same_bench serves.link serves.desk' bench serves.link_is serves.serves.0 in
      record {
        asked_then = c;
        asked = asks_in_vain (Crew N L C) (Unit {0}) a c (server_asks mount) crew
            (asks_then a b c (ask.Bench (Some mount.store) 1 ∷ []) (asks_behind_bench mount) (tt {0}) (Ok crew)
            (bench_asked a b mount.store bench made) asked);
        back = inr (
          bench,
          made.next_is,
          serves.shut
              ∙ ap (λ (w : WorldView N L C R S). with_last (shut_bench w.tells (bench_with serves.desk' bench)) w)
              serves.serves.1
              ∙ ap (λ (whole : BenchParts L C R S). with_last (shut_bench c.tells whole) c) same
              ∙ ap (λ t. with_last (shut_bench t bench) c) (asked.same_tells ∙ made.same_tells),
        );
      }
  bench_served tells listeners links clocks mount a b c d bench crew (end.Unmade fault.Store) made unused asked anew serves =
      absurd serves.serves
  bench_served tells listeners links clocks mount a b c d bench crew (end.Unmade fault.Listen) made unused asked anew serves =
      absurd serves.serves
