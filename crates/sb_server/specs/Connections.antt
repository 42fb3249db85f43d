-- Connections that were served. Lists are newest first.
use Rattle.std.specs.Prelude.{ℕ, ◌≡◌, ◌<◌, Bool, List, [], ◌∷◌, Option, Some}
use Rattle.sb_turn.specs.Views.{Account}
use Rattle.sb_world.specs.Told.{IsEmpty, CountsFaults}
use Rattle.sb_world.specs.Listeners.{Handed}
use Rattle.sb_history.specs.Requests.{RequestLog}
use Rattle.sb_core.specs.declared.standing.Timed.{Timed}
use Rattle.sb_core.specs.Standing.{entries_in}
use Rattle.sb_crew.specs.declared.disk.Disk.{Disk}
use Rattle.sb_crew.specs.Names.{name_of}
use Rattle.sb_crew.specs.Scenes.{Deed, nothing, followed}
use Rattle.sb_crew.specs.SharedDisks.{shared_names, base_of_disk}
use Rattle.sb_nbd.specs.declared.end.NbdEnd.TheVariants.{ReadFault, WriteFault}
use Rattle.sb_session.specs.declared.end.SessionEnd.{SessionEnd}
use Rattle.sb_session.specs.declared.end.SessionEnd.TheVariants.{Fault}
use Rattle.sb_session.specs.Streams.{Streams, streams_at}
use Rattle.sb_session.specs.Sessions.{Course}
use Rattle.sb_server.specs.Accounts.{gathered}
use Rattle.sb_server.specs.Tellings.{Telling}

-- a connection that was served: what its ends told when it came, both ends as they were given back, the number of its
-- pass with all entries of that pass, what its session did, and how that ended
pub record Conn (R S : Type 0) : Type 0 where
  pub before : Streams
  pub source : R
  pub sink : S
  pub number : ℕ
  pub made : List (ℕ × Timed)
  pub deed : Deed
  pub end : SessionEnd

-- what had come, what was given back, the numbers with their entries, and what was done in all
abbrev pub came_of : {R S : Type 0} → List (Conn R S) → List (Option (List ℕ))
came_of [] = []
came_of (conn ∷ conns) = conn.before.left ∷ came_of conns

abbrev pub handed_of : {R S : Type 0} → List (Conn R S) → List (Handed R S)
handed_of [] = []
handed_of (conn ∷ conns) =
    record { number = conn.number; source = conn.source; sink = conn.sink } ∷ handed_of conns

abbrev pub accounts_of : {R S : Type 0} → List (Conn R S) → List (Account Timed)
accounts_of [] = []
accounts_of (conn ∷ conns) = (conn.number, conn.made) ∷ accounts_of conns

abbrev pub accounts_in : {R S : Type 0} → List (List (Conn R S)) → List (Account Timed)
accounts_in clients = gathered accounts_of clients

abbrev pub deed_of_conns : {R S : Type 0} → List (Conn R S) → Deed
deed_of_conns [] = nothing
deed_of_conns (conn ∷ conns) = followed (deed_of_conns conns) conn.deed

-- what was written on a connection is what the requests that came had to get, by the entries of its pass: the course of a
-- session from an empty sink on, which ends by a fault of an end only where that end's count rose
pub record IsServed {N L C R S : Type 0} (tells : Telling N L C R S) (disk : Disk) (read_only : Bool)
    (conn : Conn R S) : Type 0 where
  pub positive : 0 < conn.number
  pub empty : IsEmpty conn.before.held
  pub entries : conn.deed.entries ≡ entries_in conn.made
  pub requests :
      RequestLog (name_of (shared_names disk)) (Some (shared_names disk).meta) conn.deed.entries conn.deed.calls
  pub course : Course read_only (base_of_disk disk) conn.before
      (streams_at (tells.left conn.source) (tells.held conn.sink)) conn.end conn.deed
  pub read_cause : CountsFaults 0 (tells.read_faults conn.source) (conn.end ≡ Fault ReadFault)
  pub write_cause : CountsFaults 0 (tells.write_faults conn.sink) (conn.end ≡ Fault WriteFault)
