-- What clients did. Lists are newest first.
use Rattle.std.specs.Prelude.{ℕ, ◌≡◌, Bool, true, List, [], ◌∷◌, Option, Some, Result, Ok, Err, IsErr}
use Rattle.std.specs.List.{AllByRecursion}
use Rattle.sb_world.specs.Told.{Gains, CountsFaults}
use Rattle.sb_world.specs.declared.listener.ListenFault.{ListenFault}
use Rattle.sb_crew.specs.declared.disk.Disk.{Disk}
use Rattle.sb_crew.specs.Counts.{Asked}
use Rattle.sb_crew.specs.Desks.{HasRoom}
use Rattle.sb_crew.specs.SharedDisks.{fixed_of_disk}
use Rattle.sb_server.specs.declared.caller.Caller.{Caller}
use Rattle.sb_server.specs.declared.client.Client.{Client}
use Rattle.sb_server.specs.Tellings.{Telling}
use Rattle.sb_server.specs.Callers.{CorePass, HasPass, AllCame, PassGathered}
use Rattle.sb_server.specs.Connections.{Conn, IsServed, came_of, handed_of, accounts_of, accounts_in, deed_of_conns}

-- where it is told, no more connections come
abbrev pub IsOver : Option Bool → Type 0
IsOver over = (told : Bool) → over ≡ Some told → told ≡ true

-- a client ends where no more connections come, and else with a fault, from which its listener isn't over
abbrev pub EndsWith : Option Bool → Option Bool → Result Unit ListenFault → Type 0
EndsWith over over' (Ok done) = IsOver over'
EndsWith over over' (Err fault) = over' ≡ over

-- a client's desk is one of this disk, and it has a pass with which it may begin
abbrev pub HasDesk : {N L C : Type 0} → Disk → Caller (Client N L C) → Type 0
HasDesk disk client = HasRoom (fixed_of_disk disk).geometry client.tools.desk

abbrev pub MayBegin : {N L C : Type 0} → Disk → Caller (Client N L C) → Type 0
MayBegin disk client = HasPass disk client × HasDesk disk client

module _ {N L C R S : Type 0} (tells : Telling N L C R S) (disk : Disk) (read_only : Bool) where
  -- a client has served these connections: they are all that came, each was given back, and its link was asked just what
  -- their entries stand for
  pub record HasServed (old new : Client N L C) (conns : List (Conn R S)) : Type 0 where
    pub room : HasRoom (fixed_of_disk disk).geometry new.desk
    pub served : AllByRecursion (IsServed tells disk read_only) conns
    pub came : Gains (tells.came old.listener) (tells.came new.listener) (came_of conns)
    pub gave : Gains (tells.gave old.listener) (tells.gave new.listener) (handed_of conns)
    pub asked : Asked (tells.log old.desk.link) (tells.log new.desk.link) (tells.link_faults old.desk.link)
        (tells.link_faults new.desk.link) (deed_of_conns conns).calls
    pub readings : Gains (tells.ticks old.desk.clock) (tells.ticks new.desk.clock) (deed_of_conns conns).ticks

  -- a client has served them, and has ended so
  pub record HasEnded (old new : Client N L C) (conns : List (Conn R S)) (ended : Result Unit ListenFault)
      : Type 0 where
    pub has : HasServed old new conns
    pub over : EndsWith (tells.over old.listener) (tells.over new.listener) ended
    pub cause : CountsFaults (tells.listen_faults old.listener) (tells.listen_faults new.listener) (IsErr ended)

  -- each of these clients has
  abbrev pub HaveEnded : List (Caller (Client N L C)) → List (Caller (Client N L C)) → List (List (Conn R S)) → Type 0
  HaveEnded olds news conns = AllCame (λ old new its. HasEnded old new its new.ended) olds news conns

  -- what a client does until it ends
  pub record ClientDid (p q : CorePass) (old new : Client N L C) (ended : Result Unit ListenFault)
      : Type 0 where
    pub conns : List (Conn R S)
    pub served : HasEnded old new conns ended
    pub passes : PassGathered disk p q (accounts_of conns)

  -- what it did so far
  pub record ClientSoFar (p q : CorePass) (old new : Client N L C) : Type 0 where
    pub conns : List (Conn R S)
    pub served : HasServed old new conns
    pub same_over : tells.over new.listener ≡ tells.over old.listener
    pub counted : CountsFaults (tells.listen_faults old.listener) (tells.listen_faults new.listener) ⊥
    pub passes : PassGathered disk p q (accounts_of conns)

  -- what serving one connection did, of whose source this was left
  pub record ConnDid (p q : CorePass) (old new : Client N L C) (left : Option (List ℕ)) : Type 0 where
    pub conn : Conn R S
    pub left_is : conn.before.left ≡ left
    pub is_served : IsServed tells disk read_only conn
    pub room : HasRoom (fixed_of_disk disk).geometry new.desk
    pub same_came : tells.came new.listener ≡ tells.came old.listener
    pub same_over : tells.over new.listener ≡ tells.over old.listener
    pub same_faults : tells.listen_faults new.listener ≡ tells.listen_faults old.listener
    pub gave : Gains (tells.gave old.listener) (tells.gave new.listener) (handed_of (conn ∷ []))
    pub asked : Asked (tells.log old.desk.link) (tells.log new.desk.link) (tells.link_faults old.desk.link)
        (tells.link_faults new.desk.link) conn.deed.calls
    pub readings : Gains (tells.ticks old.desk.clock) (tells.ticks new.desk.clock) conn.deed.ticks
    pub passes : PassGathered disk p q (accounts_of (conn ∷ []))

  -- what clients did side by side, until each had ended
  pub record CrowdDid (p q : CorePass) (olds news : List (Caller (Client N L C))) : Type 0 where
    pub conns : List (List (Conn R S))
    pub served : HaveEnded olds news conns
    pub passes : PassGathered disk p q (accounts_in conns)

  -- the same of one of them, of its caller before and after
  pub record CallerServed (old new : Caller (Client N L C)) : Type 0 where
    pub first : CorePass
    pub had : old.pass ≡ Some first
    pub last : CorePass
    pub has : new.pass ≡ Some last
    pub did : ClientDid first last old.tools new.tools new.tools.ended
