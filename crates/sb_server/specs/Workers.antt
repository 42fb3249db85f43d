-- What workers did. Lists are newest first.
use Rattle.std.specs.Prelude.{◌≡◌, ◌<◌, List, [], ◌∷◌, Some}
use Rattle.sb_turn.specs.Views.{Account}
use Rattle.sb_base.specs.declared.entry.Entry.{Entry}
use Rattle.sb_base.specs.declared.entry.EntryKind.TheVariants.{Stopped}
use Rattle.sb_world.specs.Told.{Gains}
use Rattle.sb_world.specs.declared.clock.Clock as clock
use Rattle.sb_world.specs.declared.link.Link as link
use Rattle.sb_history.specs.Requests.{RequestLog}
use Rattle.sb_core.specs.declared.standing.Timed.{Timed}
use Rattle.sb_core.specs.Standing.{entries_in}
use Rattle.sb_crew.specs.declared.disk.Disk.{Disk}
use Rattle.sb_crew.specs.Counts.{Asked}
use Rattle.sb_crew.specs.Desks.{HasRoom}
use Rattle.sb_crew.specs.Names.{name_of}
use Rattle.sb_crew.specs.Outcomes.{outcomes_of, AsksOnly}
use Rattle.sb_crew.specs.Scenes.{Deed}
use Rattle.sb_crew.specs.Sharing.{caller_of}
use Rattle.sb_crew.specs.SharedDisks.{shared_names, fixed_of_disk, MayUse}
use Rattle.sb_crew.specs.Working.{WorkerStopped}
use Rattle.sb_server.specs.declared.caller.Caller.{Caller}
use Rattle.sb_server.specs.declared.worker.Worker.{Worker}
use Rattle.sb_server.specs.Callers.{CorePass, HasPass, AllCame, PassGathered}

-- a worker's desk is one of this disk, and it has a pass with which it may begin
abbrev pub HasWorkDesk : {L C : Type 0} → Disk → Caller (Worker L C) → Type 0
HasWorkDesk disk worker = HasRoom (fixed_of_disk disk).geometry worker.tools.desk

abbrev pub MayWork : {L C : Type 0} → Disk → Caller (Worker L C) → Type 0
MayWork disk worker = HasPass disk worker × HasWorkDesk disk worker

module _ {L C : Type 0} (links : link.Ghosts L) (clocks : clock.Ghosts C) (disk : Disk) where
  -- a worker has stopped: the newest entry of its pass says so, its link was asked just what all entries of its pass stand
  -- for, and it read, wrote and flushed nothing, and asked for no GET
  pub record HasWorked (old new : Worker L C) (account : Account Timed) : Type 0 where
    pub room : HasRoom (fixed_of_disk disk).geometry new.desk
    pub positive : 0 < account.0
    pub deed : Deed
    pub entries : deed.entries ≡ entries_in account.1
    pub last : Entry
    pub earlier : List Entry
    pub newest : deed.entries ≡ last ∷ earlier
    pub is_stopped : last.kind ≡ Stopped
    pub outcomes : outcomes_of deed.entries ≡ []
    pub asks : AsksOnly [] deed.entries
    pub asked : Asked (links.log old.desk.link) (links.log new.desk.link) (links.faults old.desk.link)
        (links.faults new.desk.link) deed.calls
    pub requests : RequestLog (name_of (shared_names disk)) (Some (shared_names disk).meta) deed.entries deed.calls
    pub readings : Gains (clocks.ticks old.desk.clock) (clocks.ticks new.desk.clock) deed.ticks

  -- each of these workers has
  abbrev pub HaveWorked : List (Caller (Worker L C)) → List (Caller (Worker L C)) → List (Account Timed) → Type 0
  HaveWorked olds news accounts = AllCame HasWorked olds news accounts

  -- what workers did side by side, until each had stopped
  pub record WorkersDid (p q : CorePass) (olds news : List (Caller (Worker L C))) : Type 0 where
    pub accounts : List (Account Timed)
    pub worked : HaveWorked olds news accounts
    pub passes : PassGathered disk p q accounts

  -- what one of them did with its pass, of its caller before and after
  pub record CallerWorked (old new : Caller (Worker L C)) : Type 0 where
    pub first : CorePass
    pub had : old.pass ≡ Some first
    pub last : CorePass
    pub has : new.pass ≡ Some last
    pub may : MayUse disk last
    pub room : HasRoom (fixed_of_disk disk).geometry new.tools.desk
    pub stopped : WorkerStopped disk (caller_of links clocks first old.tools.desk)
        (caller_of links clocks last new.tools.desk)
