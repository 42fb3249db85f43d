-- What clients and workers of one disk did in all. Lists are newest first.
use Rattle.std.specs.Prelude.{ℕ, ◌≡◌, [], ◌∷◌, List, ◌++◌, Bool, true, false, Some, Result, Ok}
use Rattle.sb_turn.specs.Histories.{entries_of_pass, IsPast}
use Rattle.sb_turn.specs.Views.{Account, AccountsMatch, count}
use Rattle.sb_turn.specs.Passes.{seen, mine, joined, number}
use Rattle.sb_world.specs.Told.{Gains}
use Rattle.sb_world.specs.declared.clock.Clock as clock
use Rattle.sb_world.specs.declared.clock.Tick.TheVariants.{Taken}
use Rattle.sb_world.specs.declared.link.Link as link
use Rattle.sb_history.specs.Requests.{RequestLog}
use Rattle.sb_core.specs.declared.standing.Timed.{Timed}
use Rattle.sb_core.specs.contracts.standing.CoreStands.TheImpl.{ghosts}
use Rattle.sb_core.specs.Jobs.{closing_entry}
use Rattle.sb_core.specs.Standing.{entries_in}
use Rattle.sb_crew.specs.declared.calls.FlushFault.{FlushFault}
use Rattle.sb_crew.specs.declared.desk.Desk.{Desk}
use Rattle.sb_crew.specs.declared.disk.Disk.{Disk}
use Rattle.sb_crew.specs.Counts.{Asked}
use Rattle.sb_crew.specs.Desks.{HasRoom}
use Rattle.sb_crew.specs.Names.{name_of}
use Rattle.sb_crew.specs.Outcomes.{FlushDoes}
use Rattle.sb_crew.specs.Scenes.{Deed, nothing}
use Rattle.sb_crew.specs.Sharing.{PassRuns, CallerScene}
use Rattle.sb_crew.specs.SharedDisks.{shared_names, fixed_of_disk, base_of_disk, CallerDid}
use Rattle.sb_server.specs.declared.caller.Caller.{Caller}
use Rattle.sb_server.specs.declared.client.Client.{Client}
use Rattle.sb_server.specs.declared.worker.Worker.{Worker}
use Rattle.sb_server.specs.Tellings.{Telling}
use Rattle.sb_server.specs.Accounts.{AreExact, AreApart}
use Rattle.sb_server.specs.Callers.{CorePass}
use Rattle.sb_server.specs.Connections.{Conn, accounts_in}
use Rattle.sb_server.specs.Clients.{HaveEnded, CrowdDid}
use Rattle.sb_server.specs.Workers.{HaveWorked}

-- the disk was closed when this had happened: all of these accounts stand in it, and nothing that this pass made since
pub record ClosedBehind (p : CorePass) (history : List (ℕ × Timed)) (accounts : List (Account Timed)) : Type 0 where
  pub before : List (ℕ × Timed)
  pub goes_on : IsPast before history
  pub ended : AreExact before accounts
  pub open_still : entries_of_pass (number p) before ≡ mine p

-- the last flush of a pass: behind what it had made stand that it closed the disk and what the flush did, its link was
-- asked just what that stands for, and its clock was asked for the close and by the flush
pub record LastFlush (disk : Disk) (a b : CallerScene ghosts) (flush : Deed) : Type 0 where
  pub reading : ℕ
  pub now : ℕ
  pub own : entries_in (entries_of_pass (number a.pass) (seen b.pass))
      ≡ flush.entries ++ (closing_entry (number a.pass) reading ∷ entries_in (mine a.pass))
  pub asked : Asked a.log b.log a.faults b.faults flush.calls
  pub requests : RequestLog (name_of (shared_names disk)) (Some (shared_names disk).meta) flush.entries flush.calls
  pub readings : Gains a.ticks b.ticks (flush.ticks ++ Taken now ∷ [])

-- a disk that is read-only isn't flushed
abbrev pub FlushesLast : Disk → Bool → CallerScene ghosts → CallerScene ghosts → Result Unit FlushFault → Type 0
FlushesLast disk true a b result = LastFlush disk a b nothing × (result ≡ Ok tt)
FlushesLast disk false a b result = FlushDoes (base_of_disk disk) (LastFlush disk a b) result

module _ {N L C R S : Type 0} (tells : Telling N L C R S) (links : link.Ghosts L) (clocks : clock.Ghosts C)
    (disk : Disk) (read_only : Bool) where
  -- in the one history that a pass knows at the end, each connection of each client has just the entries by which it was
  -- served, and each worker those that its link was asked for. No number stands twice, that of the pass included, and the
  -- disk was closed when all clients had ended
  pub record AllServed (p q : CorePass) (clients clients' : List (Caller (Client N L C)))
      (workers workers' : List (Caller (Worker L C))) : Type 0 where
    pub conns : List (List (Conn R S))
    pub accounts : List (Account Timed)
    pub served : HaveEnded tells disk read_only clients clients' conns
    pub worked : HaveWorked links clocks disk workers workers' accounts
    pub exact : AreExact (seen q) (accounts_in conns ++ accounts)
    pub apart : AreApart (accounts_in conns ++ accounts)
    pub not_own : count (number q) (accounts_in conns ++ accounts) ≡ 0
    pub closed : ClosedBehind p (seen q) (accounts_in conns)

  -- what clients did until the disk was closed behind them
  pub record ClientsPart (p q : CorePass) (desk desk' : Desk L C) (clients clients' : List (Caller (Client N L C)))
      : Type 0 where
    pub last : CorePass
    pub crowd : CrowdDid tells disk read_only p last clients clients'
    pub exact : AccountsMatch (seen last) (seen last) (joined last)
    pub own : entries_of_pass (number last) (seen last) ≡ mine last
    pub reading : ℕ
    pub now : ℕ
    pub closes : PassRuns (fixed_of_disk disk) last q (clocks.ticks desk.clock) (clocks.ticks desk'.clock)
        (closing_entry (number last) reading ∷ []) (Taken now ∷ [])
    pub same_link : desk'.link ≡ desk.link
    pub room : HasRoom (fixed_of_disk disk).geometry desk'

-- a disk that isn't read-only was flushed, and else nothing was done
abbrev pub FlushesOr : Disk → Bool → CallerScene ghosts → CallerScene ghosts → Result Unit FlushFault → Type 0
FlushesOr disk true a b result = (b ≡ a) × (result ≡ Ok tt)
FlushesOr disk false a b result = FlushDoes (base_of_disk disk) (CallerDid disk a b) result
