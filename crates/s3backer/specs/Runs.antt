-- How a run of the program ends, by its words. Lists are newest first.
use Rattle.std.specs.Prelude.{ℕ, ◌≡◌, ◌⊎◌, List, Option, Some, None, Result, Ok, Err, codes, string_bytes}
use Rattle.sb_base.specs.declared.entry.Entry.{Entry}
use Rattle.sb_world.specs.Worlds.{WorldView, SaysLine}
use Rattle.sb_world.specs.declared.world.MakeFault.TheVariants as fault
use Rattle.sb_crew.specs.declared.calls.FlushFault.TheVariants as flush
use Rattle.sb_server.specs.Callers.{CorePass}
use Rattle.sb_server.specs.declared.mount.Mount.{Mount}
use Rattle.sb_server.specs.declared.server.ServeFault.{ServeFault}
use Rattle.sb_server.specs.declared.server.ServeFault.TheVariants as serve
use Rattle.sb_server.specs.declared.server.ServerEnd.{ServerEnd}
use Rattle.sb_server.specs.declared.server.ServerEnd.TheVariants as end
use Rattle.s3backer.specs.Plans.{PlanParts, default_settings}
use Rattle.s3backer.specs.Views.{Telling}
use Rattle.s3backer.specs.Words.{IsTaken, NeedsMemory}
use Rattle.s3backer.specs.Headline.{flush_status, flush_line, RefusesWords, LacksMemoryEarly, SingleEnds}
use Rattle.s3backer.specs.declared.plan.Form.{Form}
use Rattle.s3backer.specs.declared.plan.Form.TheVariants as form

-- what a server of this plan serves at this address, to any number of connections
pub record IsMountOf (plan : PlanParts) (address : List ℕ) (mount : Mount) : Type 0 where
  pub store_is : mount.store ≡ plan.store
  pub prefix_is : string_bytes mount.prefix ≡ plan.prefix
  pub hashed_is : mount.hashed ≡ plan.hashed
  pub geometry_is : mount.geometry ≡ plan.geometry
  pub settings_are : mount.settings ≡ default_settings
  pub read_only_is : mount.read_only ≡ plan.read_only
  pub address_is : mount.address ≡ address
  pub unlimited : mount.connections ≡ 0

-- such a mount, where the plan is that of a server, and else the plan as it is
abbrev pub IsMountOr : PlanParts → Result Mount PlanParts → Type 0
IsMountOr plan (Ok mount) = (address : List ℕ) × (plan.form ≡ form.Server address) × IsMountOf plan address mount
IsMountOr plan (Err back) = (back ≡ plan) × (plan.form ≡ form.Stdio)

-- the status of a server's end
abbrev pub served_status : Result Unit ServeFault → ℕ
served_status (Ok done) = 0
served_status (Err serve.Listen) = 10
served_status (Err (serve.Flush fault)) = flush_status (Err fault)

abbrev pub server_status : ServerEnd → ℕ
server_status (end.Unmade fault.Store) = 3
server_status (end.Unmade fault.Listen) = 10
server_status (end.Unmade fault.Memory) = 12
server_status (end.Served pass result) = served_status result

-- the line that tells its fault
abbrev pub served_line : Result Unit ServeFault → Option (List ℕ)
served_line (Ok done) = None
served_line (Err serve.Listen) = Some (codes "s3backer: listen fault\n")
served_line (Err (serve.Flush fault)) = flush_line (Err fault)

abbrev pub server_line : ServerEnd → Option (List ℕ)
server_line (end.Unmade fault.Store) = Some (codes "s3backer: cannot reach the store\n")
server_line (end.Unmade fault.Listen) = Some (codes "s3backer: listen fault\n")
server_line (end.Unmade fault.Memory) = Some (codes "s3backer: out of memory\n")
server_line (end.Served pass result) = served_line result

-- the pass that knows all that happened to the disk of a server, where one was made
abbrev pub pass_of : ServerEnd → Option CorePass
pass_of (end.Unmade fault) = None
pass_of (end.Served pass result) = Some pass

-- a line is said, where there is one
abbrev pub SaysAny : {N L C R S : Type 0} → Option (List ℕ) → WorldView N L C R S → WorldView N L C R S → Type 0
SaysAny None before after = after ≡ before
SaysAny (Some line) before after = SaysLine before after line

module _ {N L C R S : Type 0} (tells : Telling L C R S)
    (Ends : Mount → WorldView N L C R S → WorldView N L C R S → ServerEnd → Type 0) where
  -- a server of a mount ended so, and told its fault
  pub record ServerRuns (mount : Mount) (before after : WorldView N L C R S) (status : ℕ) (pass : Option CorePass)
      : Type 0 where
    pub ended : ServerEnd
    pub ended_then : WorldView N L C R S
    pub ends : Ends mount before ended_then ended
    pub status_is : status ≡ server_status ended
    pub says : SaysAny (server_line ended) ended_then after
    pub pass_is : pass ≡ pass_of ended

  -- the server of a plan did, and the tape is as it was
  pub record ServesAt (plan : PlanParts) (address : List ℕ) (before after : WorldView N L C R S)
      (told told' : Option (List Entry)) (status : ℕ) (pass : Option CorePass) : Type 0 where
    pub mount : Mount
    pub mount_is : IsMountOf plan address mount
    pub runs : ServerRuns mount before after status pass
    pub tape_stays : told' ≡ told

  -- how a run of a plan ends, by its form
  abbrev pub FormEnds : Form → PlanParts → WorldView N L C R S → WorldView N L C R S → Option (List Entry)
      → Option (List Entry) → ℕ → Option CorePass → Type 0
  FormEnds (form.Server address) plan before after told told' status pass =
      ServesAt plan address before after told told' status pass
  FormEnds form.Stdio plan before after told told' status pass =
      SingleEnds tells plan before after told told' status × (pass ≡ None)

  -- the words were taken, and their plan was run
  pub record RunsWords (words : List (List ℕ)) (before after : WorldView N L C R S) (told told' : Option (List Entry))
      (status : ℕ) (pass : Option CorePass) : Type 0 where
    pub plan : PlanParts
    pub taken : IsTaken words plan
    pub ends : FormEnds plan.form plan before after told told' status pass

  -- how a run ends: with refused words, without memory for the answer to them, or with their plan. A pass is handed back
  -- where a server's disk was made
  abbrev pub RunEnds : List (List ℕ) → WorldView N L C R S → WorldView N L C R S → Option (List Entry)
      → Option (List Entry) → ℕ → Option CorePass → Type 0
  RunEnds words before after told told' status pass =
      (RefusesWords words before after told told' status × (pass ≡ None))
      ⊎ ((LacksMemoryEarly (NeedsMemory words × (after.asks ≡ before.asks)) before after told told' status
      × (pass ≡ None))
      ⊎ RunsWords words before after told told' status pass)
