-- What a world is asked for by a server, and what clients and workers are as they come of it. Asks are newest first.
use Rattle.std.specs.Prelude.{ℕ, zero, suc, ◌≡◌, List, [], ◌∷◌, ◌++◌, IfErr, IfOk, Result}
use Rattle.sb_base.specs.declared.access.StorePlan.{StorePlan}
use Rattle.sb_base.specs.declared.geometry.Geometry.{Geometry}
use Rattle.sb_base.specs.declared.text.Text.{Text}
use Rattle.sb_world.specs.Told.{Gains, CountsJust, IsUnused}
use Rattle.sb_world.specs.Listeners.{ListensAnew}
use Rattle.sb_world.specs.Worlds.{WorldView, make_failed}
use Rattle.sb_world.specs.declared.link.Link as link
use Rattle.sb_world.specs.declared.listener.Listener as listener
use Rattle.sb_world.specs.declared.world.Ask.{Ask}
use Rattle.sb_world.specs.declared.world.Ask.TheVariants as ask
use Rattle.sb_world.specs.declared.world.MakeFault.{MakeFault}
use Rattle.sb_world.specs.declared.world.MakeFault.TheVariants as fault
use Rattle.sb_crew.specs.declared.desk.Desk.{Desk}
use Rattle.sb_crew.specs.Desks.{HasRoom}
use Rattle.sb_server.specs.declared.caller.Caller.{Caller}
use Rattle.sb_server.specs.declared.client.Client.{Client}
use Rattle.sb_server.specs.declared.worker.Worker.{Worker}

-- the asks for so many clients, each for a listener and then for a desk, and for the desks of so many workers
abbrev pub client_asks : StorePlan → Text → ℕ → ℕ → List Ask
client_asks store address limit zero = []
client_asks store address limit (suc count) =
    ask.Desk store ∷ ask.Listener address limit ∷ client_asks store address limit count

abbrev pub worker_asks : StorePlan → ℕ → List Ask
worker_asks store zero = []
worker_asks store (suc count) = ask.Desk store ∷ worker_asks store count

-- what wasn't made is what was asked for last, unless memory was wanted
abbrev pub IsOfNewest : List Ask → MakeFault → Type 0
IsOfNewest asks fault.Memory = Unit {0}
IsOfNewest (ask.Bench store links ∷ asks) fault.Store = Unit {0}
IsOfNewest (ask.Desk store ∷ asks) fault.Store = Unit {0}
IsOfNewest (ask.Listener address limit ∷ asks) fault.Listen = Unit {0}
IsOfNewest asks fault = ⊥

-- a world was asked for these in their order, for all of them where all was made, and else up to some one: where something
-- wasn't made for another cause than memory, up to the ask that failed. Its count of faults rises just there, and the rest
-- stays
pub record AsksFor {N L C R S T : Type 0} (wanted : List Ask) (before after : WorldView N L C R S)
    (result : Result T MakeFault) : Type 0 where
  pub asks : List Ask
  pub left_out : List Ask
  pub in_order : wanted ≡ left_out ++ asks
  pub whole : IfOk result (λ made. left_out ≡ [])
  pub failed : IfErr result (IsOfNewest asks)
  pub asked : Gains before.asks after.asks asks
  pub counted : CountsJust before.faults after.faults (make_failed result)
  pub same_tells : after.tells ≡ before.tells
  pub same_last : after.last ≡ before.last
  pub same_said : after.said ≡ before.said
  pub same_heard : after.heard ≡ before.heard

-- a desk of this geometry, whose link was asked for nothing
pub record IsDeskAnew {L C : Type 0} (links : link.Ghosts L) (geometry : Geometry) (desk : Desk L C) : Type 0 where
  pub room : HasRoom geometry desk
  pub unused : IsUnused (links.log desk.link) (links.faults desk.link)

-- a client with such a desk, to whose listener nothing came
pub record IsClientAnew {N L C R S : Type 0} (listeners : listener.Ghosts N R S) (links : link.Ghosts L)
    (geometry : Geometry) (client : Client N L C) : Type 0 where
  pub desk : IsDeskAnew links geometry client.desk
  pub listens : ListensAnew (listeners.came client.listener) (listeners.over client.listener)
      (listeners.gave client.listener) (listeners.faults client.listener)

-- so many clients
abbrev pub AreClientsAnew : {N L C R S : Type 0} → listener.Ghosts N R S → link.Ghosts L → Geometry → ℕ
    → List (Caller (Client N L C)) → Type 0
AreClientsAnew listeners links geometry zero [] = Unit {0}
AreClientsAnew listeners links geometry (suc count) (client ∷ clients) =
    IsClientAnew listeners links geometry client.tools × AreClientsAnew listeners links geometry count clients
AreClientsAnew listeners links geometry count clients = ⊥

-- so many workers, numbered from this number on
abbrev pub AreWorkersAnew : {L C : Type 0} → link.Ghosts L → Geometry → ℕ → ℕ → List (Caller (Worker L C)) → Type 0
AreWorkersAnew links geometry first zero [] = Unit {0}
AreWorkersAnew links geometry first (suc count) (worker ∷ workers) = IsDeskAnew links geometry worker.tools.desk
    × (worker.tools.number ≡ first) × AreWorkersAnew links geometry (suc first) count workers
AreWorkersAnew links geometry first count workers = ⊥
