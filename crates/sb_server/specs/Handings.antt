-- What is handed over to a world at the end. Lists are newest first, but for clients and workers.
use Rattle.std.specs.Prelude.{◌≡◌, List, [], ◌∷◌, ◌++◌, Some, None}
use Rattle.sb_world.specs.Told.{Gains}
use Rattle.sb_world.specs.Worlds.{WorldView, HeardParts, with_heard}
use Rattle.sb_server.specs.declared.caller.Caller.{Caller}
use Rattle.sb_server.specs.declared.client.Client.{Client}
use Rattle.sb_server.specs.declared.worker.Worker.{Worker}

-- what clients hand over one after the other: their listeners, links and clocks
abbrev pub heard_of_clients : {N L C : Type 0} → List (Caller (Client N L C)) → List (HeardParts N L C)
heard_of_clients [] = []
heard_of_clients (client ∷ clients) = heard_of_clients clients ++ record {
  listener = Some client.tools.listener;
  desk = Some (client.tools.desk.link, client.tools.desk.clock);
} ∷ []

-- what workers hand over one after the other: their links and clocks
abbrev pub heard_of_workers : {N L C : Type 0} → List (Caller (Worker L C)) → List (HeardParts N L C)
heard_of_workers [] = []
heard_of_workers (worker ∷ workers) = heard_of_workers workers ++ record {
  listener = None;
  desk = Some (worker.tools.desk.link, worker.tools.desk.clock);
} ∷ []

-- these were handed over to a world, and the rest of it stays
pub record HandsOver {N L C R S : Type 0} (before after : WorldView N L C R S) (parts : List (HeardParts N L C))
    : Type 0 where
  pub told : Gains before.heard after.heard parts
  pub others : after ≡ with_heard after.heard before
