-- What was handed over, one after the other.
use Rattle.std.proofs.Common.{◌≡◌, List, [], ◌∷◌, ◌++◌, Some, None, refl, sym, ◌∙◌, ap, subst}
use Rattle.sb_world.specs.Worlds.{WorldView, HeardParts, HangsUp, with_heard}
use Rattle.sb_crew.specs.Joins.{gains_join, gains_nothing}
use Rattle.sb_server.specs.declared.caller.Caller.{Caller}
use Rattle.sb_server.specs.declared.client.Client.{Client}
use Rattle.sb_server.specs.declared.worker.Worker.{Worker}
use Rattle.sb_server.specs.Handings.{heard_of_clients, heard_of_workers, HandsOver}

module _ {N L C R S : Type 0} where
  pub hands_nothing : (a : WorldView N L C R S) → HandsOver a a []
  hands_nothing a = record { told = gains_nothing a.heard; others = refl }

  pub hands_both : (a b c : WorldView N L C R S) (xs ys : List (HeardParts N L C)) → HandsOver a b xs → HandsOver b c ys
      → HandsOver a c (ys ++ xs)
  hands_both a b c xs ys first second = record {
    told = gains_join a.heard b.heard c.heard xs ys first.told second.told;
    others = second.others ∙ ap (λ (w : WorldView N L C R S). with_heard c.heard w) first.others;
  }

module _ {N L C : Type 0} where
  pub client_behind : (clients : List (Caller (Client N L C))) (client : Caller (Client N L C))
      → heard_of_clients (clients ++ client ∷ []) ≡ record {
        listener = Some client.tools.listener;
        desk = Some (client.tools.desk.link, client.tools.desk.clock);
      } ∷ heard_of_clients clients
  client_behind [] client = refl
  client_behind (x ∷ xs) client =
      ap (λ (l : List (HeardParts N L C)). l ++ record {
        listener = Some x.tools.listener;
        desk = Some (x.tools.desk.link, x.tools.desk.clock);
      } ∷ []) (client_behind xs client)

  pub worker_behind : (workers : List (Caller (Worker L C))) (worker : Caller (Worker L C))
      → heard_of_workers {N = N} (workers ++ worker ∷ []) ≡ record {
        listener = None;
        desk = Some (worker.tools.desk.link, worker.tools.desk.clock);
      } ∷ heard_of_workers workers
  worker_behind [] worker = refl
  worker_behind (x ∷ xs) worker =
      ap (λ (l : List (HeardParts N L C)). l ++ record {
        listener = None;
        desk = Some (x.tools.desk.link, x.tools.desk.clock);
      } ∷ []) (worker_behind xs worker)

module _ {N L C R S : Type 0} where
  -- one more has handed over what is its own
  pub client_hands : (a b c : WorldView N L C R S) (clients : List (Caller (Client N L C))) (client : Caller (Client N L C))
      (tools : Client N L C) (desk : L × C) → HandsOver a b (heard_of_clients clients) → tools ≡ client.tools
      → desk ≡ (tools.desk.link, tools.desk.clock) → HangsUp b c (Some tools.listener) (Some desk)
      → HandsOver a c (heard_of_clients (clients ++ client ∷ []))
  client_hands a b c clients client tools desk first same parts hangs =
      let hung = subst (λ (t : Client N L C). HangsUp b c (Some t.listener) (Some (t.desk.link, t.desk.clock))) same
      (subst (λ (d : L × C). HangsUp b c (Some tools.listener) (Some d)) parts hangs) in
      subst (λ (heard : List (HeardParts N L C)). HandsOver a c heard) (sym (client_behind clients client))
      (hands_both a b c (heard_of_clients clients) (record {
        listener = Some client.tools.listener;
        desk = Some (client.tools.desk.link, client.tools.desk.clock);
      } ∷ []) first (record { told = hung.told; others = hung.others }))

  pub worker_hands : (a b c : WorldView N L C R S) (workers : List (Caller (Worker L C))) (worker : Caller (Worker L C))
      (tools : Worker L C) (desk : L × C) → HandsOver a b (heard_of_workers workers) → tools ≡ worker.tools
      → desk ≡ (tools.desk.link, tools.desk.clock) → HangsUp b c None (Some desk)
      → HandsOver a c (heard_of_workers (workers ++ worker ∷ []))
  worker_hands a b c workers worker tools desk first same parts hangs =
      let hung = subst (λ (t : Worker L C). HangsUp b c None (Some (t.desk.link, t.desk.clock))) same
      (subst (λ (d : L × C). HangsUp b c None (Some d)) parts hangs) in
      subst (λ (heard : List (HeardParts N L C)). HandsOver a c heard) (sym (worker_behind workers worker))
      (hands_both a b c (heard_of_workers workers) (record {
        listener = None;
        desk = Some (worker.tools.desk.link, worker.tools.desk.clock);
      } ∷ []) first (record { told = hung.told; others = hung.others }))
