-- What clients did side by side.
use Rattle.std.proofs.Common.{◌≡◌, Bool, List, [], ◌∷◌, ◌++◌, Some, Result, refl, ◌∙◌, ap, subst}
use Rattle.std.specs.List.{AllByRecursion}
use Rattle.sb_turn.specs.Views.{Account}
use Rattle.sb_turn.specs.Passes.{mine, joined, number}
use Rattle.sb_world.specs.declared.listener.ListenFault.{ListenFault}
use Rattle.sb_core.specs.declared.standing.Timed.{Timed}
use Rattle.sb_crew.specs.declared.disk.Disk.{Disk}
use Rattle.sb_server.specs.declared.caller.Caller.{Caller}
use Rattle.sb_server.specs.declared.client.Client.{Client}
use Rattle.sb_server.specs.Tellings.{Telling}
use Rattle.sb_server.specs.Accounts.{Gathers}
use Rattle.sb_server.specs.Callers.{CorePass, HasPass, GotPasses, TookPasses}
use Rattle.sb_server.specs.Connections.{Conn, accounts_of}
use Rattle.sb_server.specs.Clients.{HasEnded, ClientDid, CallerServed, CrowdDid}
use Rattle.sb_server.proofs.Gathering.{gathers_one, gathers_less}
use Rattle.sb_server.proofs.Calling.{some_same, AllPairs, Comes, still_have, all_came}

module _ {N L C R S : Type 0} (tells : Telling N L C R S) (disk : Disk) (read_only : Bool) where
  -- what a client did, with how it ended kept in it
  pub caller_served : (p q : CorePass) (old : Caller (Client N L C)) (new : Client N L C)
      (ended : Result Unit ListenFault) → old.pass ≡ Some p
      → ClientDid tells disk read_only p q old.tools new ended
      → CallerServed tells disk read_only old (record {
        tools = record { listener = new.listener; desk = new.desk; buffer = new.buffer; ended = ended };
        pass = Some q;
      })
  caller_served p q old new ended had did =
      let has = did.served.has in
      record {
        first = p;
        had = had;
        last = q;
        has = refl;
        did = record {
          conns = did.conns;
          served = record {
            has = record {
              room = has.room;
              served = has.served;
              came = has.came;
              gave = has.gave;
              asked = has.asked;
              readings = has.readings;
            };
            over = did.served.over;
            cause = did.served.cause;
          };
          passes = did.passes;
        };
      }

  -- what one client came to, and what its pass gathered
  client_comes : Comes (CallerServed tells disk read_only)
      (λ (old new : Client N L C) (conns : List (Conn R S)). HasEnded tells disk read_only old new conns new.ended)
      accounts_of
  client_comes m e p q had new has served =
      let conns = served.did.conns in
      let first : joined served.first ≡ [] =
      ap (λ (r : CorePass). joined r) (some_same m.pass served.first p served.had had) ∙ new.none_joined in
      let last : joined served.last ≡ joined q =
      ap (λ (r : CorePass). joined r) (some_same e.pass served.last q served.has has) in (
        conns,
        served.did.served,
        λ base.
            gathers_less base ((number q, mine q) ∷ (joined q ++ base)) (accounts_of conns) (number q, mine q)
            (gathers_one base (joined q) (accounts_of conns) (number q, mine q)
            (subst (λ (all : List (Account Timed)). Gathers [] all (accounts_of conns)) last
            (subst (λ (all : List (Account Timed)). Gathers all (joined served.last) (accounts_of conns)) first
            served.did.passes.gathers))),
      )

  pub clients_have : (mids ends : List (Caller (Client N L C)))
      → AllPairs (CallerServed tells disk read_only) mids ends → AllByRecursion (HasPass disk) ends
  clients_have mids ends served =
      still_have disk (CallerServed tells disk read_only)
      (λ m e one. (one.last, one.has, one.did.passes.may)) mids ends served

  pub crowd_did : (p split q : CorePass) (olds mids ends news : List (Caller (Client N L C)))
      → GotPasses disk p split olds mids → AllPairs (CallerServed tells disk read_only) mids ends
      → TookPasses disk split q ends news → CrowdDid tells disk read_only p q olds news
  crowd_did p split q olds mids ends news got served took =
      let all = all_came disk (CallerServed tells disk read_only)
      (λ (old new : Client N L C) (conns : List (Conn R S)). HasEnded tells disk read_only old new conns new.ended)
      accounts_of client_comes p split q olds mids ends news got served took in
      record { conns = all.0; served = all.1; passes = all.2 }
