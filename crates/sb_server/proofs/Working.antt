-- What workers did side by side.
use Rattle.std.proofs.Common.{ℕ, ◌≡◌, ◌<◌, List, [], ◌∷◌, ◌++◌, refl, sym, ◌∙◌, ap, subst, append-nil}
use Rattle.std.specs.List.{AllByRecursion}
use Rattle.sb_turn.specs.Views.{Account}
use Rattle.sb_turn.specs.Passes.{mine, joined, number}
use Rattle.sb_world.specs.declared.clock.Clock as clock
use Rattle.sb_world.specs.declared.link.Link as link
use Rattle.sb_core.specs.declared.standing.Timed.{Timed}
use Rattle.sb_core.specs.Standing.{entries_in}
use Rattle.sb_crew.specs.declared.disk.Disk.{Disk}
use Rattle.sb_server.specs.declared.caller.Caller.{Caller}
use Rattle.sb_server.specs.declared.worker.Worker.{Worker}
use Rattle.sb_server.specs.Accounts.{gathered}
use Rattle.sb_server.specs.Callers.{CorePass, HasPass, GotPasses, TookPasses, PassGathered}
use Rattle.sb_server.specs.Workers.{HasWorked, CallerWorked, WorkersDid}
use Rattle.sb_server.proofs.Gathering.{gathers_one, gathers_new}
use Rattle.sb_server.proofs.Calling.{some_same, AllPairs, Comes, still_have, all_came}

-- an account alone
abbrev alone : Account Timed → List (Account Timed)
alone account = account ∷ []

gathered_alone : (accounts : List (Account Timed)) → gathered alone accounts ≡ accounts
gathered_alone [] = refl
gathered_alone (x ∷ xs) = ap (λ (all : List (Account Timed)). x ∷ all) (gathered_alone xs)

module _ {L C : Type 0} (links : link.Ghosts L) (clocks : clock.Ghosts C) (disk : Disk) where
  -- what one worker came to, and what its pass gathered
  worker_comes : Comes (CallerWorked links clocks disk) (HasWorked links clocks disk) alone
  worker_comes m e p q had new has worked =
      let runs = worked.stopped.so_far.done.runs in
      let same = some_same e.pass worked.last q worked.has has in
      let first = some_same m.pass worked.first p worked.had had in
      let none : mine worked.first ≡ [] = ap (λ (r : CorePass). mine r) first ∙ new.none_made in
      let own : number q ≡ number p =
      sym (ap (λ (r : CorePass). number r) same) ∙ runs.same.number ∙ ap (λ (r : CorePass). number r) first in
      let no_joins : joined q ≡ [] =
      sym (ap (λ (r : CorePass). joined r) same) ∙ runs.same.joined ∙ ap (λ (r : CorePass). joined r) first
      ∙ new.none_joined in
      let made : mine q ≡ runs.made =
      sym (ap (λ (r : CorePass). mine r) same) ∙ runs.mine_is
      ∙ ap (λ (xs : List (ℕ × Timed)). runs.made ++ xs) none ∙ append-nil runs.made in (
        (number q, mine q),
        record {
          room = worked.room;
          positive = subst (λ (n : ℕ). 0 < n) (sym own) new.positive;
          deed = worked.stopped.so_far.deed;
          entries = runs.entries_are ∙ ap entries_in (sym made);
          last = worked.stopped.last;
          earlier = worked.stopped.earlier;
          newest = worked.stopped.newest;
          is_stopped = worked.stopped.is_stopped;
          outcomes = worked.stopped.so_far.outcomes;
          asks = worked.stopped.so_far.asks;
          asked = worked.stopped.so_far.done.asked;
          requests = worked.stopped.so_far.done.requests;
          readings = runs.readings;
        },
        λ base. gathers_one base (joined q) [] (number q, mine q) (gathers_new q no_joins),
      )

  pub workers_have : (mids ends : List (Caller (Worker L C))) → AllPairs (CallerWorked links clocks disk) mids ends
      → AllByRecursion (HasPass disk) ends
  workers_have mids ends worked =
      still_have disk (CallerWorked links clocks disk) (λ m e one. (one.last, one.has, one.may)) mids ends worked

  pub workers_did : (p split q : CorePass) (olds mids ends news : List (Caller (Worker L C)))
      → GotPasses disk p split olds mids → AllPairs (CallerWorked links clocks disk) mids ends
      → TookPasses disk split q ends news → WorkersDid links clocks disk p q olds news
  workers_did p split q olds mids ends news got worked took =
      let all = all_came disk (CallerWorked links clocks disk) (HasWorked links clocks disk) alone worker_comes p split
      q olds mids ends news got worked took in
      record {
        accounts = all.0;
        worked = all.1;
        passes = subst (λ (accounts : List (Account Timed)). PassGathered disk p q accounts) (gathered_alone all.0)
            all.2;
      }
