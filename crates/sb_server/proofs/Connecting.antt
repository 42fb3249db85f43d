-- What a client did, one connection after the other.
use Rattle.std.proofs.Common.{ℕ, ◌≡◌, ◌<◌, ◌≤◌, List, [], ◌∷◌, ◌++◌, Option, Bool, Result, Ok, Err, refl, sym, ◌∙◌, ap, subst}
use Rattle.std.proofs.Common.{append-nil, arith}
use Rattle.std.specs.Prelude.{IsErr}
use Rattle.sb_turn.specs.Views.{Account}
use Rattle.sb_turn.specs.Passes.{mine, joined, number, HasSplit, HasJoined, IsSamePass}
use Rattle.sb_world.specs.Told.{Gains, CountsFaults, Rose}
use Rattle.sb_world.specs.Listeners.{Handed, IsNew}
use Rattle.sb_world.specs.declared.listener.ListenFault.{ListenFault}
use Rattle.sb_core.specs.declared.standing.Timed.{Timed}
use Rattle.sb_core.specs.Standing.{entries_in}
use Rattle.sb_crew.specs.declared.desk.Desk.{Desk}
use Rattle.sb_crew.specs.declared.disk.Disk.{Disk}
use Rattle.sb_crew.specs.Desks.{HasRoom}
use Rattle.sb_crew.specs.Joins.{gains_nothing, gains_join, asked_join, asked_nothing}
use Rattle.sb_crew.specs.Sharing.{caller_at}
use Rattle.sb_crew.specs.SharedDisks.{fixed_of_disk, base_of_disk, MayUse, CallerDid}
use Rattle.sb_nbd.specs.declared.end.NbdEnd.TheVariants.{ReadFault, WriteFault}
use Rattle.sb_session.specs.declared.buffer.Buffer.{Buffer}
use Rattle.sb_session.specs.declared.end.SessionEnd.{SessionEnd}
use Rattle.sb_session.specs.declared.end.SessionEnd.TheVariants.{Fault}
use Rattle.sb_session.specs.Streams.{streams_at}
use Rattle.sb_session.specs.Sessions.{SessionTold}
use Rattle.sb_server.specs.declared.client.Client.{Client}
use Rattle.sb_server.specs.Tellings.{Telling}
use Rattle.sb_server.specs.Accounts.{Gathers}
use Rattle.sb_server.specs.Callers.{CorePass}
use Rattle.sb_server.specs.Connections.{came_of, handed_of, accounts_of, deed_of_conns}
use Rattle.sb_server.specs.Clients.{EndsWith, ClientDid, ClientSoFar, ConnDid}
use Rattle.sb_server.proofs.Gathering.{gathers_none, gathers_then, gathers_less, gathers_joined, gathers_new}

-- a count from the first failure of two
count_from : (a b c : ℕ) (failed : Type 0) → a ≤ b → CountsFaults b c failed → CountsFaults a c failed
count_from a b c failed low counted = record {
  later = omega (arith, low, counted.later);
  rises = λ is. let rose = counted.rises is in let at : Rose b c = rose in omega (arith, low, at);
}

-- no failure: it starts at none, as the count does
count_from_new : (a b : ℕ) (failed : Type 0) → a ≡ 0 → CountsFaults a b failed → CountsFaults 0 b failed
count_from_new a b failed none counted = subst (λ (n : ℕ). CountsFaults n b failed) none counted

ends_from : (a b c : Option Bool) (ended : Result Unit ListenFault) → b ≡ a → EndsWith b c ended → EndsWith a c ended
ends_from a b c (Ok done) same ends = ends
ends_from a b c (Err fault) same ends = ends ∙ same

module _ {N L C R S : Type 0} {tells : Telling N L C R S} {disk : Disk}
    {read_only : Bool} where
  -- one connection was served with a new pass, given back, and the pass joined
  pub conn_did : (p new end q : CorePass) (old : Client N L C) (listener : N) (desk : Desk L C)
      (buffer : Buffer) (source source' : R) (sink sink' : S) (ended : SessionEnd) → mine new ≡ []
      → joined new ≡ [] → 0 < number end
      → IsNew (tells.held sink) (tells.read_faults source) (tells.write_faults sink)
      → (told : SessionTold read_only (base_of_disk disk) (streams_at (tells.left source) (tells.held sink))
      (streams_at (tells.left source') (tells.held sink')) (CallerDid disk
      (caller_at new (tells.log old.desk.link) (tells.link_faults old.desk.link) (tells.ticks old.desk.clock))
      (caller_at end (tells.log desk.link) (tells.link_faults desk.link) (tells.ticks desk.clock))) ended)
      → IsSamePass new end
      → CountsFaults (tells.read_faults source) (tells.read_faults source') (ended ≡ Fault ReadFault)
      → CountsFaults (tells.write_faults sink) (tells.write_faults sink') (ended ≡ Fault WriteFault)
      → HasRoom (fixed_of_disk disk).geometry desk → tells.came listener ≡ tells.came old.listener
      → tells.over listener ≡ tells.over old.listener
      → tells.listen_faults listener ≡ tells.listen_faults old.listener
      → Gains (tells.gave old.listener) (tells.gave listener)
      (record { number = number end; source = source'; sink = sink' } ∷ [])
      → MayUse disk q → HasJoined p end q
      → ConnDid tells disk read_only p q old (record { listener = listener; desk = desk; buffer = buffer; ended = old.ended })
      (tells.left source)
  conn_did p new end q old listener desk buffer source source' sink sink' ended none no_joins some fresh told same
      reads writes room same_came same_over same_faults back may has =
      let done = told.done in
      let made : told.deed.entries ≡ entries_in (mine end) =
      done.runs.entries_are
      ∙ ap entries_in (sym (done.runs.mine_is
      ∙ ap (λ (xs : List (ℕ × Timed)). done.runs.made ++ xs) none ∙ append-nil done.runs.made)) in
      record {
        conn = record {
          before = streams_at (tells.left source) (tells.held sink);
          source = source';
          sink = sink';
          number = number end;
          made = mine end;
          deed = told.deed;
          end = ended;
        };
        left_is = refl;
        is_served = record {
          positive = some;
          empty = fresh.empty;
          entries = made;
          requests = done.requests;
          course = told.course;
          read_cause = count_from_new _ _ _ fresh.source reads;
          write_cause = count_from_new _ _ _ fresh.sink writes;
        };
        room = room;
        same_came = same_came;
        same_over = same_over;
        same_faults = same_faults;
        gave = back;
        asked = done.asked;
        readings = done.runs.readings;
        passes = record {
          may = may;
          same_number = has.number;
          same_own = has.mine;
          gathers = gathers_joined p end q [] has (gathers_new end (same.joined ∙ no_joins));
        };
      }

  -- a client that has served nothing
  pub client_starts : (p : CorePass) (old : Client N L C) → MayUse disk p
      → HasRoom (fixed_of_disk disk).geometry old.desk → ClientSoFar tells disk read_only p p old old
  client_starts p old may room = record {
    conns = [];
    served = record {
      room = room;
      served = tt;
      came = gains_nothing (tells.came old.listener);
      gave = gains_nothing (tells.gave old.listener);
      asked = asked_nothing (tells.log old.desk.link) (tells.link_faults old.desk.link);
      readings = gains_nothing (tells.ticks old.desk.clock);
    };
    same_over = refl;
    counted = record { later = omega (arith); rises = λ bad. absurd bad };
    passes = record { may = may; same_number = refl; same_own = refl; gathers = gathers_none (joined p) };
  }

  -- a client that goes on with one connection
  pub client_goes_on : (p q split r : CorePass) (n : ℕ) (old mid new : Client N L C) (listener : N)
      (left : Option (List ℕ)) → ClientSoFar tells disk read_only p q old mid → HasSplit q n split
      → Gains (tells.came mid.listener) (tells.came listener) (left ∷ [])
      → tells.over listener ≡ tells.over mid.listener → tells.gave listener ≡ tells.gave mid.listener
      → tells.listen_faults mid.listener ≤ tells.listen_faults listener
      → ConnDid tells disk read_only split r
      (record { listener = listener; desk = mid.desk; buffer = mid.buffer; ended = mid.ended }) new left
      → ClientSoFar tells disk read_only p r old new
  client_goes_on p q split r n old mid new listener left before has accepted same_over same_gave later did =
      let conns = before.conns in
      let served = before.served in
      let X = Option (List (Handed R S)) in
      record {
        conns = did.conn ∷ conns;
        served = record {
          room = did.room;
          served = (did.is_served, served.served);
          came = gains_join (tells.came old.listener) (tells.came mid.listener) (tells.came new.listener)
              (came_of conns) (did.conn.before.left ∷ []) served.came
              (subst (λ (x : Option (List (Option (List ℕ)))).
              Gains (tells.came mid.listener) x (did.conn.before.left ∷ [])) (sym did.same_came)
              (subst (λ (x : Option (List ℕ)). Gains (tells.came mid.listener) (tells.came listener) (x ∷ []))
              (sym did.left_is) accepted));
          gave = gains_join (tells.gave old.listener) (tells.gave mid.listener) (tells.gave new.listener)
              (handed_of conns) (handed_of (did.conn ∷ [])) served.gave
              (subst (λ (x : X). Gains x (tells.gave new.listener) (handed_of (did.conn ∷ []))) same_gave
              did.gave);
          asked = asked_join (tells.log old.desk.link) (tells.log mid.desk.link) (tells.log new.desk.link)
              (tells.link_faults old.desk.link) (tells.link_faults mid.desk.link)
              (tells.link_faults new.desk.link) (deed_of_conns conns).calls did.conn.deed.calls served.asked
              did.asked;
          readings = gains_join (tells.ticks old.desk.clock) (tells.ticks mid.desk.clock)
              (tells.ticks new.desk.clock) (deed_of_conns conns).ticks did.conn.deed.ticks served.readings
              did.readings;
        };
        same_over = did.same_over ∙ same_over ∙ before.same_over;
        counted = record {
          later = omega (arith, before.counted.later, later, did.same_faults);
          rises = λ bad. absurd bad;
        };
        passes = record {
          may = did.passes.may;
          same_number = did.passes.same_number ∙ has.number ∙ before.passes.same_number;
          same_own = did.passes.same_own ∙ has.mine ∙ before.passes.same_own;
          gathers = gathers_then (joined p) (joined q) (joined r) (accounts_of conns)
              (accounts_of (did.conn ∷ [])) before.passes.gathers
              (subst (λ (xs : List (Account Timed)). Gathers xs (joined r) (accounts_of (did.conn ∷ [])))
              has.joined did.passes.gathers);
        };
      }

  -- a client that ends, with a pass that served nothing
  pub client_ends : (p q split other r : CorePass) (n : ℕ) (old mid : Client N L C) (listener : N)
      (ended : Result Unit ListenFault) → ClientSoFar tells disk read_only p q old mid → HasSplit q n split
      → tells.came listener ≡ tells.came mid.listener
      → EndsWith (tells.over mid.listener) (tells.over listener) ended
      → tells.gave listener ≡ tells.gave mid.listener
      → CountsFaults (tells.listen_faults mid.listener) (tells.listen_faults listener) (IsErr ended)
      → joined other ≡ [] → MayUse disk r → HasJoined split other r
      → ClientDid tells disk read_only p r old
      (record { listener = listener; desk = mid.desk; buffer = mid.buffer; ended = mid.ended }) ended
  client_ends p q split other r n old mid listener ended before has same_came over same_gave cause none may
      joins =
      let conns = before.conns in
      let served = before.served in
      record {
        conns = conns;
        served = record {
          has = record {
            room = served.room;
            served = served.served;
            came = subst (λ (x : Option (List (Option (List ℕ)))). Gains (tells.came old.listener) x (came_of conns))
                (sym same_came) served.came;
            gave = subst (λ (x : Option (List (Handed R S))). Gains (tells.gave old.listener) x (handed_of conns))
                (sym same_gave) served.gave;
            asked = served.asked;
            readings = served.readings;
          };
          over = ends_from _ _ _ ended before.same_over over;
          cause = count_from _ _ _ _ before.counted.later cause;
        };
        passes = record {
          may = may;
          same_number = joins.number ∙ has.number ∙ before.passes.same_number;
          same_own = joins.mine ∙ has.mine ∙ before.passes.same_own;
          gathers = gathers_then (joined p) (joined q) (joined r) (accounts_of conns) [] before.passes.gathers
              (subst (λ (xs : List (Account Timed)). Gathers xs (joined r) []) has.joined
              (gathers_less (joined split) (joined r) [] (number other, mine other)
              (gathers_joined split other r [] joins (gathers_new other none))));
        };
      }
