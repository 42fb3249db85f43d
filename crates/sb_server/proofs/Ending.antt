-- How what clients and workers did is one history at the end.
use Rattle.std.proofs.Common.{ℕ, ◌≡◌, ◌<◌, ◌≤◌, List, [], ◌∷◌, ◌++◌, inl, inr, Bool, true, false, Result, sym, ◌∙◌, ap, subst, append_assoc, arith}
use Rattle.sb_base.specs.declared.entry.Entry.{Entry}
use Rattle.sb_turn.specs.Histories.{entries_of_pass, IsPast}
use Rattle.sb_turn.specs.Views.{Account, AccountsMatch, count}
use Rattle.sb_turn.specs.Passes.{seen, mine, joined, number, HasSplit, HasJoined}
use Rattle.sb_world.specs.declared.clock.Clock as clock
use Rattle.sb_world.specs.declared.clock.Tick.TheVariants.{Taken}
use Rattle.sb_world.specs.declared.link.Link as link
use Rattle.sb_core.specs.declared.standing.Timed.{Timed}
use Rattle.sb_core.specs.contracts.standing.CoreStands.TheImpl.{ghosts}
use Rattle.sb_core.specs.Jobs.{closing_entry}
use Rattle.sb_core.specs.Standing.{entries_in}
use Rattle.sb_crew.specs.declared.calls.FlushFault.{FlushFault}
use Rattle.sb_crew.specs.declared.desk.Desk.{Desk}
use Rattle.sb_crew.specs.declared.disk.Disk.{Disk}
use Rattle.sb_crew.specs.Counts.{Asked}
use Rattle.sb_crew.specs.Joins.{gains_join}
use Rattle.sb_crew.specs.Scenes.{Deed, nothing}
use Rattle.sb_crew.specs.Sharing.{PassRuns, CallerScene, caller_of}
use Rattle.sb_crew.specs.SharedDisks.{fixed_of_disk, CallerDid}
use Rattle.sb_crew.specs.SharedJoins.{entries_in-append, shared_nothing}
use Rattle.sb_server.specs.declared.caller.Caller.{Caller}
use Rattle.sb_server.specs.declared.client.Client.{Client}
use Rattle.sb_server.specs.declared.worker.Worker.{Worker}
use Rattle.sb_server.specs.Tellings.{Telling}
use Rattle.sb_server.specs.Accounts.{IsIn, AreIn, Gathers, AreExact}
use Rattle.sb_server.specs.Callers.{CorePass}
use Rattle.sb_server.specs.Connections.{accounts_in}
use Rattle.sb_server.specs.Workers.{WorkersDid}
use Rattle.sb_server.specs.Endings.{LastFlush, FlushesLast, FlushesOr, AllServed, ClientsPart}
use Rattle.sb_server.proofs.Gathering.{gathers_after, gathers_less, gathers_joined}

-- an account that stands among those that match is exact
in_matches : (history : List (ℕ × Timed)) (account : Account Timed) (accounts : List (Account Timed)) → 0 < account.0
    → AccountsMatch history history accounts → IsIn account accounts → entries_of_pass account.0 history ≡ account.1
in_matches history account [] some match is = absurd is
in_matches history account (x ∷ accounts) some match (inl same) =
    let M : Account Timed → Type 0 = λ a.
    0 < a.0 → (entries_of_pass a.0 history ≡ a.1) × (entries_of_pass a.0 history ≡ a.1) in
    (subst M (sym same) match.0 some).0
in_matches history account (x ∷ accounts) some match (inr is) = in_matches history account accounts some match.1 is

exact_in : (history : List (ℕ × Timed)) (xs accounts : List (Account Timed)) → AccountsMatch history history accounts
    → AreIn xs accounts → AreExact history xs
exact_in history [] accounts match are = tt
exact_in history (x ∷ xs) accounts match are =
    ((λ some. in_matches history x accounts some match are.0), exact_in history xs accounts match are.1)

past_then : (a b c : List (ℕ × Timed)) → IsPast a b → IsPast b c → IsPast a c
past_then a b c first second = (
  second.0 ++ first.0,
  second.1 ∙ ap (λ (h : List (ℕ × Timed)). second.0 ++ h) first.1 ∙ sym (append_assoc second.0 first.0 a),
)

-- the entries of a pass that made some more
entries_more : (made old all : List (ℕ × Timed)) (entries : List Entry) → entries ≡ entries_in made → all ≡ made ++ old
    → entries_in all ≡ entries ++ entries_in old
entries_more made old all entries are is =
    ap entries_in is ∙ entries_in-append made old ∙ ap (λ (es : List Entry). es ++ entries_in old) (sym are)

-- what was done at the end, whether there was a flush or not
pub flush_did : (disk : Disk) (read_only : Bool) (a b : CallerScene ghosts) (result : Result Unit FlushFault)
    → FlushesOr disk read_only a b result → (deed : Deed) × CallerDid disk a b deed
flush_did disk true a b result done =
    (nothing, subst (λ (x : CallerScene ghosts). CallerDid disk a x nothing) (sym done.0) shared_nothing)
flush_did disk false a b result done = (done.deed, done.done)

pub flushes_last : (disk : Disk) (read_only : Bool) (a mid b : CallerScene ghosts) (result : Result Unit FlushFault)
    → ((deed : Deed) → CallerDid disk mid b deed → LastFlush disk a b deed) → FlushesOr disk read_only mid b result
    → FlushesLast disk read_only a b result
flushes_last disk true a mid b result last done = (
  last nothing (subst (λ (x : CallerScene ghosts). CallerDid disk mid x nothing) (sym done.0) shared_nothing),
  done.1,
)
flushes_last disk false a mid b result last done = record {
  deed = done.deed;
  done = last done.deed done.done;
  ends = done.ends;
  asks = done.asks;
}

module _ {L C : Type 0} (links : link.Ghosts L) (clocks : clock.Ghosts C) (disk : Disk) where
  pub last_flush : (p last closed behind q : CorePass) (desk mid end : Desk L C) (reading now : ℕ)
      → number last ≡ number p → mine last ≡ mine p
      → PassRuns (fixed_of_disk disk) last closed (clocks.ticks desk.clock) (clocks.ticks mid.clock)
      (closing_entry (number last) reading ∷ []) (Taken now ∷ [])
      → mid.link ≡ desk.link → number behind ≡ number closed → mine behind ≡ mine closed
      → entries_of_pass (number q) (seen q) ≡ mine q → (flush : Deed)
      → CallerDid disk (caller_of links clocks behind mid) (caller_of links clocks q end) flush
      → LastFlush disk (caller_of links clocks p desk) (caller_of links clocks q end) flush
  last_flush p last closed behind q desk mid end reading now same_number same_own closes same_link behind_number
      behind_own own flush did =
      let runs = did.runs in
      let number_is : number q ≡ number p =
      runs.same.number ∙ behind_number ∙ closes.same.number ∙ same_number in
      let closing : entries_in (mine closed) ≡ closing_entry (number p) reading ∷ entries_in (mine p) =
      entries_more closes.made (mine last) (mine closed) (closing_entry (number last) reading ∷ []) closes.entries_are
      closes.mine_is
      ∙ ap (λ (n : ℕ). closing_entry n reading ∷ entries_in (mine last)) same_number
      ∙ ap (λ (l : List (ℕ × Timed)). closing_entry (number p) reading ∷ entries_in l) same_own in
      let all : entries_in (mine q) ≡ flush.entries ++ (closing_entry (number p) reading ∷ entries_in (mine p)) =
      entries_more runs.made (mine behind) (mine q) flush.entries runs.entries_are runs.mine_is
      ∙ ap (λ (l : List (ℕ × Timed)). flush.entries ++ entries_in l) behind_own
      ∙ ap (λ (es : List Entry). flush.entries ++ es) closing in
      record {
        reading = reading;
        now = now;
        own = ap (λ (n : ℕ). entries_in (entries_of_pass n (seen q))) (sym number_is) ∙ ap entries_in own ∙ all;
        asked = subst (λ (l : L). Asked (links.log l) (links.log end.link) (links.faults l) (links.faults end.link)
            flush.calls) same_link did.asked;
        requests = did.requests;
        readings = gains_join (clocks.ticks desk.clock) (clocks.ticks mid.clock) (clocks.ticks end.clock)
            (Taken now ∷ []) flush.ticks closes.readings runs.readings;
      }

module _ {N L C R S : Type 0} (tells : Telling N L C R S) (links : link.Ghosts L) (clocks : clock.Ghosts C)
    (disk : Disk) (read_only : Bool) where
  pub all_served : (p split closed theirs worked behind q : CorePass) (n : ℕ) (desk mid : Desk L C)
      (clients clients' : List (Caller (Client N L C))) (workers workers' : List (Caller (Worker L C)))
      (a b : CallerScene ghosts) (flush : Deed) → HasSplit p n split → joined theirs ≡ []
      → ClientsPart tells links clocks disk read_only split closed desk mid clients clients'
      → WorkersDid links clocks disk theirs worked workers workers' → HasJoined closed worked behind
      → IsPast (seen closed) (seen behind) → a.pass ≡ behind → b.pass ≡ q → CallerDid disk a b flush
      → AccountsMatch (seen q) (seen q) (joined q) → ((k : ℕ) → 0 < k → count k (joined q) ≤ 1)
      → count (number q) (joined q) ≡ 0
      → AllServed tells links clocks disk read_only p q clients clients' workers workers'
  all_served p split closed theirs worked behind q n desk mid clients clients' workers workers' a b flush has none part
      workers_did joins past is_behind is_q did exact apart not_own =
      let last = part.last in
      let conns = part.crowd.conns in
      let accounts = workers_did.accounts in
      let X = List (Account Timed) in
      let same : joined q ≡ joined behind =
      ap (λ (x : CorePass). joined x) (sym is_q) ∙ did.runs.same.joined
      ∙ ap (λ (x : CorePass). joined x) is_behind in
      let clients_in : Gathers (joined split) (joined closed) (accounts_in conns) =
      subst (λ (all : X). Gathers (joined split) all (accounts_in conns)) (sym part.closes.same.joined)
      part.crowd.passes.gathers in
      let workers_in : Gathers (joined closed) (joined behind) accounts =
      gathers_less (joined closed) (joined behind) accounts (number worked, mine worked)
      (gathers_joined closed worked behind accounts joins
      (subst (λ (all : X). Gathers all (joined worked) accounts) none workers_did.passes.gathers)) in
      let all_in : Gathers (joined split) (joined q) (accounts_in conns ++ accounts) =
      subst (λ (all : X). Gathers (joined split) all (accounts_in conns ++ accounts)) (sym same)
      (gathers_after (joined split) (joined closed) (joined behind) (accounts_in conns) accounts clients_in
      workers_in) in
      let later : IsPast (seen behind) (seen q) = (
        did.runs.later,
        ap (λ (x : CorePass). seen x) (sym is_q) ∙ did.runs.seen_is
            ∙ ap (λ (x : CorePass). did.runs.later ++ seen x) is_behind,
      ) in
      record {
        conns = conns;
        accounts = accounts;
        served = part.crowd.served;
        worked = workers_did.worked;
        exact = exact_in (seen q) (accounts_in conns ++ accounts) (joined q) exact all_in.all_in;
        apart = λ k some. omega (arith, all_in.apart k, apart k some);
        not_own = omega (arith, all_in.apart (number q), not_own);
        closed = record {
          before = seen last;
          goes_on = past_then (seen last) (seen closed) (seen q) (part.closes.later, part.closes.seen_is)
              (past_then (seen closed) (seen behind) (seen q) past later);
          ended = exact_in (seen last) (accounts_in conns) (joined last) part.exact part.crowd.passes.gathers.all_in;
          open_still = ap (λ (k : ℕ). entries_of_pass k (seen last)) (sym (part.crowd.passes.same_number ∙ has.number))
              ∙ part.own ∙ part.crowd.passes.same_own ∙ has.mine;
        };
      }
