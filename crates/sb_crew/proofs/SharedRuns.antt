-- What a call of a disk that has many callers did, round by round.
use Rattle.std.proofs.Common.{ℕ, ◌≡◌, ◌<◌, Bool, false, nat_eq, if◌then◌else◌, max, List, [], ◌∷◌, ◌++◌}
use Rattle.std.proofs.Common.{Option, Some, None, Result, Ok, Err, length, is_ok, refl, sym, ◌∙◌, ap, subst, inl}
use Rattle.std.proofs.Common.{append-nil}
use Rattle.std.proofs.lemmas.Bool.{eq-eqb}
use Rattle.std.specs.List.{AllByRecursion}
use Rattle.sb_turn.specs.declared.stands.Stands.{Ghosts}
use Rattle.sb_turn.specs.declared.pass.Pass.{Pass}
use Rattle.sb_turn.specs.Passes.{seen, number}
use Rattle.sb_base.specs.declared.part.Part.{Part}
use Rattle.sb_base.specs.declared.line.Why.{Why}
use Rattle.sb_base.specs.declared.entry.Entry.{Entry}
use Rattle.sb_base.specs.declared.entry.EntryKind.{EntryKind}
use Rattle.sb_base.specs.declared.entry.EntryKind.TheVariants as kind
use Rattle.sb_world.specs.Told.{Gains}
use Rattle.sb_world.specs.Calls.{get_reply, fault_of}
use Rattle.sb_world.specs.declared.clock.Tick.{Tick}
use Rattle.sb_world.specs.declared.clock.Tick.TheVariants as tick
use Rattle.sb_world.specs.declared.link.Call.{Call}
use Rattle.sb_world.specs.declared.link.LinkFault.{LinkFault}
use Rattle.sb_history.specs.Contents.{is_zeros}
use Rattle.sb_history.specs.Requests.{RequestLog, IsPutCall, meta_of}
use Rattle.sb_history.specs.ClockTrace.{ClockTrace, PausesAfter, PauseTicks, wait_pause}
use Rattle.sb_history.specs.AccessRules.{last_reading}
use Rattle.sb_laws.proofs.Joins.{entry_is_ticked}
use Rattle.sb_core.specs.declared.machine.Core.{Core}
use Rattle.sb_core.specs.declared.standing.Timed.{Timed}
use Rattle.sb_core.specs.declared.standing.Fixed.{Fixed}
use Rattle.sb_core.specs.declared.job.GetJob.{GetJob}
use Rattle.sb_core.specs.Standing.{entry_at, entries_in}
use Rattle.sb_crew.specs.Bases.{shared_base}
use Rattle.sb_crew.specs.Scenes.{Deed, deed_of, followed, nothing}
use Rattle.sb_crew.specs.Names.{Naming, name_of}
use Rattle.sb_crew.specs.Answers.{call_fault}
use Rattle.sb_crew.specs.Turns.{put_sent}
use Rattle.sb_crew.specs.declared.calls.CallFault.{CallFault}
use Rattle.sb_crew.specs.declared.calls.FlushFault.{FlushFault}
use Rattle.sb_crew.specs.Joins.{gains_join, asked_nothing}
use Rattle.sb_crew.specs.Outcomes.{Outcome, FlushBegun, outcome_of, outcomes_of, bytes_of, bytes_read, asked_of}
use Rattle.sb_crew.specs.Outcomes.{IsBlockOf, AsksOnly, IsFailure, NoneFail, HasCause, Meets, Stops, Does}
use Rattle.sb_crew.specs.Sharing.{caller, seen_by, began_get, ended_get, began_put, ended_put, get_sent, pause_ticks}
use Rattle.sb_crew.specs.Sharing.{CallerScene, caller_at, PassTurn, PassRuns, PassDid, PassFetch, PassStore, SharedSoFar}
use Rattle.sb_crew.specs.SharedJoins.{entries_in-append, runs_follow, shared_nothing, shared_join}
use Rattle.sb_crew.proofs.OutcomeLemmas.{outcomes_join, bytes_join, asks_join, none_fail_join, cause_stays}
use Rattle.sb_crew.proofs.Turning.{replies_fit, ended_so, counts_so, get_fault}
use Rattle.sb_crew.proofs.Requesting.{put_fault}
use Rattle.sb_crew.proofs.SharedTurns.{of_others, unticked}

-- the calls of a PUT that ended, with its begin
put_requests : (names : Naming) (n block : ℕ) (content : List ℕ) (sent : Result Unit LinkFault) (reading later : ℕ)
    → RequestLog (name_of names) (Some names.meta)
    (ended_put n block later sent ∷ began_put n reading block content ∷ []) (put_sent names block content sent ∷ [])
put_requests names n block content sent reading later =
    let known : (if nat_eq block block then Some content else None) ≡ Some content =
    ap (λ (t : Bool). if t then Some content else None) (eq-eqb block block refl) in
    let calls = put_sent names block content sent ∷ [] in
    let P : Option (List ℕ) → Type 0 = λ put.
    IsPutCall (name_of names block) (meta_of (Some names.meta) block) put (is_ok sent) calls
    (λ earlier. earlier ≡ []) in
    subst P (sym known) (fault_of sent, [], refl, ended_so sent, refl)

-- the ticks of a pause, if there is one
pub paused_so : (now : ℕ) (pause : Option ℕ) → PauseTicks false now None pause (pause_ticks pause)
paused_so now None = refl
paused_so now (Some millis) = inl (refl, tt)

module _ {g : Ghosts Core Timed Fixed} where
  -- what happened before the entry of a turn, in two forms
  before_turn : (p : Pass Core Timed Fixed g) (others : List (ℕ × Timed))
      → entries_in (others ++ seen p) ≡ entries_in others ++ seen_by p
  before_turn p others = entries_in-append others (seen p)

  -- one turn, and the pause behind it, if there is one
  pub one_turn_runs : {p q : Pass Core Timed Fixed g} {fixed : Fixed} {clock clock' : Option (List Tick)} {now : ℕ}
      {entry : Entry} (after : List Tick) (pause : Option ℕ) (turn : PassTurn p q now entry)
      → PausesAfter fixed.geometry fixed.settings (entries_in (turn.others ++ seen p)) now entry.kind pause
      → PauseTicks false now None pause after → Gains clock clock' (after ++ tick.Taken now ∷ [])
      → PassRuns fixed p q clock clock' (entry ∷ []) (after ++ tick.Taken now ∷ [])
  one_turn_runs {p} {q} {fixed} {clock} {clock'} {now} {entry} after pause turn pauses paused gains =
      let n = number p in
      let others = entries_in turn.others in
      let told : Entry = entry_at (n, turn.event) in
      let H : List Entry → Type 0 = λ h. PausesAfter fixed.geometry fixed.settings h now entry.kind pause in
      let trace : ClockTrace fixed.geometry fixed.settings (caller n) (seen_by p) (entry ∷ others) None
      (after ++ tick.Taken now ∷ []) =
      entry_is_ticked fixed.geometry fixed.settings (caller n) (seen_by p) others entry None pause now after []
      (ap (λ (e : Entry). e.pass) turn.entry_is)
      (turn.reading ∙ ap (λ (h : List Entry). max now (last_reading h)) (before_turn p turn.others))
      (subst H (before_turn p turn.others) pauses) paused
      (unticked fixed.geometry fixed.settings n (seen_by p) others (Some now)
      (of_others n turn.others turn.of_others)) in
      record {
        same = turn.same;
        made = (n, turn.event) ∷ [];
        entries_are = ap (λ (e : Entry). e ∷ []) turn.entry_is;
        mine_is = turn.mine_is;
        later = (n, turn.event) ∷ turn.others;
        seen_is = turn.seen_is;
        readings = gains;
        trace = subst (λ (e : Entry).
            ClockTrace fixed.geometry fixed.settings (caller n) (seen_by p) (e ∷ others) None
            (after ++ tick.Taken now ∷ [])) turn.entry_is trace;
      }

  -- a turn that asks the store for nothing
  pub quiet_turn : {p q : Pass Core Timed Fixed g} {names : Naming} {fixed : Fixed} {log : Option (List Call)}
      {faults : ℕ} {clock clock' : Option (List Tick)} {now : ℕ} {entry : Entry} (after : List Tick) (pause : Option ℕ)
      (turn : PassTurn p q now entry) → RequestLog (name_of names) (Some names.meta) (entry ∷ []) []
      → PausesAfter fixed.geometry fixed.settings (entries_in (turn.others ++ seen p)) now entry.kind pause
      → PauseTicks false now None pause after → Gains clock clock' (after ++ tick.Taken now ∷ [])
      → PassDid names fixed (caller_at p log faults clock) (caller_at q log faults clock')
      (deed_of (entry ∷ []) [] (after ++ tick.Taken now ∷ []))
  quiet_turn {log = log} {faults = faults} after pause turn quiet pauses paused gains = record {
    runs = one_turn_runs after pause turn pauses paused gains;
    asked = asked_nothing log faults;
    requests = quiet;
  }

  -- a GET, from its begin to its end
  pub get_turns : {p : Pass Core Timed Fixed g} {b c : CallerScene g} {names : Naming} {fixed : Fixed}
      {clock : Option (List Tick)} {now : ℕ} {entry : Entry} (job : GetJob) {result : Result Unit CallFault}
      (turn : PassTurn p b.pass now entry) → entry ≡ began_get (number p) job
      → Gains clock b.ticks (tick.Taken now ∷ []) → (fetched : PassFetch names fixed b c job result)
      → PassDid names fixed (caller_at p b.log b.faults clock) c (deed_of
      (ended_get (number p) job fetched.reading fetched.got fetched.bytes fetched.taken ∷ began_get (number p) job ∷ [])
      (get_sent names job fetched.got fetched.bytes ∷ [])
      ((fetched.after ++ tick.Taken fetched.later ∷ []) ++ (tick.Taken now ∷ [])))
  get_turns {p} {b} {c} {names} {fixed} {clock} {now} job turn is gains fetched =
      let asked = get_sent names job fetched.got fetched.bytes in
      let T : Entry → Type 0 = λ e. PassTurn p b.pass now e in
      let E : ℕ → Type 0 = λ n. PassRuns fixed b.pass c.pass b.ticks c.ticks
      (ended_get n job fetched.reading fetched.got fetched.bytes fetched.taken ∷ [])
      (fetched.after ++ tick.Taken fetched.later ∷ []) in
      record {
        runs = runs_follow (one_turn_runs {fixed = fixed} [] None (subst T is turn) refl refl gains)
            (subst E turn.same.number
            (one_turn_runs fetched.after fetched.pause fetched.turn fetched.pauses fetched.paused fetched.readings));
        asked = record {
          gained = fetched.called;
          counted = counts_so b.faults c.faults fetched.got asked
              (get_fault (name_of names job.block) job.verify fetched.got fetched.bytes) fetched.counted;
        };
        requests = (get_reply fetched.got fetched.bytes, [], refl, replies_fit fetched.got fetched.bytes, refl);
      }

  -- a PUT, from its begin to its end
  pub put_turns : {p : Pass Core Timed Fixed g} {b c : CallerScene g} {names : Naming} {fixed : Fixed}
      {clock : Option (List Tick)} {now : ℕ} {entry : Entry} (reading block : ℕ) (content : List ℕ)
      {result : Result Unit FlushFault} (turn : PassTurn p b.pass now entry)
      → entry ≡ began_put (number p) reading block content → Gains clock b.ticks (tick.Taken now ∷ [])
      → (stored : PassStore names fixed b c block content result)
      → PassDid names fixed (caller_at p b.log b.faults clock) c (deed_of
      (ended_put (number p) block stored.reading stored.sent ∷ began_put (number p) reading block content ∷ [])
      (put_sent names block content stored.sent ∷ []) (tick.Taken stored.later ∷ tick.Taken now ∷ []))
  put_turns {p} {b} {c} {names} {fixed} {clock} {now} reading block content turn is gains stored =
      let asked = put_sent names block content stored.sent in
      let T : Entry → Type 0 = λ e. PassTurn p b.pass now e in
      let E : ℕ → Type 0 = λ n. PassRuns fixed b.pass c.pass b.ticks c.ticks
      (ended_put n block stored.reading stored.sent ∷ []) (tick.Taken stored.later ∷ []) in
      record {
        runs = runs_follow (one_turn_runs {fixed = fixed} [] None (subst T is turn) refl refl gains)
            (subst E turn.same.number (one_turn_runs {fixed = fixed} [] None stored.turn refl refl stored.readings));
        asked = record {
          gained = stored.called;
          counted = counts_so b.faults c.faults stored.sent asked
              (put_fault (is_zeros content) (name_of names block) (meta_of (Some names.meta) block) content
              (fault_of stored.sent)) stored.counted;
        };
        requests = put_requests names (number p) block content stored.sent reading stored.reading;
      }

  -- a call that has done nothing
  pub shared_starts : {a : CallerScene g} {names : Naming} {fixed : Fixed} {parts : List Part}
      → SharedSoFar [] names fixed a a parts
  shared_starts = record {
    deed = nothing;
    done = shared_nothing;
    met_so = refl;
    no_bytes = refl;
    none_fail = tt;
    asks = record { asked = tt };
  }

  -- what a call did so far, and what it did then
  module _ {a b c : CallerScene g} {names : Naming} {fixed : Fixed} {met : List Outcome} {parts : List Part} where
    pub then_goes_on : {deed : Deed} → SharedSoFar met names fixed a b parts → PassDid names fixed b c deed
        → outcomes_of deed.entries ≡ [] → bytes_read deed.entries ≡ [] → NoneFail deed.entries
        → AsksOnly parts deed.entries → SharedSoFar met names fixed a c parts
    then_goes_on {deed} before more none no_bytes none_fail asks = record {
      deed = followed before.deed deed;
      done = shared_join before.done more;
      met_so = outcomes_join deed.entries before.deed.entries
          ∙ ap (λ (os : List Outcome). os ++ outcomes_of before.deed.entries) none ∙ before.met_so;
      no_bytes = bytes_join deed.entries before.deed.entries
          ∙ ap (λ (bs : List ℕ). bs ++ bytes_read deed.entries) before.no_bytes ∙ no_bytes;
      none_fail = none_fail_join deed.entries before.deed.entries none_fail before.none_fail;
      asks = asks_join parts before.deed.entries deed.entries before.asks asks;
    }

    pub then_ends : {deed : Deed} → SharedSoFar met names fixed a b parts → PassDid names fixed b c deed
        → NoneFail deed.entries → AsksOnly parts deed.entries
        → Does (PassDid names fixed a c) parts (λ (all : Deed).
        Meets (shared_base fixed) (outcomes_of deed.entries ++ met) all × (bytes_read all.entries ≡ bytes_read deed.entries))
    then_ends {deed} before more none_fail asks = record {
      deed = followed before.deed deed;
      done = shared_join before.done more;
      ends = (
        record {
          met = outcomes_join deed.entries before.deed.entries
              ∙ ap (λ (os : List Outcome). outcomes_of deed.entries ++ os) before.met_so;
          reached = tt;
          none_fail = none_fail_join deed.entries before.deed.entries none_fail before.none_fail;
        },
        bytes_join deed.entries before.deed.entries
            ∙ ap (λ (bs : List ℕ). bs ++ bytes_read deed.entries) before.no_bytes,
      );
      asks = asks_join parts before.deed.entries deed.entries before.asks asks;
    }

    pub then_fails : {deed : Deed} (want : List Outcome) (fault : CallFault) → 0 < length want
        → SharedSoFar met names fixed a b parts → PassDid names fixed b c deed → outcomes_of deed.entries ≡ []
        → AsksOnly parts deed.entries → HasCause (shared_base fixed) fault deed
        → Does (PassDid names fixed a c) parts (λ (all : Deed). Stops (shared_base fixed) (want ++ met) all fault)
    then_fails {deed} want fault some before more none asks cause = record {
      deed = followed before.deed deed;
      done = shared_join before.done more;
      ends = record {
        missing = want;
        some = some;
        met = ap (λ (os : List Outcome). want ++ os) (outcomes_join deed.entries before.deed.entries
            ∙ ap (λ (os : List Outcome). os ++ outcomes_of before.deed.entries) none ∙ before.met_so);
        reached = tt;
        cause = cause_stays (shared_base fixed) fault before.deed deed before.none_fail cause;
      };
      asks = asks_join parts before.deed.entries deed.entries before.asks asks;
    }

-- what a call did so far, and one more round of it: an answer of the core, and what came of it
module _ {g : Ghosts Core Timed Fixed} {a : CallerScene g} {p q : Pass Core Timed Fixed g} {names : Naming}
    {fixed : Fixed} {met : List Outcome} {log : Option (List Call)} {faults : ℕ} {clock clock' : Option (List Tick)}
    {parts : List Part} {now : ℕ} {entry : Entry}
    (before : SharedSoFar met names fixed a (caller_at p log faults clock) parts)
    (turn : PassTurn p q now entry) (gains : Gains clock clock' (tick.Taken now ∷ [])) where
  -- the call waited
  pub round_waits : {clock'' : Option (List Tick)} (reading : ℕ) (why : Why)
      → entry ≡ record { pass = number p; reading = reading; kind = kind.Waited why }
      → Gains clock' clock'' (pause_ticks (wait_pause why now))
      → SharedSoFar met names fixed a (caller_at q log faults clock'') parts
  round_waits {clock''} reading why is waited =
      let after = pause_ticks (wait_pause why now) in
      let T : Entry → Type 0 = λ e. PassTurn p q now e in
      then_goes_on before
      (quiet_turn {names = names} {fixed = fixed} after (wait_pause why now) (subst T is turn) refl refl
      (paused_so now (wait_pause why now)) (gains_join clock clock' clock'' (tick.Taken now ∷ []) after gains waited))
      refl refl ((λ fails. fails), tt) (record { asked = tt })

  -- another block left the cache
  pub round_drops : (reading dropped : ℕ)
      → entry ≡ record { pass = number p; reading = reading; kind = kind.Dropped dropped }
      → SharedSoFar met names fixed a (caller_at q log faults clock') parts
  round_drops reading dropped is =
      let T : Entry → Type 0 = λ e. PassTurn p q now e in
      then_goes_on before
      (quiet_turn {names = names} {fixed = fixed} [] None (subst T is turn) refl refl refl gains) refl refl
      ((λ fails. fails), tt) (record { asked = tt })

  -- the call is answered
  pub round_ends : (reading : ℕ) (of : EntryKind) → entry ≡ record { pass = number p; reading = reading; kind = of }
      → RequestLog (name_of names) (Some names.meta) (record { pass = number p; reading = reading; kind = of } ∷ []) []
      → ((past : List Entry) → PausesAfter fixed.geometry fixed.settings past now of None)
      → asked_of of ≡ [] → (IsFailure of → ⊥)
      → Does (PassDid names fixed a (caller_at q log faults clock')) parts (λ (deed : Deed).
      Meets (shared_base fixed) (outcome_of of ++ met) deed × (bytes_read deed.entries ≡ bytes_of of))
  round_ends reading of is quiet plain asks succeeds =
      let T : Entry → Type 0 = λ e. PassTurn p q now e in
      let told : PassTurn p q now (record { pass = number p; reading = reading; kind = of }) = subst T is turn in
      let ended = then_ends before
      (quiet_turn {names = names} {fixed = fixed} [] None told quiet (plain (entries_in (told.others ++ seen p))) refl
      gains) (succeeds, tt)
      (record {
        asked = subst (λ (bs : List ℕ). AllByRecursion (IsBlockOf parts) (bs ++ [])) (sym asks) tt;
      }) in
      record {
        deed = ended.deed;
        done = ended.done;
        ends = (
          record {
            met = ended.ends.0.met ∙ ap (λ (os : List Outcome). os ++ met) (append-nil (outcome_of of));
            reached = tt;
            none_fail = ended.ends.0.none_fail;
          },
          ended.ends.1,
        );
        asks = ended.asks;
      }

  module _ {c : CallerScene g} where
    -- a GET was made
    pub round_gets : (job : GetJob) → entry ≡ began_get (number p) job → IsBlockOf parts job.block
        → PassFetch names fixed (caller_at q log faults clock') c job (Ok tt) → SharedSoFar met names fixed a c parts
    round_gets job is asked fetched =
        let E : ℕ → Type 0 = λ n. NoneFail
        (ended_get n job fetched.reading fetched.got fetched.bytes fetched.taken ∷ began_get n job ∷ []) in
        then_goes_on before (get_turns job turn is gains fetched) refl refl (subst E turn.same.number fetched.cause)
        (record { asked = (asked, tt) })

    pub round_get_fails : (want : List Outcome) (job : GetJob) (fault : CallFault) → 0 < length want
        → entry ≡ began_get (number p) job → IsBlockOf parts job.block
        → PassFetch names fixed (caller_at q log faults clock') c job (Err fault)
        → Does (PassDid names fixed a c) parts (λ (deed : Deed). Stops (shared_base fixed) (want ++ met) deed fault)
    round_get_fails want job fault some is asked fetched =
        let E : ℕ → Type 0 = λ n. HasCause (shared_base fixed) fault (deed_of
        (ended_get n job fetched.reading fetched.got fetched.bytes fetched.taken ∷ began_get n job ∷ [])
        (get_sent names job fetched.got fetched.bytes ∷ []) (fetched.after ++ tick.Taken fetched.later ∷ [])) in
        let late = cause_stays (shared_base fixed) fault (deed_of [] [] (tick.Taken now ∷ []))
        (deed_of (ended_get (number p) job fetched.reading fetched.got fetched.bytes fetched.taken
        ∷ began_get (number p) job ∷ [])
        (get_sent names job fetched.got fetched.bytes ∷ []) (fetched.after ++ tick.Taken fetched.later ∷ [])) tt
        (subst E turn.same.number fetched.cause) in
        then_fails want fault some before (get_turns job turn is gains fetched) refl (record { asked = (asked, tt) }) late

    -- a PUT was made
    pub round_puts : (reading block : ℕ) (content : List ℕ) → entry ≡ began_put (number p) reading block content
        → PassStore names fixed (caller_at q log faults clock') c block content (Ok tt)
        → SharedSoFar met names fixed a c parts
    round_puts reading block content is stored =
        let E : ℕ → Type 0 = λ n. NoneFail (ended_put n block stored.reading stored.sent ∷ []) in
        then_goes_on before (put_turns reading block content turn is gains stored) refl refl
        ((subst E turn.same.number stored.cause).0, ((λ fails. fails), tt)) (record { asked = tt })

    pub round_put_fails : (want : List Outcome) (reading block : ℕ) (content : List ℕ) (fault : FlushFault)
        → 0 < length want → entry ≡ began_put (number p) reading block content
        → PassStore names fixed (caller_at q log faults clock') c block content (Err fault)
        → Does (PassDid names fixed a c) parts
        (λ (deed : Deed). Stops (shared_base fixed) (want ++ met) deed (call_fault fault))
    round_put_fails want reading block content fault some is stored =
        let E : ℕ → Type 0 = λ n. HasCause (shared_base fixed) (call_fault fault)
        (deed_of (ended_put n block stored.reading stored.sent ∷ []) (put_sent names block content stored.sent ∷ [])
        (tick.Taken stored.later ∷ [])) in
        let late = cause_stays (shared_base fixed) (call_fault fault)
        (deed_of (began_put (number p) reading block content ∷ []) [] (tick.Taken now ∷ []))
        (deed_of (ended_put (number p) block stored.reading stored.sent ∷ [])
        (put_sent names block content stored.sent ∷ []) (tick.Taken stored.later ∷ []))
        ((λ fails. fails), tt) (subst E turn.same.number stored.cause) in
        then_fails want (call_fault fault) some before (put_turns reading block content turn is gains stored) refl
        (record { asked = tt }) late

-- a flush has begun
pub flush_starts : {g : Ghosts Core Timed Fixed} {p q : Pass Core Timed Fixed g} {names : Naming} {fixed : Fixed}
    {log : Option (List Call)} {faults : ℕ} {clock clock' : Option (List Tick)} {now : ℕ} (reading mark : ℕ)
    → PassTurn p q now (record { pass = number p; reading = reading; kind = kind.FlushBegin mark })
    → Gains clock clock' (tick.Taken now ∷ [])
    → SharedSoFar (FlushBegun mark ∷ []) names fixed (caller_at p log faults clock) (caller_at q log faults clock') []
flush_starts {p = p} {names = names} {fixed = fixed} {now = now} reading mark turn gains = record {
  deed = deed_of (record { pass = number p; reading = reading; kind = kind.FlushBegin mark } ∷ []) []
      (tick.Taken now ∷ []);
  done = quiet_turn {names = names} {fixed = fixed} [] None turn refl refl refl gains;
  met_so = refl;
  no_bytes = refl;
  none_fail = ((λ fails. fails), tt);
  asks = record { asked = tt };
}
