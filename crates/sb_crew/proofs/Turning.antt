-- What a call did so far, after one turn more.
use Rattle.std.proofs.Common.{ℕ, ◌≡◌, Bool, true, false, nat_eq, if◌then◌else◌, List, [], ◌∷◌, ◌++◌, Option, Some, None}
use Rattle.std.proofs.Common.{Result, Ok, Err, IsSome, is_some, length, is_ok, is_none, refl, sym, ◌∙◌, ap, subst, ◌+◌}
use Rattle.std.proofs.Common.{◌-◌, ◌^◌, ◌<◌, ◌≤◌, ◌⊎◌, inl, inr, arith, append_assoc}
use mathlib.Core.Logic.{dite}
use Rattle.std.proofs.Math.Decide.{dec_le}
use Rattle.std.proofs.Math.Nat.{min-eq_left, min-eq_right, lt_of_not-le}
use Rattle.std.specs.List.{AllByRecursion}
use Rattle.std.proofs.lemmas.Bool.{eq-eqb}
use Rattle.sb_base.specs.declared.part.Part.{Part}
use Rattle.sb_base.specs.declared.geometry.Geometry.{Geometry}
use Rattle.sb_base.specs.declared.settings.Settings.{Settings}
use Rattle.sb_base.specs.declared.line.Why.{Why}
use Rattle.sb_base.specs.declared.entry.Entry.{Entry}
use Rattle.sb_base.specs.declared.entry.EntryKind.{EntryKind}
use Rattle.sb_base.specs.declared.entry.EntryKind.TheVariants as kind
use Rattle.sb_world.specs.Told.{Gains, Rose, CountsFaults}
use Rattle.sb_world.specs.Calls.{get_reply, fault_of, HasFailed}
use Rattle.sb_world.specs.declared.clock.Tick.{Tick}
use Rattle.sb_world.specs.declared.clock.Tick.TheVariants as tick
use Rattle.sb_world.specs.declared.link.Call.{Call}
use Rattle.sb_world.specs.declared.link.Call.TheVariants as call
use Rattle.sb_world.specs.declared.link.Got.{Got}
use Rattle.sb_world.specs.declared.link.Got.TheVariants as got
use Rattle.sb_world.specs.declared.link.LinkFault.{LinkFault}
use Rattle.sb_world.specs.declared.link.LinkFault.TheVariants as link
use Rattle.sb_history.specs.Contents.{is_zeros}
use Rattle.sb_history.specs.ClockTrace.{PausesAfter}
use Rattle.sb_history.specs.Flushes.{flush_place, flush_place_after}
use Rattle.sb_history.specs.Puts.{Put, puts_of}
use Rattle.sb_history.specs.Requests.{Replies, RequestLog, IsPutCall, meta_of, put_call}
use Rattle.sb_core.specs.declared.machine.Core.{Core}
use Rattle.sb_core.specs.declared.job.GetJob.{GetJob}
use Rattle.sb_core.specs.Cores.{geometry_of, settings_of}
use Rattle.sb_core.specs.Requests.{SameBase}
use Rattle.sb_core.specs.PutWindow.{newest_content}
use Rattle.sb_crew.specs.Scenes.{deed_of, disk_at, scene_at, nothing, Deed}
use Rattle.sb_crew.specs.Bases.{Base, base_of}
use Rattle.sb_crew.specs.declared.calls.CallFault.{CallFault}
use Rattle.sb_crew.specs.declared.calls.FlushFault.{FlushFault}
use Rattle.sb_crew.specs.Counts.{is_failure, Counts, Asked}
use Rattle.sb_crew.specs.Names.{Naming, name_of}
use Rattle.sb_crew.specs.Answers.{shown_for, call_fault, as_call}
use Rattle.sb_crew.specs.Outcomes as outcome
use Rattle.sb_crew.specs.Outcomes.{Outcome, outcomes_of, outcome_of, bytes_read, bytes_of, asked_of, blocks_asked}
use Rattle.sb_crew.specs.Outcomes.{IsBlockOf, AsksOnly, IsFailure, NoneFail, HasCause, Meets, Stops, Does, FlushBegun}
use Rattle.sb_crew.specs.Runs.{any_past, IsPutOf, HasBegun, next_ticks, Event, EventWhere, TurnWhere, Did, DidWhere}
use Rattle.sb_crew.specs.Turns.{SoFar, next_of, Waits, get_begun, get_ended, FetchDoes, put_sent, put_ended}
use Rattle.sb_crew.specs.Turns.{StoreDoes}
use Rattle.sb_crew.specs.Joins.{gains_nothing, turn_joins, did_begin, asked_join}
use Rattle.sb_laws.proofs.Joins.{requests_join}
use Rattle.sb_crew.proofs.OutcomeLemmas.{cause_stays}
use Rattle.sb_crew.proofs.Pausing.{pause_is}
use Rattle.sb_crew.proofs.Requesting.{put_fault}

-- a kind of histories that goes on with each entry
abbrev pub Lasts : (List Entry → Type 0) → Type 0
Lasts Is = (entries past : List Entry) → Is past → Is (entries ++ past)

pub any_lasts : Lasts any_past
any_lasts entries past is = tt

-- a put that begins is the block's newest one
pub put_newest : (pass reading block : ℕ) (content : List ℕ) (past : List Entry)
    → IsPutOf block content (record { pass = pass; reading = reading; kind = kind.PutBegin block content } ∷ past)
put_newest pass reading block content past =
    let new : Put =
    record { content = content; pass = pass; place = length past; reading = reading; ending = None } in
    ap (λ (t : Bool). newest_content (if t then new ∷ puts_of past block else puts_of past block))
    (eq-eqb block block refl)

still_some : (t : Bool) (place : ℕ) (before : Option ℕ) → IsSome before → IsSome (if t then Some place else before)
still_some true place before some = refl
still_some false place before some = some

-- an event leaves the base
pub same_base_of : {old new : Core} → SameBase old new → base_of new ≡ base_of old
same_base_of {old} {new} same =
    ap (λ (geometry : Geometry). record { geometry = geometry; settings = settings_of new; alone = true }) same.geometry
    ∙ ap (λ (settings : Settings). record { geometry = geometry_of old; settings = settings; alone = true }) same.settings

-- a flush that has begun
begun_after : (mark place : ℕ) (of : EntryKind) (before : Option ℕ) → IsSome before
    → IsSome (flush_place_after mark place of before)
begun_after mark place (kind.FlushBegin of) before some = still_some (nat_eq of mark) place before some
begun_after mark place of before some = some

pub begun_lasts : (mark : ℕ) → Lasts (HasBegun mark)
begun_lasts mark [] past is = is
begun_lasts mark (entry ∷ entries) past is =
    begun_after mark (length (entries ++ past)) entry.kind (flush_place (entries ++ past) mark)
    (begun_lasts mark entries past is)

-- the entry of an event of a disk on one thread
abbrev pub event : ℕ → EntryKind → Entry
event reading of = record { pass = 1; reading = reading; kind = of }

-- the link's log says what the entry says
pub replies_fit : (result : Result Got LinkFault) (bytes : List ℕ)
    → Replies (shown_for result bytes) (get_reply result bytes)
replies_fit (Ok got.Absent) bytes = refl
replies_fit (Ok got.Bytes) bytes = refl
replies_fit (Ok got.Same) bytes = refl
replies_fit (Err fault) bytes = (fault, refl)

-- the end of a put says whether a fault came
pub ended_so : (sent : Result Unit LinkFault) → is_none (fault_of sent) ≡ is_ok sent
ended_so (Ok done) = refl
ended_so (Err fault) = refl

-- the calls of a put that ended, with its begin
put_asked : (names : Naming) (block : ℕ) (content : List ℕ) (sent : Result Unit LinkFault) (reading later : ℕ)
    → RequestLog (name_of names) (Some names.meta)
    (event later (kind.PutEnd block (is_ok sent)) ∷ event reading (kind.PutBegin block content) ∷ [])
    (put_call (name_of names block) (meta_of (Some names.meta) block) content (fault_of sent) ∷ [])
put_asked names block content sent reading later =
    let known : (if nat_eq block block then Some content else None) ≡ Some content =
    ap (λ (t : Bool). if t then Some content else None) (eq-eqb block block refl) in
    let calls = put_call (name_of names block) (meta_of (Some names.meta) block) content (fault_of sent) ∷ [] in
    let P : Option (List ℕ) → Type 0 = λ put.
    IsPutCall (name_of names block) (meta_of (Some names.meta) block) put (is_ok sent) calls
    (λ earlier. earlier ≡ []) in
    subst P (sym known) (fault_of sent, [], refl, ended_so sent, refl)

-- a count that rose, or stands at its end
rose_by_one : (before now : ℕ) → Rose before now → (before + 1 ≤ now) ⊎ (2 ^ 64 - 1 ≤ now)
rose_by_one before now rose =
    dite (dec_le (before + 1) (2 ^ 64 - 1))
    (λ low. inl (subst (λ (n : ℕ). n ≤ now) (min-eq_left low) rose))
    (λ high. let above = lt_of_not-le high in
    inr (subst (λ (n : ℕ). n ≤ now) (min-eq_right {n = 2 ^ 64 - 1} {m = before + 1} (omega (arith, above))) rose))

risen_by : {T : Type 0} (before now : ℕ) (result : Result T LinkFault) → CountsFaults before now (HasFailed result)
    → (before + ((if is_failure (fault_of result) then 1 else 0) + 0) ≤ now) ⊎ (2 ^ 64 - 1 ≤ now)
risen_by before now (Ok value) counts = inl (omega (arith, counts.later))
risen_by before now (Err link.Memory) counts = inl (omega (arith, counts.later))
risen_by before now (Err (link.Failed status)) counts = rose_by_one before now (counts.rises (status, refl))

-- a request counts as a failure where it failed for another cause than memory
pub counts_so : {T : Type 0} (before now : ℕ) (result : Result T LinkFault) (asked : Call)
    → outcome.fault_of asked ≡ fault_of result → CountsFaults before now (HasFailed result)
    → Counts before now (asked ∷ [])
counts_so before now result asked is counts =
    let P : Option LinkFault → Type 0 = λ fault.
    (before + ((if is_failure fault then 1 else 0) + 0) ≤ now) ⊎ (2 ^ 64 - 1 ≤ now) in
    record { later = counts.later; risen = subst P (sym is) (risen_by before now result counts) }

-- the fault of a GET, and of a put
pub get_fault : (name : List ℕ) (verify : Option (List ℕ)) (result : Result Got LinkFault) (bytes : List ℕ)
    → outcome.fault_of (call.Get name verify (get_reply result bytes)) ≡ fault_of result
get_fault name verify (Ok got.Absent) bytes = refl
get_fault name verify (Ok got.Bytes) bytes = refl
get_fault name verify (Ok got.Same) bytes = refl
get_fault name verify (Err fault) bytes = refl

-- a turn of an event that no pause follows
plain_turn : {Then : List Entry → Type 0} {names names' : Naming} {core core' : Core} {tape tape' : Option (List Entry)}
    {clock clock' : Option (List Tick)} {now : ℕ} {entry other : Entry} (next : Option ℕ) → entry ≡ other
    → EventWhere Then (disk_at names core tape) (disk_at names' core' tape') now entry
    → ((past : List Entry) → PausesAfter (geometry_of core) (settings_of core) past now other.kind None)
    → Gains clock clock' (next_ticks next ++ [])
    → TurnWhere Then (disk_at names core tape) (disk_at names' core' tape') clock clock' now other next []
plain_turn {Then} {names} {names'} {core} {core'} {tape} {tape'} {now = now} next same event plain gains = record {
  event = subst (λ (e : Entry). EventWhere Then (disk_at names core tape) (disk_at names' core' tape') now e) same event;
  pause = None;
  pauses = λ past is stands. plain past;
  paused = refl;
  readings = gains;
}

-- the turn of a wait, with its pause
wait_turn : {Then : List Entry → Type 0} {names1 names2 : Naming} {b c : Core} {tape1 tape2 : Option (List Entry)}
    {clock1 clock2 : Option (List Tick)} {latest latest' now : ℕ} {entry : Entry} {result : Result ℕ FlushFault}
    (reading : ℕ) (why : Why) → entry ≡ event reading (kind.Waited why)
    → EventWhere Then (disk_at names1 b tape1) (disk_at names2 c tape2) now entry
    → (waits : Waits clock1 clock2 latest latest' now why result)
    → TurnWhere Then (disk_at names1 b tape1) (disk_at names2 c tape2) clock1 clock2 now (event reading (kind.Waited why))
    (next_of (as_call result)) (pause_is waits.paused).after
wait_turn {Then} {names1} {names2} {b} {c} {tape1} {tape2} {now = now} reading why is did waits = record {
  event = subst (λ (e : Entry). EventWhere Then (disk_at names1 b tape1) (disk_at names2 c tape2) now e) is did;
  pause = Some waits.millis;
  pauses = λ past fits stands. sym waits.pause_is;
  paused = (pause_is waits.paused).paused;
  readings = (pause_is waits.paused).readings;
}

-- before its first turn a call has done nothing
pub starts : {names : Naming} {a : Core} {tape : Option (List Entry)} {log : Option (List Call)} {faults : ℕ}
    {clock clock1 : Option (List Tick)} {parts : List Part} {now : ℕ} → Gains clock clock1 (tick.Taken now ∷ [])
    → SoFar any_past [] (scene_at names a tape log faults clock) (scene_at names a tape log faults clock1) parts now
starts {now = now} gains = record {
  deed = nothing;
  done = did_begin (Some now) gains;
  met_so = refl;
  no_bytes = refl;
  reached = tt;
  none_fail = tt;
  asks = record { asked = tt };
  leads = λ past. tt;
}

-- what a call did so far, and then what these turns and calls of the link say
module _ {Then : List Entry → Type 0} {met : List Outcome} {names names1 : Naming} {a b : Core}
    {tape tape1 : Option (List Entry)} {log log1 : Option (List Call)} {faults faults1 : ℕ}
    {clock clock1 : Option (List Tick)} {parts : List Part} {now : ℕ} where
  one_turn : {names2 : Naming} {c : Core} {tape2 : Option (List Entry)} {clock2 : Option (List Tick)}
      {next : Option ℕ} {after : List Tick} {entry : Entry}
      (before : SoFar Then met (scene_at names a tape log faults clock) (scene_at names1 b tape1 log1 faults1 clock1) parts now)
      → TurnWhere Then (disk_at names1 b tape1) (disk_at names2 c tape2) clock1 clock2 now entry next after
      → RequestLog (name_of names) (Some names.meta) (entry ∷ []) []
      → DidWhere any_past (scene_at names a tape log faults clock) (scene_at names2 c tape2 log1 faults1 clock2) (deed_of (entry ∷ before.deed.entries) before.deed.calls (after ++ tick.Taken now ∷ before.deed.ticks)) next
  one_turn {entry = entry} before turn quiet = record {
    runs = turn_joins (λ past fits. before.leads past) before.done.runs turn;
    asked = before.done.asked;
    requests = requests_join (name_of names) (Some names.meta) before.deed.entries (entry ∷ []) before.deed.calls []
        before.done.requests quiet;
  }

  two_turns : {names2 names3 : Naming} {c d : Core} {tape2 tape3 : Option (List Entry)}
      {log3 : Option (List Call)} {faults3 : ℕ} {between clock3 : Option (List Tick)} {next : Option ℕ}
      {after : List Tick} {first second : Entry} {later : ℕ} {asked : Call} {Later : List Entry → Type 0}
      (before : SoFar Then met (scene_at names a tape log faults clock) (scene_at names1 b tape1 log1 faults1 clock1) parts now)
      → TurnWhere Then (disk_at names1 b tape1) (disk_at names2 c tape2) clock1 between now first (Some later) []
      → ((past : List Entry) → Later (first ∷ past))
      → TurnWhere Later (disk_at names2 c tape2) (disk_at names3 d tape3) between clock3 later second next after
      → Asked log1 log3 faults1 faults3 (asked ∷ [])
      → RequestLog (name_of names2) (Some names2.meta) (second ∷ first ∷ []) (asked ∷ [])
      → DidWhere any_past (scene_at names a tape log faults clock) (scene_at names3 d tape3 log3 faults3 clock3) (deed_of (second ∷ first ∷ before.deed.entries) (asked ∷ before.deed.calls) (after ++ tick.Taken later ∷ tick.Taken now ∷ before.deed.ticks)) next
  two_turns {log3 = log3} {faults3 = faults3} {first = first} {second = second} {asked = asked} before begun leads ended
      called requests =
      let same = begun.event.same_names ∙ before.done.runs.same_names in
      let P : Naming → Type 0 = λ n. RequestLog (name_of n) (Some n.meta) (second ∷ first ∷ []) (asked ∷ []) in
      record {
        runs = turn_joins (λ past fits. leads (before.deed.entries ++ past))
            (turn_joins (λ past fits. before.leads past) before.done.runs begun) ended;
        asked = asked_join log log1 log3 faults faults1 faults3 before.deed.calls (asked ∷ []) before.done.asked called;
        requests = requests_join (name_of names) (Some names.meta) before.deed.entries (second ∷ first ∷ []) before.deed.calls
            (asked ∷ []) before.done.requests (subst P same requests);
      }

  -- another block left the cache
  pub after_drop : {names2 : Naming} {c : Core} {tape2 : Option (List Entry)} {clock2 : Option (List Tick)}
      {entry : Entry} {next : ℕ} → Lasts Then
      → SoFar Then met (scene_at names a tape log faults clock) (scene_at names1 b tape1 log1 faults1 clock1) parts now
      → (reading dropped : ℕ) → entry ≡ event reading (kind.Dropped dropped)
      → EventWhere Then (disk_at names1 b tape1) (disk_at names2 c tape2) now entry → Gains clock1 clock2 (tick.Taken next ∷ [])
      → SoFar Then met (scene_at names a tape log faults clock) (scene_at names2 c tape2 log1 faults1 clock2) parts next
  after_drop {next = next} lasts before reading dropped is did gains = record {
    deed = record { entries = event reading (kind.Dropped dropped) ∷ before.deed.entries; calls = before.deed.calls; ticks = tick.Taken now ∷ before.deed.ticks };
    done = one_turn before (plain_turn (Some next) is did (λ past. refl) gains) refl;
    met_so = before.met_so;
    no_bytes = ap (λ bs. bs ++ []) before.no_bytes;
    reached = before.reached;
    none_fail = ((λ fails. fails), before.none_fail);
    asks = record { asked = before.asks.asked };
    leads = λ past.
        lasts (event reading (kind.Dropped dropped) ∷ []) (before.deed.entries ++ past) (before.leads past);
  }

  -- the event that answers the call
  pub ends_with : {names2 : Naming} {c : Core} {tape2 : Option (List Entry)} {entry : Entry}
      → SoFar Then met (scene_at names a tape log faults clock) (scene_at names1 b tape1 log1 faults1 clock1) parts now
      → (reading : ℕ) (of : EntryKind) → entry ≡ event reading of
      → RequestLog (name_of names) (Some names.meta) (event reading of ∷ []) [] → asked_of of ≡ []
      → (IsFailure of → ⊥) → ((past : List Entry) → PausesAfter (geometry_of b) (settings_of b) past now of None)
      → EventWhere Then (disk_at names1 b tape1) (disk_at names2 c tape2) now entry
      → Does (Did (scene_at names a tape log faults clock) (scene_at names2 c tape2 log1 faults1 clock1)) parts
      (λ (deed : Deed). Meets (base_of a) (outcome_of of ++ met) deed × (bytes_read deed.entries ≡ bytes_of of))
  ends_with before reading of is quiet asks succeeds plain did = record {
    deed = record { entries = event reading of ∷ before.deed.entries; calls = before.deed.calls; ticks = tick.Taken now ∷ before.deed.ticks };
    done = one_turn before (plain_turn None is did plain (gains_nothing clock1)) quiet;
    ends = (
      record {
        met = ap (λ os. outcome_of of ++ os) before.met_so;
        reached = before.reached;
        none_fail = (succeeds, before.none_fail);
      },
      ap (λ bs. bs ++ bytes_of of) before.no_bytes,
    );
    asks = record {
      asked = subst (λ (bs : List ℕ). AllByRecursion (IsBlockOf parts) (bs ++ blocks_asked before.deed.entries)) (sym asks)
          before.asks.asked;
    };
  }

  -- the call waited
  pub after_wait : {names2 : Naming} {c : Core} {tape2 : Option (List Entry)} {clock2 : Option (List Tick)}
      {latest latest' next : ℕ} {entry : Entry} → Lasts Then
      → SoFar Then met (scene_at names a tape log faults clock) (scene_at names1 b tape1 log1 faults1 clock1) parts now
      → (reading : ℕ) (why : Why) → entry ≡ event reading (kind.Waited why)
      → EventWhere Then (disk_at names1 b tape1) (disk_at names2 c tape2) now entry
      → Waits clock1 clock2 latest latest' now why (Ok next)
      → SoFar Then met (scene_at names a tape log faults clock) (scene_at names2 c tape2 log1 faults1 clock2) parts next
  after_wait lasts before reading why is did waits = record {
    deed = record { entries = event reading (kind.Waited why) ∷ before.deed.entries; calls = before.deed.calls; ticks = (pause_is waits.paused).after ++ tick.Taken now ∷ before.deed.ticks };
    done = one_turn before (wait_turn reading why is did waits) refl;
    met_so = before.met_so;
    no_bytes = ap (λ bs. bs ++ []) before.no_bytes;
    reached = (pause_is waits.paused).reaches before.deed.ticks before.reached;
    none_fail = ((λ fails. fails), before.none_fail);
    asks = record { asked = before.asks.asked };
    leads = λ past. lasts (event reading (kind.Waited why) ∷ []) (before.deed.entries ++ past) (before.leads past);
  }

  -- the clock stands still behind a wait
  pub wait_fails : {names2 : Naming} {c : Core} {tape2 : Option (List Entry)} {clock2 : Option (List Tick)}
      {latest latest' : ℕ} {entry : Entry}
      → SoFar Then met (scene_at names a tape log faults clock) (scene_at names1 b tape1 log1 faults1 clock1) parts now
      → (want : List Outcome) (reading : ℕ) (why : Why) (fault : FlushFault) → 0 < length want
      → entry ≡ event reading (kind.Waited why)
      → EventWhere Then (disk_at names1 b tape1) (disk_at names2 c tape2) now entry
      → Waits clock1 clock2 latest latest' now why (Err fault)
      → Does (Did (scene_at names a tape log faults clock) (scene_at names2 c tape2 log1 faults1 clock2)) parts
      (λ (deed : Deed). Stops (base_of a) (want ++ met) deed (call_fault fault))
  wait_fails before want reading why fault some is did waits = record {
    deed = record { entries = event reading (kind.Waited why) ∷ before.deed.entries; calls = before.deed.calls; ticks = (pause_is waits.paused).after ++ tick.Taken now ∷ before.deed.ticks };
    done = one_turn before (wait_turn reading why is did waits) refl;
    ends = record {
      missing = want;
      some = some;
      met = ap (λ (os : List Outcome). want ++ os) before.met_so;
      reached = (pause_is waits.paused).reaches before.deed.ticks before.reached;
      cause = (pause_is waits.paused).cause (base_of a) refl (event reading (kind.Waited why)) before.deed.entries
          before.deed.calls before.deed.ticks waits.pause_is ((λ fails. fails), before.none_fail);
    };
    asks = record { asked = before.asks.asked };
  }

  -- the cause of the request that failed a call is that of the call, for the base that it began with
  fails_so : {c : Core}
      (before : SoFar Then met (scene_at names a tape log faults clock) (scene_at names1 b tape1 log1 faults1 clock1) parts now)
      → SameBase b c → (fault : CallFault) (rest entries : List Entry) (asked : Call) (later : ℕ) (after : List Tick)
      → NoneFail rest → HasCause (base_of c) fault (deed_of entries (asked ∷ []) (after ++ tick.Taken later ∷ []))
      → HasCause (base_of a) fault (deed_of (entries ++ rest) (asked ∷ before.deed.calls)
      (after ++ tick.Taken later ∷ tick.Taken now ∷ before.deed.ticks))
  fails_so {c} before base fault rest entries asked later after none cause =
      let all = after ++ tick.Taken later ∷ tick.Taken now ∷ before.deed.ticks in
      subst (λ (base : Base). HasCause base fault (deed_of (entries ++ rest) (asked ∷ before.deed.calls) all))
      (same_base_of base ∙ same_base_of before.done.runs.base)
      (subst (λ (ticks : List Tick). HasCause (base_of c) fault (deed_of (entries ++ rest)
      (asked ∷ before.deed.calls) ticks))
      (append_assoc after (tick.Taken later ∷ []) (tick.Taken now ∷ before.deed.ticks))
      (cause_stays (base_of c) fault (deed_of rest before.deed.calls (tick.Taken now ∷ before.deed.ticks))
      (deed_of entries (asked ∷ []) (after ++ tick.Taken later ∷ [])) none cause))

  -- the entries, the call and the ticks of a GET
  get_does : {names2 names3 : Naming} {c d : Core} {tape2 tape3 : Option (List Entry)}
      {log3 : Option (List Call)} {faults3 : ℕ} {clock3 : Option (List Tick)} {entry : Entry}
      {ended : Result ℕ CallFault} (job : GetJob)
      (before : SoFar Then met (scene_at names a tape log faults clock) (scene_at names1 b tape1 log1 faults1 clock1) parts now)
      → entry ≡ get_begun job → EventWhere Then (disk_at names1 b tape1) (disk_at names2 c tape2) now entry
      → (fetched : FetchDoes (scene_at names2 c tape2 log1 faults1 clock1) (scene_at names3 d tape3 log3 faults3 clock3) job ended)
      → DidWhere any_past (scene_at names a tape log faults clock) (scene_at names3 d tape3 log3 faults3 clock3) (deed_of (get_ended job fetched.reading fetched.got fetched.bytes fetched.taken ∷ get_begun job ∷ before.deed.entries) (call.Get (name_of names2 job.block) job.verify (get_reply fetched.got fetched.bytes) ∷ before.deed.calls) (fetched.after ++ tick.Taken fetched.later ∷ tick.Taken now ∷ before.deed.ticks)) (next_of ended)
  get_does {names2} {faults3 = faults3} job before is did fetched =
      let asked = call.Get (name_of names2 job.block) job.verify (get_reply fetched.got fetched.bytes) in
      two_turns before (plain_turn (Some fetched.later) is did (λ past. refl) fetched.took)
      (λ past. tt) fetched.turn
      (record {
        gained = fetched.called;
        counted = counts_so faults1 faults3 fetched.got asked
            (get_fault (name_of names2 job.block) job.verify fetched.got fetched.bytes) fetched.counted;
      })
      (get_reply fetched.got fetched.bytes, [], refl, replies_fit fetched.got fetched.bytes, refl)

  -- a GET was made
  pub after_get : {names2 names3 : Naming} {c d : Core} {tape2 tape3 : Option (List Entry)}
      {log3 : Option (List Call)} {faults3 : ℕ} {clock3 : Option (List Tick)} {entry : Entry} {next : ℕ}
      → Lasts Then → SoFar Then met (scene_at names a tape log faults clock) (scene_at names1 b tape1 log1 faults1 clock1) parts now
      → (job : GetJob) → entry ≡ get_begun job → IsBlockOf parts job.block
      → EventWhere Then (disk_at names1 b tape1) (disk_at names2 c tape2) now entry
      → FetchDoes (scene_at names2 c tape2 log1 faults1 clock1) (scene_at names3 d tape3 log3 faults3 clock3) job (Ok next)
      → SoFar Then met (scene_at names a tape log faults clock) (scene_at names3 d tape3 log3 faults3 clock3) parts next
  after_get {names2} lasts before job is same did fetched =
      let more = get_ended job fetched.reading fetched.got fetched.bytes fetched.taken ∷ get_begun job ∷ [] in
      record {
        deed = record { entries = more ++ before.deed.entries; calls = call.Get (name_of names2 job.block) job.verify (get_reply fetched.got fetched.bytes) ∷ before.deed.calls; ticks = fetched.after ++ tick.Taken fetched.later ∷ tick.Taken now ∷ before.deed.ticks };
        done = get_does job before is did fetched;
        met_so = before.met_so;
        no_bytes = ap (λ bs. (bs ++ []) ++ []) before.no_bytes;
        reached = fetched.reaches (tick.Taken now ∷ before.deed.ticks) before.reached;
        none_fail = (fetched.cause.0, (fetched.cause.1.0, before.none_fail));
        asks = record { asked = (same, before.asks.asked) };
        leads = λ past. lasts more (before.deed.entries ++ past) (before.leads past);
      }

  -- a call failed by a GET
  pub get_fails : {names2 names3 : Naming} {c d : Core} {tape2 tape3 : Option (List Entry)}
      {log3 : Option (List Call)} {faults3 : ℕ} {clock3 : Option (List Tick)} {entry : Entry}
      → SoFar Then met (scene_at names a tape log faults clock) (scene_at names1 b tape1 log1 faults1 clock1) parts now
      → (want : List Outcome) (job : GetJob) (fault : CallFault) → 0 < length want → entry ≡ get_begun job
      → IsBlockOf parts job.block
      → EventWhere Then (disk_at names1 b tape1) (disk_at names2 c tape2) now entry
      → FetchDoes (scene_at names2 c tape2 log1 faults1 clock1) (scene_at names3 d tape3 log3 faults3 clock3) job (Err fault)
      → Does (Did (scene_at names a tape log faults clock) (scene_at names3 d tape3 log3 faults3 clock3)) parts
      (λ (deed : Deed). Stops (base_of a) (want ++ met) deed fault)
  get_fails {names2} before want job fault some is same did fetched =
      let more = get_ended job fetched.reading fetched.got fetched.bytes fetched.taken ∷ get_begun job ∷ [] in
      let asked = call.Get (name_of names2 job.block) job.verify (get_reply fetched.got fetched.bytes) in
      record {
        deed = record { entries = more ++ before.deed.entries; calls = asked ∷ before.deed.calls; ticks = fetched.after ++ tick.Taken fetched.later ∷ tick.Taken now ∷ before.deed.ticks };
        done = get_does job before is did fetched;
        ends = record {
          missing = want;
          some = some;
          met = ap (λ (os : List Outcome). want ++ os) before.met_so;
          reached = fetched.reaches (tick.Taken now ∷ before.deed.ticks) before.reached;
          cause = fails_so before did.base fault before.deed.entries more asked fetched.later fetched.after
              before.none_fail fetched.cause;
        };
        asks = record { asked = (same, before.asks.asked) };
      }

  -- the entries, the call and the ticks of a PUT
  put_does : {names2 names3 : Naming} {c d : Core} {tape2 tape3 : Option (List Entry)}
      {log3 : Option (List Call)} {faults3 : ℕ} {clock3 : Option (List Tick)} {entry : Entry}
      {ended : Result ℕ FlushFault} (reading block : ℕ) (content : List ℕ)
      (before : SoFar Then met (scene_at names a tape log faults clock) (scene_at names1 b tape1 log1 faults1 clock1) parts now)
      → entry ≡ event reading (kind.PutBegin block content)
      → EventWhere Then (disk_at names1 b tape1) (disk_at names2 c tape2) now entry
      → (stored : StoreDoes (scene_at names2 c tape2 log1 faults1 clock1) (scene_at names3 d tape3 log3 faults3 clock3) block content ended)
      → DidWhere any_past (scene_at names a tape log faults clock) (scene_at names3 d tape3 log3 faults3 clock3) (deed_of (put_ended block stored.reading stored.sent ∷ event reading (kind.PutBegin block content) ∷ before.deed.entries) (put_sent names2 block content stored.sent ∷ before.deed.calls) (stored.after ++ tick.Taken stored.later ∷ tick.Taken now ∷ before.deed.ticks)) (next_of (as_call ended))
  put_does {names2} {faults3 = faults3} reading block content before is did stored =
      two_turns before (plain_turn (Some stored.later) is did (λ past. refl) stored.took)
      (put_newest 1 reading block content) stored.turn
      (record {
        gained = stored.called;
        counted = counts_so faults1 faults3 stored.sent (put_sent names2 block content stored.sent)
            (put_fault (is_zeros content) (name_of names2 block) (meta_of (Some names2.meta) block) content
            (fault_of stored.sent)) stored.counted;
      })
      (put_asked names2 block content stored.sent reading stored.reading)

  -- a PUT was made
  pub after_put : {names2 names3 : Naming} {c d : Core} {tape2 tape3 : Option (List Entry)}
      {log3 : Option (List Call)} {faults3 : ℕ} {clock3 : Option (List Tick)} {entry : Entry} {next : ℕ}
      → Lasts Then → SoFar Then met (scene_at names a tape log faults clock) (scene_at names1 b tape1 log1 faults1 clock1) parts now
      → (reading block : ℕ) (content : List ℕ) → entry ≡ event reading (kind.PutBegin block content)
      → EventWhere Then (disk_at names1 b tape1) (disk_at names2 c tape2) now entry
      → StoreDoes (scene_at names2 c tape2 log1 faults1 clock1) (scene_at names3 d tape3 log3 faults3 clock3) block content (Ok next)
      → SoFar Then met (scene_at names a tape log faults clock) (scene_at names3 d tape3 log3 faults3 clock3) parts next
  after_put {names2} lasts before reading block content is did stored =
      let more = put_ended block stored.reading stored.sent ∷ event reading (kind.PutBegin block content) ∷ [] in
      record {
        deed = record { entries = more ++ before.deed.entries; calls = put_sent names2 block content stored.sent ∷ before.deed.calls; ticks = stored.after ++ tick.Taken stored.later ∷ tick.Taken now ∷ before.deed.ticks };
        done = put_does reading block content before is did stored;
        met_so = before.met_so;
        no_bytes = ap (λ bs. (bs ++ []) ++ []) before.no_bytes;
        reached = stored.reaches (tick.Taken now ∷ before.deed.ticks) before.reached;
        none_fail = (stored.cause.0, ((λ fails. fails), before.none_fail));
        asks = record { asked = before.asks.asked };
        leads = λ past. lasts more (before.deed.entries ++ past) (before.leads past);
      }

  -- a call failed by a PUT
  pub put_fails : {names2 names3 : Naming} {c d : Core} {tape2 tape3 : Option (List Entry)}
      {log3 : Option (List Call)} {faults3 : ℕ} {clock3 : Option (List Tick)} {entry : Entry}
      → SoFar Then met (scene_at names a tape log faults clock) (scene_at names1 b tape1 log1 faults1 clock1) parts now
      → (want : List Outcome) (reading block : ℕ) (content : List ℕ) (fault : FlushFault) → 0 < length want
      → entry ≡ event reading (kind.PutBegin block content)
      → EventWhere Then (disk_at names1 b tape1) (disk_at names2 c tape2) now entry
      → StoreDoes (scene_at names2 c tape2 log1 faults1 clock1) (scene_at names3 d tape3 log3 faults3 clock3) block content (Err fault)
      → Does (Did (scene_at names a tape log faults clock) (scene_at names3 d tape3 log3 faults3 clock3)) parts
      (λ (deed : Deed). Stops (base_of a) (want ++ met) deed (call_fault fault))
  put_fails {names2} before want reading block content fault some is did stored =
      let ended = put_ended block stored.reading stored.sent in
      let begun = event reading (kind.PutBegin block content) in
      let asked = put_sent names2 block content stored.sent in
      record {
        deed = record { entries = ended ∷ begun ∷ before.deed.entries; calls = asked ∷ before.deed.calls; ticks = stored.after ++ tick.Taken stored.later ∷ tick.Taken now ∷ before.deed.ticks };
        done = put_does reading block content before is did stored;
        ends = record {
          missing = want;
          some = some;
          met = ap (λ (os : List Outcome). want ++ os) before.met_so;
          reached = stored.reaches (tick.Taken now ∷ before.deed.ticks) before.reached;
          cause = fails_so before did.base (call_fault fault) (begun ∷ before.deed.entries) (ended ∷ []) asked stored.later
              stored.after ((λ fails. fails), before.none_fail) stored.cause;
        };
        asks = record { asked = before.asks.asked };
      }

-- the begin of a flush
pub begins_flush : {names names1 : Naming} {a b : Core} {tape tape1 : Option (List Entry)} {log : Option (List Call)}
    {faults : ℕ} {clock clock1 clock2 : Option (List Tick)} {begun now : ℕ} (reading mark : ℕ)
    → Gains clock clock1 (tick.Taken begun ∷ [])
    → Event (disk_at names a tape) (disk_at names1 b tape1) begun (event reading (kind.FlushBegin mark))
    → Gains clock1 clock2 (tick.Taken now ∷ [])
    → SoFar (HasBegun mark) (FlushBegun mark ∷ []) (scene_at names a tape log faults clock) (scene_at names1 b tape1 log faults clock2) [] now
unfolding starts
begins_flush {begun = begun} {now = now} reading mark first did second = record {
  deed = record { entries = event reading (kind.FlushBegin mark) ∷ []; calls = []; ticks = tick.Taken begun ∷ [] };
  done = one_turn (starts {parts = []} first) (plain_turn (Some now) refl did (λ past. refl) second) refl;
  met_so = refl;
  no_bytes = refl;
  reached = tt;
  none_fail = ((λ fails. fails), tt);
  asks = record { asked = tt };
  leads = λ past.
      ap (λ (t : Bool). is_some (if t then Some (length past) else flush_place past mark)) (eq-eqb mark mark refl);
}
