-- What a request came to: the calls of a GET and of a PUT, their ends, and the causes of a call that failed by them.
use Rattle.std.proofs.Common.{ℕ, ◌≡◌, ◌≢◌, Bool, true, false, if◌then◌else◌, List, [], ◌∷◌, ◌++◌}
use Rattle.std.proofs.Common.{Option, Some, None, Result, Ok, Err, refl, sym, ◌∙◌, ap, subst, arith}
use Rattle.std.specs.Str.{bytes_eq}
use Rattle.std.proofs.lemmas.Slice.Eq.{bytes_eq-Decides}
use Rattle.std.proofs.lemmas.Grind.{common_steps}
use Rattle.sb_base.specs.declared.line.Expect.{Expect}
use Rattle.sb_base.specs.declared.entry.Shown.TheVariants as shown
use Rattle.sb_base.specs.declared.entry.Entry.{Entry}
use Rattle.sb_base.specs.declared.entry.EntryKind.TheVariants as kind
use Rattle.sb_world.specs.Told.{Gains, CountsFaults}
use Rattle.sb_world.specs.Calls.{get_reply, HasFailed, IsAsked}
use Rattle.sb_world.specs.declared.clock.Tick.{Tick}
use Rattle.sb_world.specs.declared.clock.Tick.TheVariants as tick
use Rattle.sb_world.specs.declared.link.Call.{Call}
use Rattle.sb_world.specs.declared.link.Call.TheVariants as call
use Rattle.sb_world.specs.declared.link.Got.{Got}
use Rattle.sb_world.specs.declared.link.Got.TheVariants as got
use Rattle.sb_world.specs.declared.link.LinkFault.{LinkFault}
use Rattle.sb_world.specs.declared.link.LinkFault.TheVariants as link
use Rattle.sb_world.specs.declared.link.Meta.{Meta}
use Rattle.sb_history.specs.Contents.{is_zeros}
use Rattle.sb_history.specs.Gets.{Fetch}
use Rattle.sb_history.specs.Requests.{meta_of}
use Rattle.sb_history.specs.Window.{answer_digest}
use Rattle.sb_history.specs.ClockTrace.{is_late, stale_pause, DiffersInTime, IsAskedAnew, PausesWhere, PauseTicks}
use Rattle.sb_core.specs.declared.machine.Core.{Core}
use Rattle.sb_core.specs.declared.job.GetJob.{GetJob}
use Rattle.sb_core.specs.declared.step.GetDone.{GetDone}
use Rattle.sb_core.specs.declared.step.GetDone.TheVariants as done
use Rattle.sb_blocks.specs.declared.cached.OpenGet.{OpenGet}
use Rattle.sb_core.specs.Represents.{open_get}
use Rattle.sb_core.specs.Cores.{geometry_of, settings_of, Represents, AddsAfterPut}
use Rattle.sb_core.specs.PutWindow.{IsDigestOf}
use Rattle.sb_core.specs.Steps.{HasGet, get_end_entry}
use Rattle.sb_core.specs.Judging.{judged, is_taken}
use Rattle.sb_crew.specs.Scenes.{disk_at, scene_at, deed_of}
use Rattle.sb_crew.specs.declared.calls.CallFault.{CallFault}
use Rattle.sb_crew.specs.declared.calls.FlushFault.{FlushFault}
use Rattle.sb_crew.specs.declared.calls.CallFault.TheVariants.{StaleRead}
use Rattle.sb_crew.specs.Names.{Naming, name_of}
use Rattle.sb_crew.specs.Answers.{shown_for, fault_for, call_fault, as_call}
use Rattle.sb_crew.specs.Outcomes as outcome
use Rattle.sb_crew.specs.Bases.{Base, base_of}
use Rattle.sb_crew.specs.Outcomes.{IsLongExpected, HasCause, PausesReach, ReachesBut}
use Rattle.sb_crew.specs.Joins.{gains_nothing}
use Rattle.sb_crew.specs.Runs.{next_ticks, Event, EventWhere, IsPutOf}
use Rattle.sb_crew.specs.Turns.{next_of, RequestEnds, KeepsReaching, get_begun, get_ended, FetchDoes, Pauses, put_sent}
use Rattle.sb_crew.specs.Turns.{put_ended, StoreDoes}
use Rattle.sb_crew.proofs.Pausing.{pause_is}

abbrev begun_of : Option OpenGet → ℕ
begun_of None = 0
begun_of (Some get) = get.begun

abbrev expect_of : Option OpenGet → Option Expect
expect_of None = None
expect_of (Some get) = get.expect

-- the pause after the answer to a job is that after the GET that is open in the history
pub pauses_so : (limit pass : ℕ) (job : GetJob) (fetch : Option Fetch) (digest : Option (List ℕ)) (pause : Option ℕ)
    → open_get fetch
    ≡ Some (record { pass = pass; begun = job.begun; expect = job.expect; verify = job.verify })
    → PausesWhere (DiffersInTime limit job.begun job.expect digest) stale_pause pause
    → PausesWhere (IsAskedAnew limit fetch digest) stale_pause pause
pauses_so limit pass job None digest pause is pauses = absurd (cc)
pauses_so limit pass job (Some fetch) digest pause is pauses =
    let P : ℕ → Type 0 = λ n. PausesWhere (DiffersInTime limit n fetch.expect digest) stale_pause pause in
    let Q : Option Expect → Type 0 = λ e. PausesWhere (DiffersInTime limit job.begun e digest) stale_pause pause in
    subst P (sym (ap begun_of is)) (subst Q (sym (ap expect_of is)) pauses)

-- an answer that was taken doesn't differ
pub taken_agrees : (limit begun : ℕ) (expect : Option Expect) (digest : Option (List ℕ))
    → judged expect digest ≡ done.Taken → DiffersInTime limit begun expect digest → ⊥
taken_agrees limit begun expect None taken differs = absurd (cc)
taken_agrees limit begun None (Some digest) taken differs = differs
taken_agrees limit begun (Some expect) (Some digest) taken differs = by (bytes_eq digest expect.digest) refl taken where
  by : (t : Bool) → bytes_eq digest expect.digest ≡ t
      → (if t then done.Taken else done.Stale expect.digest digest) ≡ done.Taken → ⊥
  by true is taken =
      let decides = bytes_eq-Decides digest expect.digest in
      let same : digest ≡ expect.digest = grind (arith, common_steps, decides, is) in
      differs.0 same
  by false is taken = absurd (cc)

-- a GET has to show this digest
abbrev IsExpected : List ℕ → Option Expect → Type 0
IsExpected digest None = ⊥
IsExpected digest (Some expect) = expect.digest ≡ digest

-- an answer that is stale has the other digest
pub record ShowsOther (expect : Option Expect) (digest : Option (List ℕ)) (expected shown : List ℕ) : Type 0 where
  pub digest_is : digest ≡ Some shown
  pub expected_is : IsExpected expected expect
  pub other : shown ≢ expected

abbrev expected_in : GetDone → List ℕ
expected_in (done.Stale expected shown) = expected
expected_in other = []

abbrev shown_in : GetDone → List ℕ
shown_in (done.Stale expected shown) = shown
shown_in other = []

pub shows_other : (expect : Option Expect) (digest : Option (List ℕ)) (expected shown : List ℕ)
    → judged expect digest ≡ done.Stale expected shown → ShowsOther expect digest expected shown
shows_other expect None expected shown stale = absurd (cc)
shows_other None (Some digest) expected shown stale = absurd (cc)
shows_other (Some expect) (Some digest) expected shown stale = by (bytes_eq digest expect.digest) refl stale where
  by : (t : Bool) → bytes_eq digest expect.digest ≡ t
      → (if t then done.Taken else done.Stale expect.digest digest) ≡ done.Stale expected shown
      → ShowsOther (Some expect) (Some digest) expected shown
  by true is stale = absurd (cc)
  by false is stale =
      let decides = bytes_eq-Decides digest expect.digest in
      let other : digest ≢ expect.digest = λ same. grind (arith, common_steps, decides, is, same) in
      record {
        digest_is = ap (λ (d : GetDone). Some (shown_in d)) stale;
        expected_is = ap expected_in stale;
        other = subst (λ (e : List ℕ). shown ≢ e) (ap expected_in stale)
            (subst (λ (d : List ℕ). d ≢ expect.digest) (ap shown_in stale) other);
      }

-- a late answer isn't asked for anew, and another one is
pub late_is_over : (limit begun : ℕ) (expect : Option Expect) (digest : Option (List ℕ))
    → is_late limit begun expect ≡ true → DiffersInTime limit begun expect digest → ⊥
late_is_over limit begun None digest late differs = differs
late_is_over limit begun (Some expect) None late differs = differs
late_is_over limit begun (Some expect) (Some digest) late differs = absurd (cc)

pub differs_in_time : (limit begun : ℕ) (expect : Option Expect) (digest : Option (List ℕ)) (expected shown : List ℕ)
    → is_late limit begun expect ≡ false → ShowsOther expect digest expected shown
    → DiffersInTime limit begun expect digest
differs_in_time limit begun None digest expected shown late stale = absurd (stale.expected_is)
differs_in_time limit begun (Some expect) None expected shown late stale = absurd (cc)
differs_in_time limit begun (Some expect) (Some digest) expected shown late stale =
    let same : digest ≡ shown = cc in (
      subst (λ (e : List ℕ). digest ≢ e) (sym stale.expected_is)
          (subst (λ (d : List ℕ). d ≢ expected) (sym same) stale.other),
      late,
    )

-- a late GET has to show a digest whose put ended long before
pub long_expected : (limit begun : ℕ) (expect : Option Expect) (expected : List ℕ) → IsExpected expected expect
    → is_late limit begun expect ≡ true → IsLongExpected limit begun expected expect
long_expected limit begun None expected is late = is
long_expected limit begun (Some expect) expected is late = (is, late)

-- a failure isn't judged as taken
failed_is_not_taken : (expect : Option Expect) → judged expect None ≡ done.Taken → ⊥
failed_is_not_taken None taken = absurd (cc)
failed_is_not_taken (Some expect) taken = absurd (cc)

-- an answer with a digest isn't judged as a failure
judged_some : (expect : Option Expect) (digest : List ℕ) → judged expect (Some digest) ≡ done.Failed → ⊥
judged_some None digest failed = absurd (cc)
judged_some (Some expect) digest failed = by (bytes_eq digest expect.digest) failed where
  by : (t : Bool) → (if t then done.Taken else done.Stale expect.digest digest) ≡ done.Failed → ⊥
  by true failed = absurd (cc)
  by false failed = absurd (cc)

-- an answer of a link isn't judged as a failure
pub answer_is_judged : (block_size : ℕ) (expect : Option Expect) (verify : Option (List ℕ)) (reply : Got)
    (bytes : List ℕ) → IsAsked (Ok reply) verify
    → judged expect (answer_digest block_size verify (shown_for (Ok reply) bytes)) ≡ done.Failed → ⊥
answer_is_judged block_size expect verify got.Absent bytes asked failed = judged_some expect _ failed
answer_is_judged block_size expect verify got.Bytes bytes asked failed = judged_some expect _ failed
answer_is_judged block_size expect None got.Same bytes asked failed = asked
answer_is_judged block_size expect (Some digest) got.Same bytes asked failed = judged_some expect digest failed

-- a failure has no digest
pub failure_agrees : (limit begun block_size : ℕ) (expect : Option Expect) (verify : Option (List ℕ))
    → DiffersInTime limit begun expect (answer_digest block_size verify shown.Failed) → ⊥
failure_agrees limit begun block_size None verify differs = differs
failure_agrees limit begun block_size (Some expect) verify differs = differs

-- a fault of the link is the cause of a call that failed by it
pub fails_by : (base : Base) (fault : LinkFault) (ended : CallFault) (entry : Entry) (entries : List Entry)
    (asked : Call) (calls : List Call) (ticks : List Tick) → ended ≡ call_fault (fault_for fault) → outcome.IsFailure entry.kind
    → outcome.fault_of asked ≡ Some fault → outcome.NoneFail entries
    → HasCause base ended (deed_of (entry ∷ entries) (asked ∷ calls) ticks)
fails_by base (link.Failed status) ended entry entries asked calls ticks is failure cause none =
    subst (λ (f : CallFault). HasCause base f (deed_of (entry ∷ entries) (asked ∷ calls) ticks)) (sym is)
    (failure, cause, none)
fails_by base link.Memory ended entry entries asked calls ticks is failure cause none =
    subst (λ (f : CallFault). HasCause base f (deed_of (entry ∷ entries) (asked ∷ calls) ticks)) (sym is)
    (failure, cause, none)

-- an answer that has a digest is no failure, and neither is one that was taken
pub digest_none_fails : (block_size block : ℕ) (verify : Option (List ℕ)) (answered : Result Got LinkFault)
    (bytes shown : List ℕ) (taken : Bool) → answer_digest block_size verify (shown_for answered bytes) ≡ Some shown
    → outcome.IsFailure (kind.GetEnd block (shown_for answered bytes) verify taken) → ⊥
digest_none_fails block_size block verify (Ok got.Absent) bytes shown taken is fails = fails
digest_none_fails block_size block verify (Ok got.Bytes) bytes shown taken is fails = fails
digest_none_fails block_size block verify (Ok got.Same) bytes shown taken is fails = fails
digest_none_fails block_size block verify (Err fault) bytes shown taken is fails = cc

pub taken_none_fails : (block_size block : ℕ) (expect : Option Expect) (verify : Option (List ℕ))
    (answered : Result Got LinkFault) (bytes : List ℕ) (taken : Bool)
    → judged expect (answer_digest block_size verify (shown_for answered bytes)) ≡ done.Taken
    → outcome.IsFailure (kind.GetEnd block (shown_for answered bytes) verify taken) → ⊥
taken_none_fails block_size block expect verify (Ok got.Absent) bytes taken is fails = fails
taken_none_fails block_size block expect verify (Ok got.Bytes) bytes taken is fails = fails
taken_none_fails block_size block expect verify (Ok got.Same) bytes taken is fails = fails
taken_none_fails block_size block expect verify (Err fault) bytes taken is fails = failed_is_not_taken expect is

-- a request of the link that failed leaves no pause that came short
pub reaches_by : (fault : LinkFault) (ended : CallFault) (ticks : List Tick) → ended ≡ call_fault (fault_for fault)
    → PausesReach ticks → ReachesBut ended ticks
reaches_by (link.Failed status) ended ticks is reached =
    subst (λ (f : CallFault). ReachesBut f ticks) (sym is) reached
reaches_by link.Memory ended ticks is reached = subst (λ (f : CallFault). ReachesBut f ticks) (sym is) reached

-- what a GET did, by the end that the core gave its answer
module _ {names names' : Naming} {core core' : Core} {tape tape' : Option (List Entry)}
    {clock clock' : Option (List Tick)} {log log' : Option (List Call)} {faults faults' : ℕ} where
  fetch_does : {between : Option (List Tick)} (job : GetJob) (answered : Result Got LinkFault) (bytes : List ℕ)
      (later reading : ℕ) (outcome : GetDone)
      (result : Result ℕ CallFault) (pause : Option ℕ) (after : List Tick) → HasGet core 1 job
      → Gains log log' (call.Get (name_of names job.block) job.verify (get_reply answered bytes) ∷ [])
      → CountsFaults faults faults' (HasFailed answered) → Gains clock between (tick.Taken later ∷ [])
      → Event (disk_at names core tape) (disk_at names' core' tape') later (get_end_entry 1 reading job (shown_for answered bytes) outcome)
      → PausesWhere (DiffersInTime (settings_of core).stale_limit job.begun job.expect
      (answer_digest (geometry_of core).block_size job.verify (shown_for answered bytes))) stale_pause pause
      → PauseTicks true later (next_of result) pause after
      → Gains between clock' (next_ticks (next_of result) ++ after)
      → RequestEnds (base_of core)
      (deed_of (get_ended job reading answered bytes (is_taken outcome) ∷ get_begun job ∷ [])
      (call.Get (name_of names job.block) job.verify (get_reply answered bytes) ∷ [])
      (after ++ tick.Taken later ∷ [])) result → KeepsReaching later after result
      → FetchDoes (scene_at names core tape log faults clock) (scene_at names' core' tape' log' faults' clock') job result
  fetch_does {between = between} job answered bytes later reading outcome result pause after opened called counted
      took event pauses paused
      readings cause reaches = record {
        got = answered;
        bytes = bytes;
        called = called;
        counted = counted;
        later = later;
        between = between;
        took = took;
        reading = reading;
        taken = is_taken outcome;
        after = after;
        turn = record {
          event = event;
          pause = pause;
          pauses = λ past is stands.
              pauses_so (settings_of core).stale_limit 1 job _ _ pause ((stands.blocks job.block).asks ∙ opened) pauses;
          paused = paused;
          readings = readings;
        };
        cause = cause;
        reaches = reaches;
      }

  -- its answer was taken
  pub fetch_taken : {between : Option (List Tick)} (job : GetJob) (answered : Result Got LinkFault) (bytes : List ℕ)
      (later reading : ℕ)
      (outcome : GetDone) (next : ℕ) → HasGet core 1 job
      → Gains log log' (call.Get (name_of names job.block) job.verify (get_reply answered bytes) ∷ [])
      → CountsFaults faults faults' (HasFailed answered) → Gains clock between (tick.Taken later ∷ [])
      → Event (disk_at names core tape) (disk_at names' core' tape') later (get_end_entry 1 reading job (shown_for answered bytes) outcome)
      → outcome ≡ judged job.expect (answer_digest (geometry_of core).block_size job.verify (shown_for answered bytes))
      → outcome ≡ done.Taken → Gains between clock' (tick.Taken next ∷ [])
      → FetchDoes (scene_at names core tape log faults clock) (scene_at names' core' tape' log' faults' clock') job (Ok next)
  fetch_taken job answered bytes later reading outcome next opened called counted took event answer is readings =
      fetch_does job answered bytes later reading outcome (Ok next) None [] opened called counted took event
      (taken_agrees (settings_of core).stale_limit job.begun job.expect _ (sym answer ∙ is)) refl readings (
        taken_none_fails (geometry_of core).block_size job.block job.expect job.verify answered bytes (is_taken outcome)
            (sym answer ∙ is),
        ((λ fails. fails), tt),
      ) (λ earlier reached. reached)

  -- it failed
  pub fetch_failed : (job : GetJob) (cause : LinkFault) (fault : CallFault) (bytes : List ℕ) (later reading : ℕ)
      (outcome : GetDone) → HasGet core 1 job
      → Gains log log' (call.Get (name_of names job.block) job.verify (get_reply (Err cause) bytes) ∷ [])
      → CountsFaults faults faults' (HasFailed {T = Got} (Err cause)) → Gains clock clock' (tick.Taken later ∷ [])
      → Event (disk_at names core tape) (disk_at names' core' tape') later
      (get_end_entry 1 reading job (shown_for (Err cause) bytes) outcome)
      → fault ≡ call_fault (fault_for cause)
      → FetchDoes (scene_at names core tape log faults clock) (scene_at names' core' tape' log' faults' clock') job (Err fault)
  fetch_failed job cause fault bytes later reading outcome opened called counted took event is = record {
    got = Err cause;
    bytes = bytes;
    called = called;
    counted = counted;
    later = later;
    between = clock';
    took = took;
    reading = reading;
    taken = is_taken outcome;
    after = [];
    turn = record {
      event = event;
      pause = None;
      pauses = λ past held stands.
          pauses_so (settings_of core).stale_limit 1 job _ _ None ((stands.blocks job.block).asks ∙ opened)
          (failure_agrees (settings_of core).stale_limit job.begun (geometry_of core).block_size job.expect job.verify);
      paused = refl;
      readings = gains_nothing clock';
    };
    cause = fails_by (base_of core) cause fault (get_ended job reading (Err cause) bytes (is_taken outcome))
        (get_begun job ∷ []) (call.Get (name_of names job.block) job.verify (get_reply (Err cause) bytes)) []
        (tick.Taken later ∷ []) is tt refl ((λ fails. fails), tt);
    reaches = λ earlier reached. reaches_by cause fault (tick.Taken later ∷ earlier) is reached;
  }

  -- its answer was stale, and late
  pub fetch_stale : (job : GetJob) (answered : Result Got LinkFault) (bytes : List ℕ) (later reading : ℕ)
      (outcome : GetDone) (expected shown : List ℕ) → HasGet core 1 job
      → Gains log log' (call.Get (name_of names job.block) job.verify (get_reply answered bytes) ∷ [])
      → CountsFaults faults faults' (HasFailed answered) → Gains clock clock' (tick.Taken later ∷ [])
      → Event (disk_at names core tape) (disk_at names' core' tape') later (get_end_entry 1 reading job (shown_for answered bytes) outcome)
      → outcome ≡ judged job.expect (answer_digest (geometry_of core).block_size job.verify (shown_for answered bytes))
      → outcome ≡ done.Stale expected shown
      → is_late (settings_of core).stale_limit job.begun job.expect ≡ true
      → FetchDoes (scene_at names core tape log faults clock) (scene_at names' core' tape' log' faults' clock') job
      (Err (StaleRead job.block expected shown job.begun))
  fetch_stale job answered bytes later reading outcome expected shown opened called counted took event answer is late =
      let other = shows_other job.expect
      (answer_digest (geometry_of core).block_size job.verify (shown_for answered bytes)) expected shown
      (sym answer ∙ is) in
      record {
        got = answered;
        bytes = bytes;
        called = called;
        counted = counted;
        later = later;
        between = clock';
        took = took;
        reading = reading;
        taken = is_taken outcome;
        after = [];
        turn = record {
          event = event;
          pause = None;
          pauses = λ past held stands.
              pauses_so (settings_of core).stale_limit 1 job _ _ None ((stands.blocks job.block).asks ∙ opened)
              (late_is_over (settings_of core).stale_limit job.begun job.expect _ late);
          paused = refl;
          readings = gains_nothing clock';
        };
        cause = (
          (
            (refl, ap is_taken is, other.digest_is),
            (refl, long_expected (settings_of core).stale_limit job.begun job.expect expected other.expected_is late),
            refl,
            other.other,
          ),
          (
            digest_none_fails (geometry_of core).block_size job.block job.verify answered bytes shown (is_taken outcome)
                other.digest_is,
            ((λ fails. fails), tt),
          ),
        );
        reaches = λ earlier reached. reached;
      }

  -- its answer was stale, and it is asked for anew behind a pause
  pub fetch_paused : {between : Option (List Tick)} {latest latest' : ℕ} (job : GetJob)
      (answered : Result Got LinkFault) (bytes : List ℕ)
      (later reading : ℕ) (outcome : GetDone) (expected shown : List ℕ) (result : Result ℕ FlushFault)
      → HasGet core 1 job
      → Gains log log' (call.Get (name_of names job.block) job.verify (get_reply answered bytes) ∷ [])
      → CountsFaults faults faults' (HasFailed answered) → Gains clock between (tick.Taken later ∷ [])
      → Event (disk_at names core tape) (disk_at names' core' tape') later (get_end_entry 1 reading job (shown_for answered bytes) outcome)
      → outcome ≡ judged job.expect (answer_digest (geometry_of core).block_size job.verify (shown_for answered bytes))
      → outcome ≡ done.Stale expected shown
      → is_late (settings_of core).stale_limit job.begun job.expect ≡ false
      → Pauses between clock' latest latest' later stale_pause result
      → FetchDoes (scene_at names core tape log faults clock) (scene_at names' core' tape' log' faults' clock') job (as_call result)
  fetch_paused job answered bytes later reading outcome expected shown result opened called counted took event answer
      is late
      pauses =
      let other = shows_other job.expect
      (answer_digest (geometry_of core).block_size job.verify (shown_for answered bytes)) expected shown
      (sym answer ∙ is) in
      let paused = pause_is pauses in
      fetch_does job answered bytes later reading outcome (as_call result)
      (Some stale_pause) paused.after opened called counted took event
      (differs_in_time (settings_of core).stale_limit job.begun job.expect _ expected shown late other, refl)
      paused.paused paused.readings
      (paused.cause (base_of core) refl (get_ended job reading answered bytes (is_taken outcome)) (get_begun job ∷ [])
      (call.Get (name_of names job.block) job.verify (get_reply answered bytes) ∷ []) [] (ap is_taken is, refl) (
        digest_none_fails (geometry_of core).block_size job.block job.verify answered bytes shown (is_taken outcome)
            other.digest_is,
        ((λ fails. fails), tt),
      ))
      paused.reaches

-- a put that failed says its fault, as a delete or as a put
pub put_fault : (zeros : Bool) (name : List ℕ) (meta : Option Meta) (content : List ℕ) (fault : Option LinkFault)
    → outcome.fault_of (if zeros then call.Delete name fault else call.Put name content meta fault) ≡ fault
put_fault true name meta content fault = refl
put_fault false name meta content fault = refl

-- a PUT that ends adds its entry to the histories in which its content is the newest put of its block
pub put_adds : (old new : Core) (block : ℕ) (content digest : List ℕ) (entry : Entry)
    → AddsAfterPut digest block old new entry → IsDigestOf old.settings content digest
    → (past : List Entry) → IsPutOf block content past → Represents old past → Represents new (entry ∷ past)
put_adds old new block content digest entry adds is past of stands =
    adds past (subst (λ (c : List ℕ). IsDigestOf old.settings c digest) (sym of) is) stands

-- what a PUT did
module _ {names names' : Naming} {core core' : Core} {tape tape' : Option (List Entry)}
    {clock clock' : Option (List Tick)} {log log' : Option (List Call)} {faults faults' : ℕ} where
  pub stored : {between : Option (List Tick)} (block : ℕ) (content : List ℕ) (later reading next : ℕ)
      → Gains log log' (put_sent names block content (Ok tt) ∷ [])
      → CountsFaults faults faults' (HasFailed {T = Unit} (Ok tt)) → Gains clock between (tick.Taken later ∷ [])
      → EventWhere (IsPutOf block content) (disk_at names core tape) (disk_at names' core' tape') later (put_ended block reading (Ok tt))
      → Gains between clock' (tick.Taken next ∷ [])
      → StoreDoes (scene_at names core tape log faults clock) (scene_at names' core' tape' log' faults' clock') block content (Ok next)
  stored {between = between} block content later reading next called counted took event readings = record {
    sent = Ok tt;
    called = called;
    counted = counted;
    later = later;
    between = between;
    took = took;
    reading = reading;
    after = [];
    turn = record {
      event = event;
      pause = None;
      pauses = λ past is stands. refl;
      paused = refl;
      readings = readings;
    };
    cause = ((λ fails. cc), tt);
    reaches = λ earlier reached. reached;
  }

  pub store_failed : (block : ℕ) (content : List ℕ) (cause : LinkFault) (fault : FlushFault) (later reading : ℕ)
      → Gains log log' (put_sent names block content (Err cause) ∷ [])
      → CountsFaults faults faults' (HasFailed {T = Unit} (Err cause)) → Gains clock clock' (tick.Taken later ∷ [])
      → EventWhere (IsPutOf block content) (disk_at names core tape) (disk_at names' core' tape') later (put_ended block reading (Err cause))
      → fault ≡ fault_for cause
      → StoreDoes (scene_at names core tape log faults clock) (scene_at names' core' tape' log' faults' clock') block content (Err fault)
  store_failed block content cause fault later reading called counted took event is = record {
    sent = Err cause;
    called = called;
    counted = counted;
    later = later;
    between = clock';
    took = took;
    reading = reading;
    after = [];
    turn = record {
      event = event;
      pause = None;
      pauses = λ past held stands. refl;
      paused = refl;
      readings = gains_nothing clock';
    };
    cause = fails_by (base_of core) cause (call_fault fault) (put_ended block reading (Err cause)) []
        (put_sent names block content (Err cause)) [] (tick.Taken later ∷ []) (ap call_fault is) refl
        (put_fault (is_zeros content) (name_of names block) (meta_of (Some names.meta) block) content (Some cause)) tt;
    reaches = λ earlier reached. reaches_by cause (call_fault fault) (tick.Taken later ∷ earlier) (ap call_fault is) reached;
  }
