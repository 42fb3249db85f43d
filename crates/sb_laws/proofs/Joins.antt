-- The calls and the ticks of two segments of a history are those of both.
use Rattle.std.proofs.Common.{ℕ, ◌≡◌, ◌+◌, Bool, true, false, nat_eq, if◌then◌else◌, max, List, [], ◌∷◌, ◌++◌, Option}
use Rattle.std.proofs.Common.{Some, None, refl, sym, ◌∙◌, ap, subst, inl, inr}
use Rattle.std.proofs.lemmas.Bool.{eq-eqb, ne_eqb}
use Rattle.sb_base.specs.declared.geometry.Geometry.{Geometry}
use Rattle.sb_base.specs.declared.settings.Settings.{Settings}
use Rattle.sb_base.specs.declared.entry.EntryKind.{EntryKind}
use Rattle.sb_base.specs.declared.entry.EntryKind.TheVariants as kind
use Rattle.sb_base.specs.declared.entry.Entry.{Entry}
use Rattle.sb_world.specs.declared.link.Call.{Call}
use Rattle.sb_world.specs.declared.link.Meta.{Meta}
use Rattle.sb_world.specs.declared.clock.Tick.{Tick}
use Rattle.sb_world.specs.declared.clock.Tick.TheVariants as tick
use Rattle.sb_history.specs.AccessRules.{last_reading}
use Rattle.sb_history.specs.Requests.{put_content, put_content_after, meta_of, IsPutCall, IsCallOf, RequestLog}
use Rattle.sb_history.specs.ClockTrace.{Caller, Reaches, PauseTicks, PausesAfter, IsTicked, IsTickedIf, ClockTrace}
use Rattle.sb_history.specs.Laws.{RequestsJoin, ClockTracesJoin, EntryIsTicked, OtherPassIsUnticked, PlainTraceHolds}

-- a put that began in the later segment is that of both
content_after :
    (block : ℕ) (e : EntryKind) (a b : Option (List ℕ)) (content : List ℕ) → ((c : List ℕ) → a ≡ Some c → b ≡ Some c)
    → put_content_after block e a ≡ Some content → put_content_after block e b ≡ Some content
content_after block (kind.PutBegin of c) a b content more is = either (nat_eq of block) is where
  either : (t : Bool) → (if t then Some c else a) ≡ Some content → (if t then Some c else b) ≡ Some content
  either true h = h
  either false h = more content h
content_after block e a b content more is = more content is

content_joins : (later earlier : List Entry) (block : ℕ) (content : List ℕ) → put_content later block ≡ Some content
    → put_content (later ++ earlier) block ≡ Some content
content_joins [] earlier block content is = cc
content_joins (entry ∷ later) earlier block content is =
    content_after block entry.kind (put_content later block) (put_content (later ++ earlier) block) content
    (λ c. content_joins later earlier block c) is

module _ (first : List Call) (R S : List Call → Type 0) (more : (calls : List Call) → R calls → S (calls ++ first))
  where
    put_joins :
        (name : List ℕ) (meta : Option Meta) (later earlier : List Entry) (block : ℕ) (ok : Bool) (calls : List Call)
        → (o : Option (List ℕ)) → put_content later block ≡ o → IsPutCall name meta o ok calls R
        → IsPutCall name meta (put_content (later ++ earlier) block) ok (calls ++ first) S
    put_joins name meta later earlier block ok calls None is asked = absurd asked
    put_joins name meta later earlier block ok calls (Some content) is asked =
        subst (λ o. IsPutCall name meta o ok (calls ++ first) S) (sym (content_joins later earlier block content is))
        (asked.0, asked.1 ++ first, ap (λ t. t ++ first) asked.2, asked.3, more asked.1 asked.4)

    call_joins :
        (name : ℕ → List ℕ) (meta : Option Meta) (later earlier : List Entry) (e : EntryKind) (calls : List Call)
        → IsCallOf name meta later e calls R → IsCallOf name meta (later ++ earlier) e (calls ++ first) S
    call_joins name meta later earlier (kind.GetEnd block answer verify taken) calls asked =
        (asked.0, asked.1 ++ first, ap (λ t. t ++ first) asked.2, asked.3, more asked.1 asked.4)
    call_joins name meta later earlier (kind.PutEnd block ok) calls asked =
        put_joins (name block) (meta_of meta block) later earlier block ok calls (put_content later block) refl asked
    call_joins name meta later earlier e calls asked = more calls asked

pub requests_join : RequestsJoin
requests_join name meta earlier [] first second log rest =
    subst (λ calls. RequestLog name meta earlier (calls ++ first)) (sym rest) log
requests_join name meta earlier (entry ∷ later) first second log rest =
    call_joins first (RequestLog name meta later) (RequestLog name meta (later ++ earlier))
    (λ calls more. requests_join name meta earlier later first calls log more) name meta later earlier entry.kind
    second rest

-- the next reading matters to a pause only where none fell short
append_assoc : {X : Type 0} → (a b c : List X) → (a ++ b) ++ c ≡ a ++ (b ++ c)
append_assoc [] b c = refl
append_assoc (x ∷ a) b c = ap (λ t. x ∷ t) (append_assoc a b c)

reaches_next : (alone : Bool) (until : ℕ) (next : Option ℕ) → Reaches alone until None → Reaches alone until next
reaches_next false until next reached = tt
reaches_next true until next reached = absurd reached

pause_next :
    (alone : Bool) (taken : ℕ) (next pause : Option ℕ) (ticks : List Tick) → PauseTicks alone taken None pause ticks
    → PauseTicks alone taken next pause ticks
pause_next alone taken next None ticks is = is
pause_next alone taken next (Some millis) ticks (inl paused) =
    inl (paused.0, reaches_next alone (taken + millis) next paused.1)
pause_next alone taken next (Some millis) ticks (inr short) = inr short

ticked_next :
    (t : Bool) (geometry : Geometry) (settings : Settings) (alone : Bool) (next : Option ℕ) (past : List Entry)
    (entry : Entry) (ticks : List Tick) (R : Option ℕ → List Tick → Type 0) →
    ((ticks : List Tick) → R None ticks → R next ticks)
    → IsTickedIf t geometry settings alone None past entry ticks R
    → IsTickedIf t geometry settings alone next past entry ticks R
ticked_next true geometry settings alone next past entry ticks R more is =
    (is.0, is.1, is.2, is.3, is.4, is.5, is.6, pause_next alone is.0 next is.1 is.2 is.7, is.8)
ticked_next false geometry settings alone next past entry ticks R more is = more ticks is

-- a trace whose last pause was followed is one before any next reading
trace_next :
    (geometry : Geometry) (settings : Settings) (caller : Caller) (before entries : List Entry) (next : Option ℕ)
    (ticks : List Tick) → ClockTrace geometry settings caller before entries None ticks → ClockTrace geometry settings
    caller before entries next ticks
trace_next geometry settings caller before [] next ticks trace = trace
trace_next geometry settings caller before (entry ∷ entries) next ticks trace =
    ticked_next (nat_eq entry.pass caller.pass) geometry settings caller.alone next (entries ++ before) entry ticks
    (ClockTrace geometry settings caller before entries)
    (λ ticks. trace_next geometry settings caller before entries next ticks) trace

ticked_joins :
    (t : Bool) (geometry : Geometry) (settings : Settings) (alone : Bool) (next : Option ℕ) (past past' : List Entry)
    (entry : Entry) (first ticks : List Tick) (R S : Option ℕ → List Tick → Type 0) → past ≡ past' →
    ((next : Option ℕ) (ticks : List Tick) → R next ticks → S next (ticks ++ first))
    → IsTickedIf t geometry settings alone next past entry ticks R
    → IsTickedIf t geometry settings alone next past' entry (ticks ++ first) S
ticked_joins true geometry settings alone next past past' entry first ticks R S same more is = (
  is.0,
  is.1,
  is.2,
  is.3 ++ first,
  ap (λ t. t ++ first) is.4 ∙ append_assoc is.2 (tick.Taken is.0 ∷ is.3) first,
  subst (λ p. entry.reading ≡ max is.0 (last_reading p)) same is.5,
  subst (λ p. PausesAfter geometry settings p is.0 entry.kind is.1) same is.6,
  is.7,
  more (Some is.0) is.3 is.8,
)
ticked_joins false geometry settings alone next past past' entry first ticks R S same more is = more next ticks is

pub clock_traces_join : ClockTracesJoin
clock_traces_join geometry settings caller before earlier [] next first second trace rest =
    subst (λ ticks. ClockTrace geometry settings caller before earlier next (ticks ++ first)) (sym rest)
    (trace_next geometry settings caller before earlier next first trace)
clock_traces_join geometry settings caller before earlier (entry ∷ later) next first second trace rest =
    ticked_joins (nat_eq entry.pass caller.pass) geometry settings caller.alone next (later ++ (earlier ++ before))
    ((later ++ earlier) ++ before) entry first second (ClockTrace geometry settings caller (earlier ++ before) later)
    (ClockTrace geometry settings caller before (later ++ earlier)) (sym (append_assoc later earlier before))
    (λ next ticks. clock_traces_join geometry settings caller before earlier later next first ticks trace) rest

-- where no entry pauses
true_ticked :
    (t : Bool) (geometry : Geometry) (settings : Settings) (alone : Bool) (next : Option ℕ) (past : List Entry)
    (entry : Entry) (ticks : List Tick) (R : Option ℕ → List Tick → Type 0) → t ≡ true → IsTicked geometry settings
    alone next past entry ticks (λ taken. R (Some taken))
    → IsTickedIf t geometry settings alone next past entry ticks R
true_ticked true geometry settings alone next past entry ticks R is ticked = ticked
true_ticked false geometry settings alone next past entry ticks R is ticked = absurd (cc)

pub plain_trace_holds : PlainTraceHolds
plain_trace_holds geometry settings caller before [] next ticks of_pass none one = one
plain_trace_holds geometry settings caller before (entry ∷ entries) next ticks of_pass none one =
    true_ticked (nat_eq entry.pass caller.pass) geometry settings caller.alone next (entries ++ before) entry ticks
    (ClockTrace geometry settings caller before entries) (eq-eqb entry.pass caller.pass of_pass.0) (
      one.0,
      None,
      [],
      one.1,
      one.2,
      one.3,
      none.0 one.0,
      refl,
      plain_trace_holds geometry settings caller before entries (Some one.0) one.1 of_pass.1 none.1 one.4,
    )

pub entry_is_ticked : EntryIsTicked
entry_is_ticked geometry settings caller before entries entry next pause taken after ticks of_pass reading pauses paused
    trace =
    true_ticked (nat_eq entry.pass caller.pass) geometry settings caller.alone next (entries ++ before) entry
    (after ++ tick.Taken taken ∷ ticks)
    (ClockTrace geometry settings caller before entries) (eq-eqb entry.pass caller.pass of_pass)
    (taken, pause, after, ticks, refl, reading, pauses, paused, trace)

false_ticked :
    (t : Bool) (geometry : Geometry) (settings : Settings) (alone : Bool) (next : Option ℕ) (past : List Entry)
    (entry : Entry) (ticks : List Tick) (R : Option ℕ → List Tick → Type 0) → t ≡ false → R next ticks
    → IsTickedIf t geometry settings alone next past entry ticks R
false_ticked true geometry settings alone next past entry ticks R is others = absurd (cc)
false_ticked false geometry settings alone next past entry ticks R is others = others

pub other_pass_is_unticked : OtherPassIsUnticked
other_pass_is_unticked geometry settings caller before entries entry next ticks other trace =
    false_ticked (nat_eq entry.pass caller.pass) geometry settings caller.alone next (entries ++ before) entry ticks
    (ClockTrace geometry settings caller before entries) (ne_eqb entry.pass caller.pass other) trace
