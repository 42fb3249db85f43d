-- From what a session did to what a run promises.
use Rattle.std.proofs.Common.{ℕ, ◌≡◌, List, [], ◌++◌, Option, Some, None, Result, Ok, Err, refl, sym, ◌∙◌, ap, subst}
use Rattle.std.proofs.Common.{append-nil, ◌⊎◌, Bool, true, false}
use Rattle.sb_base.specs.declared.geometry.Geometry.{Geometry}
use Rattle.sb_base.specs.declared.settings.Settings.{Settings}
use Rattle.sb_base.specs.declared.entry.Entry.{Entry}
use Rattle.sb_world.specs.Told.{CountsFaults}
use Rattle.sb_history.specs.AccessRules.{FollowsAccessRules}
use Rattle.sb_history.specs.CachePolicy.{FollowsCachePolicy}
use Rattle.sb_history.specs.ClockTrace.{ClockTrace}
use Rattle.sb_history.specs.Laws.{SoundIsLegal, SoundFlushes, SoundSurvivesCrash, StaleIsYoung}
use Rattle.sb_history.specs.Contents.{Start}
use Rattle.sb_history.specs.Visibility.{Delays}
use Rattle.sb_history.specs.Soundness.{IsSoundHistory}
use Rattle.sb_history.specs.Requests.{RequestLog}
use Rattle.sb_core.specs.declared.machine.Core.{Core}
use Rattle.sb_core.specs.Cores.{Represents}
use Rattle.sb_core.specs.Represents.{nothing_found}
use Rattle.sb_crew.specs.Bases.{Base, base_of}
use Rattle.sb_crew.specs.Scenes.{Deed, Scene, nothing, followed}
use Rattle.sb_crew.specs.declared.calls.FlushFault.{FlushFault}
use Rattle.sb_crew.specs.declared.calls.FlushFault.TheVariants as flush
use Rattle.sb_crew.specs.Outcomes.{Outcome, outcomes_of, FlushDoes}
use Rattle.sb_crew.specs.Names.{Naming, name_of}
use Rattle.sb_crew.specs.Runs.{Did, only_caller}
use Rattle.sb_crew.specs.Joins.{did_join}
use Rattle.sb_crew.proofs.OutcomeLemmas.{outcomes_join}
use Rattle.sb_crew.proofs.Turning.{same_base_of}
use Rattle.sb_nbd.specs.declared.end.NbdEnd.TheVariants as nbd
use Rattle.sb_session.specs.declared.end.SessionEnd.{SessionEnd}
use Rattle.sb_session.specs.declared.end.SessionEnd.TheVariants as end
use Rattle.sb_session.specs.Streams.{Streams}
use Rattle.sb_session.specs.Sessions.{SessionTold}
use Rattle.s3backer.proofs.Causes.{none_failed, ended_well}
use Rattle.s3backer.proofs.Endings.{read_whole}
use Rattle.s3backer.proofs.Completing.{session_served, end_served}
use Rattle.s3backer.specs.Fresh.{IsFresh}
use Rattle.s3backer.specs.Plans.{PlanParts, naming_of, plan_base, default_settings}
use Rattle.s3backer.specs.Views.{View}
use Rattle.s3backer.specs.Headline.{IsWithin, IsKind, IsHistory, IsSaved, ServesSession, flush_status, run_status, run_line}
use Rattle.s3backer.specs.Headline.{ComplainsOf, LastFlushEnds, LastFlushDoes}

-- a view of a scene, of the streams of a client, and of an error sink
abbrev pub seen : Scene → Streams → ℕ → ℕ → Option (List ℕ) → ℕ → View
seen scene streams read_faults write_faults errors error_faults = record {
  log = scene.log;
  link_faults = scene.faults;
  ticks = scene.ticks;
  streams = streams;
  read_faults = read_faults;
  write_faults = write_faults;
  errors = errors;
  error_faults = error_faults;
  tape = scene.disk.tape;
}

-- what was done to a fresh core under the plan's names is a disk's history
history_of : (plan : PlanParts) (a b : Scene) (deed : Deed) (streams streams' : Streams)
    (read written errors read' written' errors' : ℕ) (held held' : Option (List ℕ))
    → SoundIsLegal → SoundFlushes → SoundSurvivesCrash → IsFresh plan.geometry a.disk.core
    → a.disk.names ≡ naming_of plan → Did a b deed
    → IsHistory plan (seen a streams read written held errors) (seen b streams' read' written' held' errors') deed
history_of plan a b deed streams streams' read written errors read' written' errors' held held' legal flushes survives
    fresh named did =
    let core = a.disk.core in
    let core' = b.disk.core in
    let entries = deed.entries in
    let after = subst (λ (past : List Entry). Represents core' past) (append-nil entries)
    (did.runs.history [] tt fresh.represents) in
    let shape : core'.geometry ≡ plan.geometry = did.runs.base.geometry ∙ fresh.geometry_is in
    let set : core'.settings ≡ default_settings = did.runs.base.settings ∙ fresh.settings_is in
    let rules = subst (λ (s : Settings). FollowsAccessRules plan.geometry s nothing_found entries) set
    (subst (λ (g : Geometry). FollowsAccessRules g core'.settings nothing_found entries) shape after.rules) in
    let policy = subst (λ (s : Settings). FollowsCachePolicy plan.geometry s nothing_found entries) set
    (subst (λ (g : Geometry). FollowsCachePolicy g core'.settings nothing_found entries) shape after.policy) in
    let sound : (start : Start) (delays : Delays) → IsWithin plan.geometry start delays entries
    → IsSoundHistory plan.geometry default_settings nothing_found start delays entries =
    λ start delays within. record {
      sized = within.sized;
      covers = within.covers;
      rules = rules;
      policy = policy;
      stale_within = within.stale_within;
      collision_free = within.collision_free;
    } in
    record {
      of_pass = did.runs.of_pass;
      tape = did.runs.told;
      asked = did.asked.gained;
      requests = subst (λ (n : Naming). RequestLog (name_of n) (Some n.meta) entries deed.calls) named did.requests;
      clock = did.runs.readings;
      trace = subst (λ (s : Settings). ClockTrace plan.geometry s only_caller [] entries None deed.ticks)
          fresh.settings_is
          (subst (λ (g : Geometry). ClockTrace g core.settings only_caller [] entries None deed.ticks)
          fresh.geometry_is (did.runs.trace [] tt fresh.represents));
      rules = rules;
      policy = policy;
      legal = λ start delays within.
          legal plan.geometry default_settings nothing_found start delays entries (sound start delays within);
      durable = λ start delays within.
          flushes plan.geometry default_settings nothing_found start delays entries (sound start delays within);
      survives = λ start delays within.
          survives plan.geometry default_settings nothing_found start delays entries (sound start delays within);
    }

-- a flush that ended well, and the entries before it
saved_by : (read_only : Bool) (base : Base) (flushed : Result Unit FlushFault) (flush : Deed) (session : List Entry)
    → LastFlushEnds read_only base flushed flush → flushed ≡ Ok tt → read_only ≡ false
    → IsSaved (flush.entries ++ session)
saved_by true base flushed flush session ends is writable = absurd (cc)
saved_by false base (Ok done) flush session ends is writable = (
  ends.0,
  outcomes_of session,
  outcomes_join flush.entries session
      ∙ ap (λ (os : List Outcome). os ++ outcomes_of session) ends.1.met,
)
saved_by false base (Err fault) flush session ends is writable = absurd (cc)

-- status 0 comes only with a flush that ended well
flush_at_zero : (flushed : Result Unit FlushFault) → flush_status flushed ≡ 0 → flushed ≡ Ok tt
flush_at_zero (Ok done) zero = refl
flush_at_zero (Err (flush.StoreFault status)) zero = absurd (cc)
flush_at_zero (Err flush.Memory) zero = absurd (cc)
flush_at_zero (Err (flush.ClockStalled before asked after)) zero = absurd (cc)

flushed_at_zero : (ended : SessionEnd) (flushed : Result Unit FlushFault) → run_status ended flushed ≡ 0
    → flushed ≡ Ok tt
flushed_at_zero end.Disconnected flushed zero = flush_at_zero flushed zero
flushed_at_zero end.Aborted flushed zero = flush_at_zero flushed zero
flushed_at_zero end.Ended flushed zero = flush_at_zero flushed zero
flushed_at_zero (end.NoSuchExport size) flushed zero = absurd (cc)
flushed_at_zero (end.Fault fault) flushed zero = absurd (cc)
flushed_at_zero end.Spent flushed zero = absurd (cc)

-- no flush of a read-only disk
pub flushes_none : (read_only : Bool) (base : Base) (did : Deed → Type 0) → read_only ≡ true → did nothing
    → LastFlushDoes read_only base did (Ok tt)
flushes_none true base did is done = record {
  deed = nothing;
  done = done;
  ends = (refl, refl);
  asks = record { asked = tt };
}
flushes_none false base did is done = absurd (cc)

pub flushes_last : (read_only : Bool) (base : Base) (did : Deed → Type 0) (flushed : Result Unit FlushFault)
    → read_only ≡ false → FlushDoes base did flushed → LastFlushDoes read_only base did flushed
flushes_last true base did flushed is does = absurd (cc)
flushes_last false base did flushed is does = does

-- the base of a fresh core is that of the plan
fresh_base : (plan : PlanParts) (core : Core) → IsFresh plan.geometry core → base_of core ≡ plan_base plan
fresh_base plan core fresh =
    ap (λ (geometry : Geometry). record { geometry = geometry; settings = core.settings; alone = true }) fresh.geometry_is
    ∙ ap (λ (settings : Settings). record { geometry = plan.geometry; settings = settings; alone = true }) fresh.settings_is

-- a session over a fresh core and the flush after it are what a run promises
pub session_serves : (plan : PlanParts) (a b c : Scene) (streams streams' : Streams)
    (read written errors read' written' errors' : ℕ) (held held' : Option (List ℕ)) (ended : SessionEnd)
    (flushed : Result Unit FlushFault) (status : ℕ)
    → SoundIsLegal → SoundFlushes → SoundSurvivesCrash → StaleIsYoung → IsFresh plan.geometry a.disk.core
    → a.disk.names ≡ naming_of plan
    → SessionTold plan.read_only (base_of a.disk.core) streams streams' (Did a b) ended
    → CountsFaults read read' (ended ≡ end.Fault nbd.ReadFault)
    → CountsFaults written written' (ended ≡ end.Fault nbd.WriteFault)
    → LastFlushDoes plan.read_only (base_of b.disk.core) (Did b c) flushed → status ≡ run_status ended flushed
    → ComplainsOf (run_line ended flushed) held held' errors errors'
    → ServesSession plan (seen a streams read written held errors) (seen c streams' read' written' held' errors') status
session_serves plan a b c streams streams' read written errors read' written' errors' held held' ended flushed status
    legal flushes survives stale fresh named session read_cause write_cause flush status_is complains =
    let P : Base → Type 0 = λ base. SessionTold plan.read_only base streams streams' (Did a b) ended in
    let begun = fresh_base plan a.disk.core fresh in
    let told = subst P begun session in
    let ends = subst (λ (base : Base). LastFlushEnds plan.read_only base flushed flush.deed)
    (same_base_of told.done.runs.base ∙ begun) flush.ends in
    let did = did_join (λ past fits. fits) told.done flush.done in
    let deed = followed told.deed flush.deed in
    let history = history_of plan a c deed streams streams' read written errors read' written' errors' held held' legal
    flushes survives fresh named did in
    let sound : (start : Start) (delays : Delays) → IsKind plan start delays deed
    → IsSoundHistory plan.geometry default_settings nothing_found start delays deed.entries =
    λ start delays kind. record {
      sized = kind.within.sized;
      covers = kind.within.covers;
      rules = history.rules;
      policy = history.policy;
      stale_within = kind.within.stale_within;
      collision_free = kind.within.collision_free;
    } in
    record {
      session = told.deed;
      flush = flush.deed;
      history = history;
      ended = ended;
      course = told.course;
      read_cause = read_cause.rises;
      write_cause = write_cause.rises;
      link_counts = did.asked.counted;
      flushed = flushed;
      flushes = ends;
      flush_asks = flush.asks;
      status_is = status_is;
      complains = complains;
      read_whole = λ zero. read_whole ended flushed told.course (sym status_is ∙ zero);
      saved = λ zero writable. saved_by plan.read_only (plan_base plan) flushed flush.deed told.deed.entries ends
          (flushed_at_zero ended flushed (sym status_is ∙ zero)) writable;
      no_failed_reply = λ quiet. none_failed told.course a.faults c.faults flush.deed.calls quiet did.asked.counted;
      ends_well = λ quiet unread unwritten sound_end.
          subst (λ (n : ℕ). (n ≡ 0) ⊎ ((n ≡ 12) ⊎ (n ≡ 11))) (sym status_is)
          (ended_well plan.read_only (plan_base plan) ended flushed flush.deed told.deed.calls a.faults c.faults ends quiet
          did.asked.counted read_cause.rises write_cause.rises unread unwritten sound_end);
      all_served = λ start delays kind quiet.
          session_served plan.read_only (plan_base plan) start delays stale kind.young told.course flush.deed a.faults c.faults
          (sound start delays kind) kind.moves quiet did.asked.counted;
      ends_served = λ start delays kind quiet unread unwritten sound_end.
          subst (λ (n : ℕ). (n ≡ 0) ⊎ (n ≡ 12)) (sym status_is)
          (end_served plan.read_only (plan_base plan) start delays stale kind.young ended flushed flush.deed told.deed.calls
          told.deed.ticks a.faults c.faults ends kind.moves quiet did.asked.counted read_cause.rises write_cause.rises
          unread unwritten sound_end);
    }
