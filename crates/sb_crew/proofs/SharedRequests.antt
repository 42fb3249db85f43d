-- What a request of a pass came to: a GET by the end that the core gave its answer, and a PUT.
use Rattle.std.proofs.Common.{ℕ, ◌≡◌, true, false, List, [], ◌∷◌, ◌++◌, Option, Some, None, Result, Ok, Err, refl, sym}
use Rattle.std.proofs.Common.{◌∙◌, ap, subst, inl}
use Rattle.sb_turn.specs.declared.stands.Stands.{Ghosts}
use Rattle.sb_turn.specs.declared.pass.Pass.{Pass}
use Rattle.sb_turn.specs.declared.turn.Turn.{Turn}
use Rattle.sb_turn.specs.Passes.{number}
use Rattle.sb_world.specs.Told.{Gains, CountsFaults}
use Rattle.sb_world.specs.Calls.{HasFailed}
use Rattle.sb_world.specs.declared.clock.Tick.{Tick}
use Rattle.sb_world.specs.declared.clock.Tick.TheVariants as tick
use Rattle.sb_world.specs.declared.link.Call.{Call}
use Rattle.sb_world.specs.declared.link.Got.{Got}
use Rattle.sb_world.specs.declared.link.LinkFault.{LinkFault}
use Rattle.sb_history.specs.Contents.{is_zeros}
use Rattle.sb_history.specs.Requests.{meta_of}
use Rattle.sb_history.specs.Window.{answer_digest}
use Rattle.sb_history.specs.ClockTrace.{DiffersInTime, PausesWhere, PauseTicks, is_late, stale_pause}
use Rattle.sb_core.specs.declared.machine.Core.{Core}
use Rattle.sb_core.specs.declared.standing.Timed.{Timed}
use Rattle.sb_core.specs.declared.standing.Fixed.{Fixed}
use Rattle.sb_core.specs.declared.job.GetJob.{GetJob}
use Rattle.sb_core.specs.declared.step.GetDone.{GetDone}
use Rattle.sb_core.specs.declared.step.GetDone.TheVariants as done
use Rattle.sb_core.specs.Judging.{judged, is_taken}
use Rattle.sb_core.specs.Steps.{get_end_entry}
use Rattle.sb_crew.specs.Bases.{shared_base}
use Rattle.sb_crew.specs.Names.{Naming, name_of}
use Rattle.sb_crew.specs.Scenes.{deed_of}
use Rattle.sb_crew.specs.Answers.{shown_for, fault_for, call_fault, as_call, put_result}
use Rattle.sb_crew.specs.Turns.{put_sent}
use Rattle.sb_crew.specs.declared.calls.CallFault.{CallFault}
use Rattle.sb_crew.specs.declared.calls.CallFault.TheVariants.{StaleRead}
use Rattle.sb_crew.specs.declared.calls.FlushFault.{FlushFault}
use Rattle.sb_crew.specs.Sharing.{seen_by, began_get, ended_get, ended_put, get_sent, IsOpenGet, CauseIf, MayCall}
use Rattle.sb_crew.specs.Sharing.{caller_at, PassTurn, PassFetch, PassStore}
use Rattle.sb_crew.specs.Joins.{gains_join}
use Rattle.sb_crew.proofs.Requesting.{pauses_so, taken_agrees, failure_agrees, shows_other, late_is_over, differs_in_time}
use Rattle.sb_crew.proofs.Requesting.{long_expected, digest_none_fails, taken_none_fails, fails_by, put_fault}
use Rattle.sb_crew.proofs.SharedTurns.{open_before}

module _ {g : Ghosts Core Timed Fixed} {p q : Pass Core Timed Fixed g} {names : Naming} {turn : Turn Core Timed Fixed}
    {fixed : Fixed} {log log' : Option (List Call)} {faults faults' : ℕ} {clock clock' : Option (List Tick)}
    (job : GetJob) (answered : Result Got LinkFault) (bytes : List ℕ) (later reading : ℕ) (outcome : GetDone)
    (took : PassTurn p q later (get_end_entry (number p) reading job (shown_for answered bytes) outcome))
    (may : MayCall turn fixed q) (opened : IsOpenGet (seen_by p) (number p) job)
    (called : Gains log log' (get_sent names job answered bytes ∷ []))
    (counted : CountsFaults faults faults' (HasFailed answered))
  where
    fetched : (result : Result Unit CallFault) (pause : Option ℕ) (after : List Tick)
        → PausesWhere (DiffersInTime fixed.settings.stale_limit job.begun job.expect
        (answer_digest fixed.geometry.block_size job.verify (shown_for answered bytes))) stale_pause pause
        → PauseTicks false later None pause after → Gains clock clock' (after ++ tick.Taken later ∷ [])
        → CauseIf (shared_base fixed) (deed_of
        (ended_get (number p) job reading answered bytes (is_taken outcome) ∷ began_get (number p) job ∷ [])
        (get_sent names job answered bytes ∷ []) (after ++ tick.Taken later ∷ [])) result
        → PassFetch names fixed (caller_at p log faults clock) (caller_at q log' faults' clock') job result
    fetched result pause after pauses paused gains cause = record {
      got = answered;
      bytes = bytes;
      called = called;
      counted = counted;
      later = later;
      reading = reading;
      taken = is_taken outcome;
      turn = took;
      pause = pause;
      after = after;
      pauses = pauses_so fixed.settings.stale_limit (number p) job _ _ pause (open_before job took may opened) pauses;
      paused = paused;
      readings = gains;
      cause = cause;
    }

    module _ (answer : outcome ≡ judged job.expect (answer_digest fixed.geometry.block_size job.verify
        (shown_for answered bytes))) where
      -- it was taken
      pub pass_fetch_taken : outcome ≡ done.Taken → Gains clock clock' (tick.Taken later ∷ [])
          → PassFetch names fixed (caller_at p log faults clock) (caller_at q log' faults' clock') job (Ok tt)
      pass_fetch_taken is gains =
          fetched (Ok tt) None []
          (taken_agrees fixed.settings.stale_limit job.begun job.expect _ (sym answer ∙ is)) refl gains (
            taken_none_fails fixed.geometry.block_size job.block job.expect job.verify answered bytes
                (is_taken outcome) (sym answer ∙ is),
            ((λ fails. fails), tt),
          )

      -- it was stale, and late
      pub pass_fetch_stale : (expected shown : List ℕ) → outcome ≡ done.Stale expected shown
          → is_late fixed.settings.stale_limit job.begun job.expect ≡ true
          → Gains clock clock' (tick.Taken later ∷ [])
          → PassFetch names fixed (caller_at p log faults clock) (caller_at q log' faults' clock') job
          (Err (StaleRead job.block expected shown job.begun))
      pass_fetch_stale expected shown is late gains =
          let other = shows_other job.expect
          (answer_digest fixed.geometry.block_size job.verify (shown_for answered bytes)) expected shown
          (sym answer ∙ is) in
          fetched (Err (StaleRead job.block expected shown job.begun)) None []
          (late_is_over fixed.settings.stale_limit job.begun job.expect _ late) refl gains (
            (
              (refl, ap is_taken is, other.digest_is),
              (refl, long_expected fixed.settings.stale_limit job.begun job.expect expected other.expected_is late),
              refl,
              other.other,
            ),
            (
              digest_none_fails fixed.geometry.block_size job.block job.verify answered bytes shown (is_taken outcome)
                  other.digest_is,
              ((λ fails. fails), tt),
            ),
          )

      -- it was stale, and is asked for anew behind a pause
      pub pass_fetch_paused : {between : Option (List Tick)} (expected shown : List ℕ)
          → outcome ≡ done.Stale expected shown
          → is_late fixed.settings.stale_limit job.begun job.expect ≡ false
          → Gains clock between (tick.Taken later ∷ []) → Gains between clock' (tick.Paused stale_pause ∷ [])
          → PassFetch names fixed (caller_at p log faults clock) (caller_at q log' faults' clock') job (Ok tt)
      pass_fetch_paused {between} expected shown is late gains paused =
          let other = shows_other job.expect
          (answer_digest fixed.geometry.block_size job.verify (shown_for answered bytes)) expected shown
          (sym answer ∙ is) in
          fetched (Ok tt) (Some stale_pause) (tick.Paused stale_pause ∷ [])
          (differs_in_time fixed.settings.stale_limit job.begun job.expect _ expected shown late other, refl)
          (inl (refl, tt))
          (gains_join clock between clock' (tick.Taken later ∷ []) (tick.Paused stale_pause ∷ []) gains paused) (
            digest_none_fails fixed.geometry.block_size job.block job.verify answered bytes shown (is_taken outcome)
                other.digest_is,
            ((λ fails. fails), tt),
          )

-- it failed
pub pass_fetch_failed : {g : Ghosts Core Timed Fixed} {p q : Pass Core Timed Fixed g} {names : Naming}
    {turn : Turn Core Timed Fixed} {fixed : Fixed} {log log' : Option (List Call)} {faults faults' : ℕ}
    {clock clock' : Option (List Tick)} (job : GetJob) (cause : LinkFault) (fault : CallFault) (bytes : List ℕ)
    (later reading : ℕ) (outcome : GetDone)
    → PassTurn p q later (get_end_entry (number p) reading job (shown_for (Err cause) bytes) outcome)
    → MayCall turn fixed q → IsOpenGet (seen_by p) (number p) job
    → Gains log log' (get_sent names job (Err cause) bytes ∷ [])
    → CountsFaults faults faults' (HasFailed {T = Got} (Err cause)) → Gains clock clock' (tick.Taken later ∷ [])
    → fault ≡ call_fault (fault_for cause)
    → PassFetch names fixed (caller_at p log faults clock) (caller_at q log' faults' clock') job (Err fault)
pass_fetch_failed {p = p} {names = names} {fixed = fixed} job cause fault bytes later reading outcome took may opened
    called counted gains is =
    fetched job (Err cause) bytes later reading outcome took may opened called counted (Err fault) None []
    (failure_agrees fixed.settings.stale_limit job.begun fixed.geometry.block_size job.expect job.verify) refl gains
    (fails_by (shared_base fixed) cause fault (ended_get (number p) job reading (Err cause) bytes (is_taken outcome))
    (began_get (number p) job ∷ []) (get_sent names job (Err cause) bytes) [] (tick.Taken later ∷ []) is tt refl
    ((λ fails. fails), tt))

-- a PUT ended so
pub pass_stores : {g : Ghosts Core Timed Fixed} {p q : Pass Core Timed Fixed g} {names : Naming} {fixed : Fixed}
    {log log' : Option (List Call)} {faults faults' : ℕ} {clock clock' : Option (List Tick)} (block : ℕ)
    (content : List ℕ) (later reading : ℕ) (sent : Result Unit LinkFault) (result : Result Unit FlushFault)
    → result ≡ put_result sent → Gains log log' (put_sent names block content sent ∷ [])
    → CountsFaults faults faults' (HasFailed sent) → PassTurn p q later (ended_put (number p) block reading sent)
    → Gains clock clock' (tick.Taken later ∷ [])
    → PassStore names fixed (caller_at p log faults clock) (caller_at q log' faults' clock') block content result
pass_stores {p = p} {q = q} {names = names} {fixed = fixed} {log = log} {log' = log'} {faults = faults}
    {faults' = faults'} {clock = clock} {clock' = clock'} block content later reading sent result is called counted
    turn gains =
    subst (λ (r : Result Unit FlushFault). PassStore names fixed (caller_at p log faults clock)
    (caller_at q log' faults' clock') block content r) (sym is) (record {
      sent = sent;
      called = called;
      counted = counted;
      later = later;
      reading = reading;
      turn = turn;
      readings = gains;
      cause = by sent;
    })
  where
    by : (of : Result Unit LinkFault) → CauseIf (shared_base fixed) (deed_of
        (ended_put (number p) block reading of ∷ []) (put_sent names block content of ∷ []) (tick.Taken later ∷ []))
        (as_call (put_result of))
    by (Ok done) = ((λ fails. cc), tt)
    by (Err fault) = fails_by (shared_base fixed) fault (call_fault (fault_for fault))
        (ended_put (number p) block reading (Err fault)) [] (put_sent names block content (Err fault)) []
        (tick.Taken later ∷ []) refl refl
        (put_fault (is_zeros content) (name_of names block) (meta_of (Some names.meta) block) content (Some fault)) tt
