-- What holds at the begin of each attempt.
use Rattle.std.proofs.Common.{ℕ, ◌≡◌, ◌≤◌, Bool, true, List, [], ◌∷◌, Option, Some, None, Result, Ok, Err, IfSome, IfErr, refl, sym, ap, subst, ◌∙◌, arith}
use Rattle.sb_world.specs.Told.{Gains, CountsFaults}
use Rattle.sb_world.specs.declared.clock.Tick.{Tick}
use Rattle.sb_world.specs.declared.link.Call.{Call}
use Rattle.sb_world.specs.declared.link.LinkFault.{LinkFault}
use Rattle.sb_world.specs.declared.link.Got.{Got}
use Rattle.sb_world.specs.declared.link.Got.TheVariants as got
use Rattle.sb_world.specs.declared.link.HeadText.{HeadText}
use Rattle.sb_world.specs.Calls.{fault_of, get_reply, head_reply, list_reply}
use Rattle.sb_retry.specs.declared.schedule.Schedule.{Schedule}
use Rattle.sb_retry.specs.declared.retry.Retry.{Retry}
use Rattle.sb_retry.specs.Transient.{may_pass, get_fault, head_fault, list_fault}
use Rattle.sb_retry.specs.Attempts.{HasTried, Tries, Follows, Ends, asked_of}
use Rattle.sb_retry.proofs.Trying.{begins, goes_on, ends}

-- a request has been tried so often, the count of faults is no less, and the pauses and the log are as before
pub record Stands {L C R : Type 0} (log : L → Option (List Call)) (ticks : C → Option (List Tick)) (faults : L → ℕ)
    (request : R → Call) (fault : R → Option LinkFault) (old new : Retry L C) (rest : Schedule) : Type 0 where
  pub tried : HasTried request fault old.schedule (asked_of log ticks old) (asked_of log ticks new) rest
  pub counted : faults old.link ≤ faults new.link
  pub same_schedule : new.schedule ≡ old.schedule
  pub same_log : new.log ≡ old.log

-- nothing was tried yet
pub stands_first : {L C R : Type 0} {log : L → Option (List Call)} {ticks : C → Option (List Tick)} {faults : L → ℕ}
    (request : R → Call) (fault : R → Option LinkFault) (retry : Retry L C)
    → Stands log ticks faults request fault retry retry retry.schedule
stands_first {log = log} {ticks = ticks} request fault retry = record {
  tried = begins request fault retry.schedule (asked_of log ticks retry);
  counted = omega arith;
  same_schedule = refl;
  same_log = refl;
}

-- another attempt follows one that was answered so
pub stands_next : {L C R : Type 0} {log : L → Option (List Call)} {ticks : C → Option (List Tick)} {faults : L → ℕ}
    {request : R → Call} {fault : R → Option LinkFault} {old mid new : Retry L C} {link : L} {rest rest' : Schedule}
    {failed : Type 0} {cause : Option LinkFault}
    → Stands log ticks faults request fault old mid rest → (reply : R) → cause ≡ fault reply
    → Gains (log mid.link) (log link) (request reply ∷ []) → CountsFaults (faults mid.link) (faults link) failed
    → Follows cause rest rest' (ticks mid.clock) (ticks new.clock)
    → (new.link ≡ link) × (new.schedule ≡ mid.schedule) × (new.log ≡ mid.log)
    → Stands log ticks faults request fault old new rest'
stands_next {L} {log = log} {ticks} {faults} {request} {fault} {old} {mid} {new} {link} {rest} {rest'} stands reply is
    called counts follows stays =
    let followed = subst (λ (cause : Option LinkFault). Follows cause rest rest' (ticks mid.clock) (ticks new.clock)) is follows in
    let gained : Gains (log mid.link) (log new.link) (request reply ∷ []) =
    subst (λ (now : L). Gains (log mid.link) (log now) (request reply ∷ [])) (sym stays.0) called in
    let later : faults mid.link ≤ faults link = counts.later in
    let before : faults old.link ≤ faults mid.link = stands.counted in
    let same : faults new.link ≡ faults link = ap faults stays.0 in
    record {
      tried = goes_on stands.tried reply gained followed;
      counted = omega arith;
      same_schedule = stays.1 ∙ stands.same_schedule;
      same_log = stays.2 ∙ stands.same_log;
    }

-- no attempt follows one that was answered so
pub stands_last : {L C R : Type 0} {log : L → Option (List Call)} {ticks : C → Option (List Tick)} {faults : L → ℕ}
    {request : R → Call} {fault : R → Option LinkFault} {old mid new : Retry L C} {link : L} {rest : Schedule}
    {cause : Option LinkFault}
    → Stands log ticks faults request fault old mid rest → (reply : R) → cause ≡ fault reply
    → Gains (log mid.link) (log link) (request reply ∷ [])
    → Ends cause rest (ticks mid.clock) (ticks new.clock)
    → (new.link ≡ link) × (new.schedule ≡ mid.schedule) × (new.log ≡ mid.log)
    → Tries request fault old.schedule (asked_of log ticks old) (asked_of log ticks new) reply
stands_last {L} {log = log} {ticks} {request = request} {mid = mid} {new} {rest = rest} stands reply is called over stays =
    let ended = subst (λ (cause : Option LinkFault). Ends cause rest (ticks mid.clock) (ticks new.clock)) is over in
    let gained : Gains (log mid.link) (log new.link) (request reply ∷ []) =
    subst (λ (now : L). Gains (log mid.link) (log now) (request reply ∷ [])) (sym stays.0) called in
    ends stands.tried reply gained ended

-- a reply tells the fault of the answer
pub got_fault : (result : Result Got LinkFault) (out : List ℕ) → fault_of result ≡ get_fault (get_reply result out)
got_fault (Ok got.Absent) out = refl
got_fault (Ok got.Bytes) out = refl
got_fault (Ok got.Same) out = refl
got_fault (Err fault) out = refl

pub headed_fault : (result : Result (Option HeadText) LinkFault) → fault_of result ≡ head_fault (head_reply result)
headed_fault (Ok None) = refl
headed_fault (Ok (Some texts)) = refl
headed_fault (Err fault) = refl

pub listed_fault : (result : Result Bool LinkFault) (names : List (List ℕ))
    → fault_of result ≡ list_fault (list_reply result names)
listed_fault (Ok more) names = refl
listed_fault (Err fault) names = refl

-- a buffer is as it was
pub is_spared : {D : Type 0} (verify : Option D) (out : List ℕ) → IfSome verify (λ digest. out ≡ out)
is_spared None out = tt
is_spared (Some digest) out = refl

-- a buffer is as it was where it was before, and the attempt failed and spared it
pub stays_spared : {D : Type 0} (verify : Option D) (result : Result Got LinkFault) (old mid new : List ℕ)
    → IfSome verify (λ digest. mid ≡ old) → IfSome verify (λ digest. IfErr result (λ fault. new ≡ mid))
    → may_pass (fault_of result) ≡ true → IfSome verify (λ digest. new ≡ old)
stays_spared None result old mid new before after passes = tt
stays_spared (Some digest) (Ok got) old mid new before after passes = cc
stays_spared (Some digest) (Err fault) old mid new before after passes = after ∙ before
