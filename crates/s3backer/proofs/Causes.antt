-- What a run can't end with where no count of faults rose.
use Rattle.std.proofs.Common.{ℕ, ◌≡◌, ◌≢◌, ◌+◌, ◌-◌, ◌^◌, ◌≤◌, ◌⊎◌, suc, zero, nat_lt, Bool, true, false}
use Rattle.std.proofs.Common.{if◌then◌else◌, List, [], ◌∷◌, ◌++◌, Option, Some, None, Result, Ok, Err, refl, sym, ◌∙◌}
use Rattle.std.proofs.Common.{ap, subst, inl, inr, arith}
use Rattle.std.specs.List.{AllByRecursion}
use Rattle.std.proofs.Math.Nat.{min-le_left, min-le_right, le_trans}
use Rattle.sb_base.specs.declared.geometry.Geometry.{Geometry}
use Rattle.sb_base.specs.declared.entry.Entry.{Entry}
use Rattle.sb_world.specs.Told.{Rose}
use Rattle.sb_world.specs.declared.link.Call.{Call}
use Rattle.sb_world.specs.declared.link.LinkFault.{LinkFault}
use Rattle.sb_world.specs.declared.link.LinkFault.TheVariants as link
use Rattle.sb_nbd.specs.declared.wanted.Wanted.{Wanted}
use Rattle.sb_nbd.specs.Numbers.{einval, eio, enomem, enospc, eperm, max_payload}
use Rattle.sb_nbd.specs.Requests.{Request}
use Rattle.sb_crew.specs.Bases.{Base}
use Rattle.sb_crew.specs.declared.calls.CallFault.{CallFault}
use Rattle.sb_crew.specs.declared.calls.CallFault.TheVariants.{StoreFault, Memory, StaleRead, ClockStalled}
use Rattle.sb_crew.specs.declared.calls.FlushFault.{FlushFault}
use Rattle.sb_crew.specs.declared.calls.FlushFault.TheVariants as flush
use Rattle.sb_crew.specs.Scenes.{Deed}
use Rattle.sb_crew.specs.Outcomes.{Outcome, FailsBy, HasCause, Stops, GoalEnds}
use Rattle.sb_crew.specs.Counts.{is_failure, failures, Counts}
use Rattle.sb_crew.specs.Joins.{failures_join}
use Rattle.sb_nbd.specs.declared.end.NbdEnd.TheVariants as nbd
use Rattle.sb_session.specs.declared.end.SessionEnd.{SessionEnd}
use Rattle.sb_session.specs.declared.end.SessionEnd.TheVariants as end
use Rattle.sb_session.specs.Goals.{passes_end, write_verdict, verdict_of, verdict_as, verdict, goal_of, body_of}
use Rattle.sb_nbd.specs.Commands.{command_of, has_other_flags}
use Rattle.sb_nbd.specs.declared.command.Command.{Command}
use Rattle.sb_nbd.specs.declared.command.Command.TheVariants as command
use Rattle.sb_session.specs.Answers.{AnswersBy, IsReplyTo, error_of}
use Rattle.sb_session.specs.Streams.{Streams}
use Rattle.sb_session.specs.Transcripts.{Exchange, IsTranscript, deed_in}
use Rattle.sb_session.specs.Sessions.{Course}
use Rattle.s3backer.specs.Headline.{flush_status, run_status, NoneFailed, FailsByTime, LastFlushEnds}
use Rattle.s3backer.specs.Headline.{IsClientFault}

-- a sum of nothing has nothing in it
pub sum_nothing : (m n : ℕ) → m + n ≡ 0 → (m ≡ 0) × (n ≡ 0)
sum_nothing zero zero is = (refl, refl)
sum_nothing zero (suc n) is = absurd (omega (arith, is))
sum_nothing (suc m) n is = absurd (omega (arith, is))

-- a count that didn't rise leaves no room for a failure
none_risen : (before now n : ℕ) → (Rose before now → ⊥) → before + n ≤ now → n ≡ 0
none_risen before now zero quiet low = refl
none_risen before now (suc n) quiet low =
    absurd (quiet (le_trans (min-le_left (before + 1) (2 ^ 64 - 1)) (omega (arith, low))))

pub quiet_has_none : (before now : ℕ) (calls : List Call) → (Rose before now → ⊥) → Counts before now calls
    → failures calls ≡ 0
quiet_has_none before now calls quiet counts = by counts.risen where
  by : (before + failures calls ≤ now) ⊎ (2 ^ 64 - 1 ≤ now) → failures calls ≡ 0
  by (inl low) = none_risen before now (failures calls) quiet low
  by (inr high) = absurd (quiet (le_trans (min-le_right (before + 1) (2 ^ 64 - 1)) high))

-- a failed call is one
call_fails : (status : ℕ) (entries : List Entry) (calls : List Call) → FailsBy (link.Failed status) entries calls
    → failures calls ≡ 0 → ⊥
call_fails status [] calls cause none = cause
call_fails status (entry ∷ entries) [] cause none = cause
call_fails status (entry ∷ entries) (asked ∷ calls) cause none =
    let P : Option LinkFault → Type 0 = λ fault. (if is_failure fault then 1 else 0) + failures calls ≡ 0 in
    let one : 1 + failures calls ≡ 0 = subst P cause.1 none in
    omega (arith, one)

pub cause_fails : (base : Base) (status : ℕ) (deed : Deed) → HasCause base (StoreFault status) deed
    → failures deed.calls ≡ 0 → ⊥
cause_fails base status deed cause none = call_fails status deed.entries deed.calls cause none

-- no request is refused by the error of a store that failed
abbrev IsOtherCode : Result Command ℕ → Type 0
IsOtherCode (Ok command) = Unit {0}
IsOtherCode (Err code) = code ≢ eio

record IsOther (judged : Result Command ℕ) : Type 0 where
  code : IsOtherCode judged

either_other : (t : Bool) (x y : Result Command ℕ) → IsOther x → IsOther y → IsOther (if t then x else y)
either_other true x y first second = first
either_other false x y first second = second

invalid_is_other : IsOther (Err einval)
invalid_is_other = record { code = λ is. absurd (omega (arith, is)) }

no_permission_is_other : IsOther (Err eperm)
no_permission_is_other = record { code = λ is. absurd (omega (arith, is)) }

no_space_is_other : IsOther (Err enospc)
no_space_is_other = record { code = λ is. absurd (omega (arith, is)) }

served_is_other : (command : Command) → IsOther (Ok command)
served_is_other command = record { code = tt }

write_otherwise : (read_only : Bool) (geometry : Geometry) (w : Wanted) (command : Command) (error : ℕ)
    → IsOther (Err error) → IsOther (write_verdict read_only geometry w command error)
write_otherwise read_only geometry w command error other =
    either_other read_only _ _ no_permission_is_other
    (either_other (passes_end geometry w) _ _ other (served_is_other command))

command_otherwise : (read_only : Bool) (geometry : Geometry) (w : Wanted) (asked : Command)
    → IsOther (verdict_of read_only geometry w asked)
command_otherwise read_only geometry w command.Read =
    either_other (nat_lt max_payload w.length) _ _ invalid_is_other
    (either_other (passes_end geometry w) _ _ invalid_is_other (served_is_other command.Read))
command_otherwise read_only geometry w command.Write =
    write_otherwise read_only geometry w command.Write enospc no_space_is_other
command_otherwise read_only geometry w command.Trim = write_otherwise read_only geometry w command.Trim einval invalid_is_other
command_otherwise read_only geometry w command.WriteZeroes =
    write_otherwise read_only geometry w command.WriteZeroes enospc no_space_is_other
command_otherwise read_only geometry w command.Flush = served_is_other command.Flush
command_otherwise read_only geometry w command.Disc = served_is_other command.Disc

refused_as : (read_only : Bool) (geometry : Geometry) (w : Wanted) (command : Option Command)
    → IsOther (verdict_as read_only geometry w command)
refused_as read_only geometry w None = invalid_is_other
refused_as read_only geometry w (Some command) =
    either_other (has_other_flags command w.flags) _ _ invalid_is_other (command_otherwise read_only geometry w command)

refused_otherwise : (read_only : Bool) (geometry : Geometry) (w : Wanted) → IsOther (verdict read_only geometry w)
refused_otherwise read_only geometry w = refused_as read_only geometry w (command_of w.kind)

-- the reply to a request none of whose calls failed
memory_is_other : enomem ≢ eio
memory_is_other is = absurd (omega (arith, is))

none_is_other : 0 ≢ eio
none_is_other is = absurd (omega (arith, is))

-- the reply to a request none of whose calls failed
number_otherwise : (base : Base) (goal : List Outcome) (deed : Deed) (fault : CallFault) (error : ℕ)
    → Stops base goal deed fault → error ≡ error_of fault → failures deed.calls ≡ 0
    → (error ≢ eio) ⊎ FailsByTime base deed
number_otherwise base goal deed (StoreFault status) error stops is none =
    absurd (cause_fails base status deed stops.cause none)
number_otherwise base goal deed Memory error stops is none =
    inl (subst (λ (n : ℕ). n ≢ eio) (sym is) memory_is_other)
number_otherwise base goal deed (StaleRead block expected shown begun) error stops is none =
    inr (record { fault = StaleRead block expected shown begun; of_time = tt; cause = stops.cause })
number_otherwise base goal deed (ClockStalled before asked after) error stops is none =
    inr (record { fault = ClockStalled before asked after; of_time = tt; cause = stops.cause })

answer_otherwise : (base : Base) (goal : List Outcome) (bytes : List ℕ) (deed : Deed) (error : ℕ) (body : List ℕ)
    (result : Result Unit CallFault) → failures deed.calls ≡ 0 → GoalEnds base goal result deed
    → IsReplyTo result bytes error body → (error ≢ eio) ⊎ FailsByTime base deed
answer_otherwise base goal bytes deed error body (Ok done) none ends reply =
    inl (subst (λ (n : ℕ). n ≢ eio) (sym reply.0) none_is_other)
answer_otherwise base goal bytes deed error body (Err fault) none ends reply =
    number_otherwise base goal deed fault error ends reply.0 none

reply_otherwise : (judged : Result Command ℕ) → IsOther judged → (base : Base) (r : Request) (error : ℕ) (body : List ℕ)
    (deed : Deed) → failures deed.calls ≡ 0 → AnswersBy judged base r error body deed
    → (error ≢ eio) ⊎ FailsByTime base deed
reply_otherwise (Err code) other base r error body deed none answer =
    inl (subst (λ (n : ℕ). n ≢ eio) (sym answer.number) other.code)
reply_otherwise (Ok command) other base r error body deed none answer =
    answer_otherwise base (goal_of base.geometry r answer.0 command) (body_of command deed.entries) deed error body
    answer.1.result none answer.1.ends answer.1.reply

replies_otherwise : (read_only : Bool) (base : Base) (xs : List Exchange) → failures (deed_in xs).calls ≡ 0
    → IsTranscript read_only base xs
    → AllByRecursion (λ x. (x.error ≢ eio) ⊎ FailsByTime base x.deed) xs
replies_otherwise read_only base [] none answered = tt
replies_otherwise read_only base (x ∷ xs) none answered =
    let parts = sum_nothing (failures x.deed.calls) (failures (deed_in xs).calls)
    (sym (failures_join x.deed.calls (deed_in xs).calls) ∙ none) in (
      reply_otherwise (verdict read_only base.geometry x.request.wanted)
          (refused_otherwise read_only base.geometry x.request.wanted) base x.request
          x.error x.body x.deed parts.0 answered.0.answer,
      replies_otherwise read_only base xs parts.1 answered.1,
    )

-- without a fault of the store no reply tells one
pub none_failed : {read_only : Bool} {base : Base} {before after : Streams} {ended : SessionEnd} {deed : Deed}
    (course : Course read_only base before after ended deed) (faults faults' : ℕ) (flush_calls : List Call)
    → (Rose faults faults' → ⊥) → Counts faults faults' (flush_calls ++ deed.calls) → NoneFailed course
none_failed (inl unserved) faults faults' flush_calls quiet counts = tt
none_failed {read_only} {base} {deed = deed} (inr served) faults faults' flush_calls quiet counts =
    let none = quiet_has_none faults faults' (flush_calls ++ deed.calls) quiet counts in
    let parts = sum_nothing (failures flush_calls) (failures deed.calls)
    (sym (failures_join flush_calls deed.calls) ∙ none) in
    replies_otherwise read_only base served.transcript
    (ap (λ (d : Deed). failures d.calls) (sym served.deed_is) ∙ parts.1) served.answered

-- a flush none of whose calls failed ended well, or lacked memory, or its clock stood still
flushed_well : (read_only : Bool) (base : Base) (flushed : Result Unit FlushFault) (deed : Deed)
    → LastFlushEnds read_only base flushed deed → failures deed.calls ≡ 0
    → (flush_status flushed ≡ 0) ⊎ ((flush_status flushed ≡ 12) ⊎ (flush_status flushed ≡ 11))
flushed_well true base flushed deed ends none = inl (ap flush_status ends.0)
flushed_well false base (Ok done) deed ends none = inl refl
flushed_well false base (Err (flush.StoreFault status)) deed ends none =
    absurd (cause_fails base status deed ends.1.cause none)
flushed_well false base (Err flush.Memory) deed ends none = inr (inl refl)
flushed_well false base (Err (flush.ClockStalled before asked after)) deed ends none = inr (inr refl)

-- without any fault, and of an input of messages that isn't too long, a run ends well or lacks memory, or its
-- clock stands still
pub ended_well : (read_only : Bool) (base : Base) (ended : SessionEnd) (flushed : Result Unit FlushFault) (deed : Deed)
    (calls : List Call) (faults faults' : ℕ) {Read Written : Type 0} → LastFlushEnds read_only base flushed deed
    → (Rose faults faults' → ⊥) → Counts faults faults' (deed.calls ++ calls)
    → (ended ≡ end.Fault nbd.ReadFault → Read) → (ended ≡ end.Fault nbd.WriteFault → Written) → (Read → ⊥)
    → (Written → ⊥) → (IsClientFault ended → ⊥) → (run_status ended flushed ≡ 0)
    ⊎ ((run_status ended flushed ≡ 12) ⊎ (run_status ended flushed ≡ 11))
ended_well read_only base ended flushed deed calls faults faults' {Read = Read} {Written = Written} ends quiet counts
    at_read at_write read written sound =
    by ended at_read at_write sound where
      none : failures deed.calls ≡ 0
      none = (sum_nothing (failures deed.calls) (failures calls)
          (sym (failures_join deed.calls calls) ∙ quiet_has_none faults faults' (deed.calls ++ calls) quiet counts)).0

      by : (e : SessionEnd) → (e ≡ end.Fault nbd.ReadFault → Read) → (e ≡ end.Fault nbd.WriteFault → Written)
          → (IsClientFault e → ⊥)
          → (run_status e flushed ≡ 0) ⊎ ((run_status e flushed ≡ 12) ⊎ (run_status e flushed ≡ 11))
      by end.Disconnected at_read at_write sound = flushed_well read_only base flushed deed ends none
      by end.Aborted at_read at_write sound = flushed_well read_only base flushed deed ends none
      by end.Ended at_read at_write sound = flushed_well read_only base flushed deed ends none
      by (end.NoSuchExport size) at_read at_write sound = absurd (sound tt)
      by (end.Fault nbd.Ended) at_read at_write sound = absurd (sound tt)
      by (end.Fault (nbd.Cut got)) at_read at_write sound = absurd (sound tt)
      by (end.Fault (nbd.BadMagic magic)) at_read at_write sound = absurd (sound tt)
      by (end.Fault (nbd.BadFlags flags)) at_read at_write sound = absurd (sound tt)
      by (end.Fault (nbd.TooBig size)) at_read at_write sound = absurd (sound tt)
      by (end.Fault nbd.ReadFault) at_read at_write sound = absurd (read (at_read refl))
      by (end.Fault nbd.WriteFault) at_read at_write sound = absurd (written (at_write refl))
      by end.Spent at_read at_write sound = absurd (sound tt)
