-- What has been tried, attempt by attempt.
use Rattle.std.proofs.Common.{ℕ, suc, ◌≤◌, inl, inr, List, [], ◌∷◌, ◌++◌}
use Rattle.std.proofs.Common.{Option, refl, sym, ap, subst, ◌∙◌, append_assoc, arith}
use Rattle.sb_world.specs.Told.{Gains, Rose, CountsFaults}
use Rattle.sb_world.specs.declared.link.Call.{Call}
use Rattle.sb_world.specs.declared.link.LinkFault.{LinkFault}
use Rattle.sb_retry.specs.declared.schedule.Schedule.{Schedule}
use Rattle.sb_retry.specs.Attempts.{Asked, HasTried, Tries, Follows, Ends}
use Rattle.sb_retry.proofs.Left.{pauses_left}

-- nothing was gained
pub gains_nothing : {X : Type 0} (list : Option (List X)) → Gains list list []
gains_nothing list = record { told = λ items is. (items, is, refl) }

-- what was gained first and then is gained together
pub gains_join : {X : Type 0} {before between now : Option (List X)} {first next : List X} → Gains before between first
    → Gains between now next → Gains before now (next ++ first)
gains_join {before = before} {first = first} {next = next} early late = record {
  told = λ items is.
      let step = late.told items is in
      let start = early.told step.0 step.1 in
      (start.0, start.1, step.2 ∙ ap (λ behind. next ++ behind) start.2 ∙ sym (append_assoc next first start.0));
}

-- a count of faults is later than it was before
pub counts_later : {before between now : ℕ} {failed : Type 0} → before ≤ between → CountsFaults between now failed
    → CountsFaults before now failed
counts_later {before} {between} {now} {failed} earlier counts = record {
  later = let later : between ≤ now = counts.later in omega arith;
  rises = λ fails. let rose : Rose between now = counts.rises fails in omega arith;
}

-- nothing has been tried
pub begins : {R : Type 0} (request : R → Call) (fault : R → Option LinkFault) (schedule : Schedule) (asked : Asked)
    → HasTried request fault schedule asked asked schedule
begins request fault schedule asked = record {
  failed = [];
  made = [];
  failures = record { each = tt; paused = refl };
  scheduled = λ left has. has;
  attempts = gains_nothing asked.calls;
  pauses = gains_nothing asked.ticks;
}

-- another attempt failed, and a pause came behind it
pub goes_on : {R : Type 0} {request : R → Call} {fault : R → Option LinkFault} {schedule rest rest' : Schedule}
    {before between now : Asked} → HasTried request fault schedule before between rest → (reply : R)
    → Gains between.calls now.calls (request reply ∷ [])
    → Follows (fault reply) rest rest' between.ticks now.ticks → HasTried request fault schedule before now rest'
goes_on tried reply called follows = record {
  failed = reply ∷ tried.failed;
  made = follows.pause ∷ tried.made;
  failures = record { each = (follows.passes, tried.failures.each); paused = ap suc tried.failures.paused };
  scheduled = λ left has. tried.scheduled (follows.pause ∷ left) (follows.taken.first left has);
  attempts = gains_join tried.attempts called;
  pauses = gains_join tried.pauses follows.paused;
}

-- no pause is left, or the pauses that are left are told
pub ends : {R : Type 0} {request : R → Call} {fault : R → Option LinkFault} {schedule rest : Schedule}
    {before between now : Asked} → HasTried request fault schedule before between rest → (reply : R)
    → Gains between.calls now.calls (request reply ∷ [])
    → Ends (fault reply) rest between.ticks now.ticks → Tries request fault schedule before now reply
ends {request = request} {fault} {schedule} {rest} {before} {between} {now} tried reply called over =
    let some = pauses_left rest in
    let still : Gains between.ticks now.ticks [] =
    subst (λ ticks. Gains between.ticks ticks []) (sym over.still) (gains_nothing between.ticks) in
    elim over.why as (λ _. Tries request fault schedule before now reply) [
      | inl passes ↦ record {
        failed = tried.failed;
        made = tried.made;
        left = some.0;
        failures = tried.failures;
        scheduled = tried.scheduled some.0 some.1;
        attempts = gains_join tried.attempts called;
        pauses = gains_join tried.pauses still;
        ends = inl passes;
      }
      | inr none ↦ record {
        failed = tried.failed;
        made = tried.made;
        left = [];
        failures = tried.failures;
        scheduled = tried.scheduled [] none;
        attempts = gains_join tried.attempts called;
        pauses = gains_join tried.pauses still;
        ends = inr refl;
      }
    ]
