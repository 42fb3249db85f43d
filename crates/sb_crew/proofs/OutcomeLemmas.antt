-- What the entries of two runs came to.
use Rattle.std.proofs.Common.{ℕ, ◌≡◌, Bool, true, false, List, [], ◌∷◌, ◌++◌, refl, sym, ◌∙◌, ap, subst, append_assoc}
use Rattle.std.proofs.Common.{append-nil}
use Rattle.std.specs.List.{AllByRecursion}
use Rattle.sb_base.specs.declared.part.Part.{Part}
use Rattle.sb_base.specs.declared.entry.Entry.{Entry}
use Rattle.sb_world.specs.declared.clock.Tick.{Tick}
use Rattle.sb_world.specs.declared.clock.Tick.TheVariants as tick
use Rattle.sb_world.specs.declared.link.Call.{Call}
use Rattle.sb_world.specs.declared.link.LinkFault.{LinkFault}
use Rattle.sb_world.specs.declared.link.LinkFault.TheVariants as link
use Rattle.sb_crew.specs.Bases.{Base}
use Rattle.sb_crew.specs.declared.calls.CallFault.{CallFault}
use Rattle.sb_crew.specs.declared.calls.CallFault.TheVariants.{StoreFault, Memory, StaleRead, ClockStalled}
use Rattle.sb_crew.specs.Outcomes.{outcomes_of, bytes_read, blocks_asked, outcome_of, bytes_of, asked_of, IsBlockOf}
use Rattle.sb_crew.specs.Outcomes.{AsksOnly, FailsBy, IsStale, IsStalled, HasCause, PausesReach, ReachesBefore}
use Rattle.sb_crew.specs.Outcomes.{NoneFail, ReachesBut, PausesReachIf, ReachesButIf}
use Rattle.sb_crew.specs.Scenes.{Deed, followed}

-- the outcomes of two runs
pub outcomes_join : (ys xs : List Entry) → outcomes_of (ys ++ xs) ≡ outcomes_of ys ++ outcomes_of xs
outcomes_join [] xs = refl
outcomes_join (y ∷ ys) xs =
    ap (λ os. outcome_of y.kind ++ os) (outcomes_join ys xs)
    ∙ sym (append_assoc (outcome_of y.kind) (outcomes_of ys) (outcomes_of xs))

-- the bytes of two runs
pub bytes_join : (ys xs : List Entry) → bytes_read (ys ++ xs) ≡ bytes_read xs ++ bytes_read ys
bytes_join [] xs = sym (append-nil (bytes_read xs))
bytes_join (y ∷ ys) xs =
    ap (λ bs. bs ++ bytes_of y.kind) (bytes_join ys xs)
    ∙ append_assoc (bytes_read xs) (bytes_read ys) (bytes_of y.kind)

all_join : (P : ℕ → Type 0) (bs cs : List ℕ) → AllByRecursion P bs → AllByRecursion P cs → AllByRecursion P (bs ++ cs)
all_join P [] cs first second = second
all_join P (b ∷ bs) cs first second = (first.0, all_join P bs cs first.1 second)

asked_join : (ys xs : List Entry) → blocks_asked (ys ++ xs) ≡ blocks_asked ys ++ blocks_asked xs
asked_join [] xs = refl
asked_join (y ∷ ys) xs =
    ap (λ bs. asked_of y.kind ++ bs) (asked_join ys xs)
    ∙ sym (append_assoc (asked_of y.kind) (blocks_asked ys) (blocks_asked xs))

-- two runs that ask for no other blocks
pub asks_join : (parts : List Part) (xs ys : List Entry) → AsksOnly parts xs → AsksOnly parts ys
    → AsksOnly parts (ys ++ xs)
asks_join parts xs ys first second =
    let P : List ℕ → Type 0 = λ bs. AllByRecursion (IsBlockOf parts) bs in
    record {
      asked = subst P (sym (asked_join ys xs))
          (all_join (IsBlockOf parts) (blocks_asked ys) (blocks_asked xs) second.asked first.asked);
    }

-- no request failed in either run
pub none_fail_join : (ys xs : List Entry) → NoneFail ys → NoneFail xs → NoneFail (ys ++ xs)
none_fail_join [] xs first second = second
none_fail_join (y ∷ ys) xs first second = (first.0, none_fail_join ys xs first.1 second)

-- the newest entries, call and ticks are those of the later run
fails_still : (fault : LinkFault) (xs ys : List Entry) (us vs : List Call) → NoneFail xs → FailsBy fault ys vs
    → FailsBy fault (ys ++ xs) (vs ++ us)
fails_still fault xs [] us vs none cause = absurd cause
fails_still fault xs (y ∷ ys) us [] none cause = absurd cause
fails_still fault xs (y ∷ ys) us (v ∷ vs) none cause = (cause.0, cause.1, none_fail_join ys xs cause.2 none)

stale_still : (base : Base) (block : ℕ) (expected shown : List ℕ) (begun : ℕ) (xs ys : List Entry)
    → IsStale base block expected shown begun ys → IsStale base block expected shown begun (ys ++ xs)
stale_still base block expected shown begun xs [] cause = absurd cause
stale_still base block expected shown begun xs (y ∷ []) cause = absurd cause
stale_still base block expected shown begun xs (y ∷ z ∷ ys) cause = cause

stalled_still : (before asked after : ℕ) (xs ys : List Entry) (ss ts : List Tick)
    → IsStalled before asked after ys ts → IsStalled before asked after (ys ++ xs) (ts ++ ss)
stalled_still before asked after xs [] ss ts cause = absurd cause
stalled_still before asked after xs (y ∷ ys) ss ts cause =
    (cause.0, (cause.1.0 ++ ss, ap (λ (ticks : List Tick). ticks ++ ss) cause.1.1, cause.1.2))

pub cause_stays : (base : Base) (fault : CallFault) (x y : Deed) → NoneFail x.entries → HasCause base fault y
    → HasCause base fault (followed x y)
cause_stays base (StoreFault status) x y none cause =
    fails_still (link.Failed status) x.entries y.entries x.calls y.calls none cause
cause_stays base Memory x y none cause = fails_still link.Memory x.entries y.entries x.calls y.calls none cause
cause_stays base (StaleRead block expected shown begun) x y none cause = (
  stale_still base block expected shown begun x.entries y.entries cause.0,
  none_fail_join y.entries x.entries cause.1 none,
)
cause_stays base (ClockStalled before asked after) x y none cause = (
  stalled_still before asked after x.entries y.entries x.ticks y.ticks cause.0,
  none_fail_join y.entries x.entries cause.1 none,
  cause.2,
)

-- pauses that reach, behind others that do
pub reaches_join : (ss ts : List Tick) → PausesReach ss → PausesReach ts → PausesReach (ts ++ ss)
reaches_join ss [] first second = first
reaches_join ss (tick.Paused millis ∷ ts) first second = absurd second
reaches_join [] (tick.Taken after ∷ []) first second = tt
reaches_join (tick.Taken before ∷ ss) (tick.Taken after ∷ []) first second = first
reaches_join (tick.Paused millis ∷ ss) (tick.Taken after ∷ []) first second = absurd first
reaches_join ss (tick.Taken after ∷ tick.Taken before ∷ ts) first second =
    reaches_join ss (tick.Taken before ∷ ts) first second
reaches_join ss (tick.Taken after ∷ tick.Paused millis ∷ []) first second = absurd second
reaches_join ss (tick.Taken after ∷ tick.Paused millis ∷ tick.Paused other ∷ ts) first second = absurd second
reaches_join ss (tick.Taken after ∷ tick.Paused millis ∷ tick.Taken before ∷ ts) first second =
    (second.0, reaches_join ss (tick.Taken before ∷ ts) first second.1)

before_join : (ss ts : List Tick) → PausesReach ss → ReachesBefore ts → ReachesBefore (ts ++ ss)
before_join ss [] first second = absurd second
before_join ss (tick.Paused millis ∷ ts) first second = absurd second
before_join ss (tick.Taken after ∷ []) first second = absurd second
before_join ss (tick.Taken after ∷ tick.Taken before ∷ ts) first second = absurd second
before_join ss (tick.Taken after ∷ tick.Paused millis ∷ ts) first second = reaches_join ss ts first second

pub reaches_but_join : (fault : CallFault) (ss ts : List Tick) → PausesReach ss → ReachesBut fault ts
    → ReachesBut fault (ts ++ ss)
reaches_but_join (StoreFault status) ss ts first second = reaches_join ss ts first second
reaches_but_join Memory ss ts first second = reaches_join ss ts first second
reaches_but_join (StaleRead block expected shown begun) ss ts first second = reaches_join ss ts first second
reaches_but_join (ClockStalled before asked after) ss ts first second = before_join ss ts first second

-- the same of one of many callers, or of one alone
pub reaches_if_none : (alone : Bool) → PausesReachIf alone []
reaches_if_none true = tt
reaches_if_none false = tt

pub reaches_if_join : (alone : Bool) (ss ts : List Tick) → PausesReachIf alone ss → PausesReachIf alone ts
    → PausesReachIf alone (ts ++ ss)
reaches_if_join true ss ts first second = reaches_join ss ts first second
reaches_if_join false ss ts first second = tt

pub reaches_but_if_join : (alone : Bool) (fault : CallFault) (ss ts : List Tick) → PausesReachIf alone ss
    → ReachesButIf alone fault ts → ReachesButIf alone fault (ts ++ ss)
reaches_but_if_join true fault ss ts first second = reaches_but_join fault ss ts first second
reaches_but_if_join false fault ss ts first second = tt
