-- What a pause is in the clock's trace, and when a call fails by it.
use Rattle.std.proofs.Common.{ℕ, ◌≡◌, true, List, [], ◌∷◌, ◌++◌, Option, Some, Result, Ok, Err, refl, sym}
use Rattle.std.proofs.Common.{subst, inl, inr}
use Rattle.sb_base.specs.declared.entry.Entry.{Entry}
use Rattle.sb_world.specs.Told.{Gains}
use Rattle.sb_world.specs.declared.clock.Tick.{Tick}
use Rattle.sb_world.specs.declared.clock.Tick.TheVariants as tick
use Rattle.sb_world.specs.declared.link.Call.{Call}
use Rattle.sb_history.specs.ClockTrace.{PauseTicks}
use Rattle.sb_crew.specs.Bases.{Base}
use Rattle.sb_crew.specs.Scenes.{deed_of}
use Rattle.sb_crew.specs.declared.calls.FlushFault.{FlushFault}
use Rattle.sb_crew.specs.Answers.{as_call, call_fault}
use Rattle.sb_crew.specs.Outcomes.{PausesFor, HasCause, NoneFail, ReachesBut}
use Rattle.sb_crew.specs.Runs.{next_ticks}
use Rattle.sb_crew.specs.Turns.{next_of, RequestEnds, KeepsReaching, Pauses, PauseEnds}

-- the ticks of a pause in a trace, the next reading, and the cause where it comes short
pub record IsPaused (clock clock' : Option (List Tick)) (now millis : ℕ) (result : Result ℕ FlushFault) : Type 0 where
  pub after : List Tick
  pub paused : PauseTicks true now (next_of (as_call result)) (Some millis) after
  pub readings : Gains clock clock' (next_ticks (next_of (as_call result)) ++ after)
  pub cause : (base : Base) → base.alone ≡ true → (entry : Entry) (entries : List Entry) (calls : List Call)
      (ticks : List Tick) → PausesFor now millis entry.kind → NoneFail (entry ∷ entries)
      → RequestEnds base (deed_of (entry ∷ entries) calls (after ++ tick.Taken now ∷ ticks)) (as_call result)
  pub reaches : KeepsReaching now after (as_call result)

pub is_paused : (clock clock' : Option (List Tick)) (now millis : ℕ) (result : Result ℕ FlushFault) (ticks : List Tick)
    → Gains clock clock' ticks → PauseEnds now millis ticks result → IsPaused clock clock' now millis result
is_paused clock clock' now millis (Ok next) ticks gained ends = record {
  after = tick.Paused millis ∷ [];
  paused = inl (refl, ends.1);
  readings = subst (Gains clock clock') ends.0 gained;
  cause = λ base alone entry entries calls ticks pauses none. none;
  reaches = λ earlier reached. (ends.1, reached);
}
is_paused clock clock' now millis (Err fault) ticks gained ends = record {
  after = tick.Taken ends.0 ∷ tick.Paused millis ∷ [];
  paused = inr (ends.0, ends.2, refl);
  readings = subst (Gains clock clock') ends.3 gained;
  cause = λ base alone entry entries calls earlier pauses none.
      let behind = tick.Taken ends.0 ∷ tick.Paused millis ∷ tick.Taken now ∷ earlier in
      subst (λ (f : FlushFault). HasCause base (call_fault f) (deed_of (entry ∷ entries) calls behind)) (sym ends.1)
      ((pauses, (earlier, refl, ends.2)), none, alone);
  reaches = λ earlier reached.
      let behind = tick.Taken ends.0 ∷ tick.Paused millis ∷ tick.Taken now ∷ earlier in
      subst (λ (f : FlushFault). ReachesBut (call_fault f) behind) (sym ends.1) reached;
}

-- the same of what a pause did
pub pause_is : {clock clock' : Option (List Tick)} {latest latest' now millis : ℕ} {result : Result ℕ FlushFault}
    → Pauses clock clock' latest latest' now millis result → IsPaused clock clock' now millis result
pause_is {clock} {clock'} {now = now} {millis = millis} {result = result} paused =
    is_paused clock clock' now millis result paused.ticks paused.gained paused.ends
