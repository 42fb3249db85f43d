-- What a worker of a disk that has many callers did, round by round.
use Rattle.std.proofs.Common.{ℕ, ◌≡◌, true, List, [], ◌∷◌, ◌++◌, Option, None, Result, refl, sym, ◌∙◌, ap, subst}
use Rattle.sb_turn.specs.declared.stands.Stands.{Ghosts}
use Rattle.sb_turn.specs.declared.pass.Pass.{Pass}
use Rattle.sb_turn.specs.Passes.{seen, number}
use Rattle.sb_base.specs.declared.entry.Entry.{Entry}
use Rattle.sb_base.specs.declared.entry.EntryKind.TheVariants as kind
use Rattle.sb_world.specs.Told.{Gains}
use Rattle.sb_world.specs.declared.clock.Tick.{Tick}
use Rattle.sb_world.specs.declared.clock.Tick.TheVariants as tick
use Rattle.sb_world.specs.declared.link.Call.{Call}
use Rattle.sb_core.specs.declared.machine.Core.{Core}
use Rattle.sb_core.specs.declared.standing.Timed.{Timed}
use Rattle.sb_core.specs.declared.standing.Fixed.{Fixed}
use Rattle.sb_core.specs.Jobs.{closing_entry}
use Rattle.sb_core.specs.Standing.{entries_in, closed_after, is_closed}
use Rattle.sb_crew.specs.Names.{Naming}
use Rattle.sb_crew.specs.Scenes.{Deed, nothing, followed}
use Rattle.sb_crew.specs.declared.calls.FlushFault.{FlushFault}
use Rattle.sb_crew.specs.Outcomes.{Outcome, outcomes_of, AsksOnly}
use Rattle.sb_crew.specs.Sharing.{seen_by, began_put, CallerScene, caller_at, PassTurn, PassDid, PassStore}
use Rattle.sb_crew.specs.SharedJoins.{shared_nothing, shared_join}
use Rattle.sb_crew.specs.Working.{WorkSoFar, PassStopped}
use Rattle.sb_crew.proofs.OutcomeLemmas.{outcomes_join, asks_join}
use Rattle.sb_crew.proofs.SharedRuns.{quiet_turn, put_turns}

module _ {g : Ghosts Core Timed Fixed} where
  -- a worker that has done nothing
  pub work_starts : {a : CallerScene g} {names : Naming} {fixed : Fixed} → WorkSoFar names fixed a a
  work_starts = record {
    deed = nothing;
    done = shared_nothing;
    outcomes = refl;
    asks = record { asked = tt };
  }

  -- what it did so far, and what it did then
  work_goes_on : {a b c : CallerScene g} {names : Naming} {fixed : Fixed} {deed : Deed} → WorkSoFar names fixed a b
      → PassDid names fixed b c deed → outcomes_of deed.entries ≡ [] → AsksOnly [] deed.entries
      → WorkSoFar names fixed a c
  work_goes_on {deed = deed} before more none asks = record {
    deed = followed before.deed deed;
    done = shared_join before.done more;
    outcomes = outcomes_join deed.entries before.deed.entries
        ∙ ap (λ (os : List Outcome). os ++ outcomes_of before.deed.entries) none ∙ before.outcomes;
    asks = asks_join [] before.deed.entries deed.entries before.asks asks;
  }

-- what a worker did so far, and one more round of it
module _ {g : Ghosts Core Timed Fixed} {a : CallerScene g} {p q : Pass Core Timed Fixed g} {names : Naming}
    {fixed : Fixed} {log : Option (List Call)} {faults : ℕ} {clock clock' : Option (List Tick)} {now : ℕ} {entry : Entry}
    (before : WorkSoFar names fixed a (caller_at p log faults clock)) (turn : PassTurn p q now entry)
    (gains : Gains clock clock' (tick.Taken now ∷ [])) where
  -- it sleeps, by the bell and without a tick
  pub work_sleeps : (reading until : ℕ)
      → entry ≡ record { pass = number p; reading = reading; kind = kind.Slept until }
      → WorkSoFar names fixed a (caller_at q log faults clock')
  work_sleeps reading until is =
      let T : Entry → Type 0 = λ e. PassTurn p q now e in
      work_goes_on before
      (quiet_turn {names = names} {fixed = fixed} [] None (subst T is turn) refl refl refl gains) refl
      (record { asked = tt })

  -- a block left the cache
  pub work_drops : (reading dropped : ℕ)
      → entry ≡ record { pass = number p; reading = reading; kind = kind.Dropped dropped }
      → WorkSoFar names fixed a (caller_at q log faults clock')
  work_drops reading dropped is =
      let T : Entry → Type 0 = λ e. PassTurn p q now e in
      work_goes_on before
      (quiet_turn {names = names} {fixed = fixed} [] None (subst T is turn) refl refl refl gains) refl
      (record { asked = tt })

  -- it stops
  pub work_stops : (reading : ℕ) → entry ≡ record { pass = number p; reading = reading; kind = kind.Stopped }
      → is_closed (seen_by q) ≡ true → PassStopped names fixed a (caller_at q log faults clock')
  unfolding work_goes_on
  work_stops reading is closed =
      let T : Entry → Type 0 = λ e. PassTurn p q now e in
      record {
        so_far = work_goes_on before
            (quiet_turn {names = names} {fixed = fixed} [] None (subst T is turn) refl refl refl gains) refl
            (record { asked = tt });
        last = record { pass = number p; reading = reading; kind = kind.Stopped };
        earlier = before.deed.entries;
        newest = refl;
        is_stopped = refl;
        closed = closed;
      }

  -- a PUT was made, ok or not
  pub work_puts : {c : CallerScene g} (reading block : ℕ) (content : List ℕ)
      → entry ≡ began_put (number p) reading block content → (result : Result Unit FlushFault)
      → PassStore names fixed (caller_at q log faults clock') c block content result → WorkSoFar names fixed a c
  work_puts reading block content is result stored =
      work_goes_on before (put_turns reading block content turn is gains stored) refl (record { asked = tt })

-- a close closes the disk
pub closes_it : {g : Ghosts Core Timed Fixed} {p q : Pass Core Timed Fixed g} {now : ℕ} (reading : ℕ)
    → PassTurn p q now (closing_entry (number p) reading) → is_closed (seen_by q) ≡ true
closes_it {p = p} reading turn =
    let before = is_closed (entries_in (turn.others ++ seen p)) in
    ap (λ (xs : List (ℕ × Timed)). is_closed (entries_in xs)) turn.seen_is
    ∙ sym (ap (λ (e : Entry). closed_after e.kind before) turn.entry_is)
