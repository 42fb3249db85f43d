-- What two runs of calls did, one after the other.
use Rattle.std.proofs.Common.{ℕ, ◌≡◌, List, [], ◌∷◌, ◌++◌, Option, Some, None, refl, sym, ◌∙◌, ap, subst, append_assoc}
use Rattle.std.proofs.Common.{◌+◌, ◌-◌, ◌^◌, ◌≤◌, ◌⊎◌, inl, inr, arith, if◌then◌else◌, max}
use Rattle.sb_base.specs.declared.geometry.Geometry.{Geometry}
use Rattle.sb_base.specs.declared.settings.Settings.{Settings}
use Rattle.sb_base.specs.declared.entry.Entry.{Entry}
use Rattle.sb_world.specs.Told.{Gains}
use Rattle.sb_world.specs.declared.clock.Tick.{Tick}
use Rattle.sb_world.specs.declared.clock.Tick.TheVariants as tick
use Rattle.sb_world.specs.declared.link.Call.{Call}
use Rattle.sb_history.specs.Passes.{IsOfPass}
use Rattle.sb_history.specs.Requests.{RequestLog}
use Rattle.sb_history.specs.ClockTrace.{ClockTrace, PausesAfter}
use Rattle.sb_laws.proofs.Joins.{requests_join, clock_traces_join, entry_is_ticked}
use Rattle.sb_core.specs.Cores.{Represents, geometry_of, settings_of}
use Rattle.sb_crew.specs.Scenes.{DiskScene, Scene, Deed, nothing, followed}
use Rattle.sb_crew.specs.Names.{Naming, name_of}
use Rattle.sb_crew.specs.Outcomes.{fault_of}
use Rattle.sb_crew.specs.Counts.{is_failure, failures, Asked}
use Rattle.sb_crew.specs.Runs.{only_caller, next_ticks, RunsWhere, TurnWhere, DidWhere}

-- what was gained, and what was gained then
pub gains_join : {X : Type 0} (a b c : Option (List X)) (xs ys : List X) → Gains a b xs → Gains b c ys
    → Gains a c (ys ++ xs)
gains_join a b c xs ys first second = record {
  told = λ list now.
      let later = second.told list now in
      let earlier = first.told later.0 later.1 in
      (earlier.0, earlier.1, later.2 ∙ ap (λ l. ys ++ l) earlier.2 ∙ sym (append_assoc ys xs earlier.0));
}

-- nothing was gained
pub gains_nothing : {X : Type 0} (told : Option (List X)) → Gains told told []
gains_nothing told = record { told = λ list now. (list, now, refl) }

plus_assoc : (a b c : ℕ) → a + (b + c) ≡ (a + b) + c
plus_assoc a b c = omega (arith)

-- the failures among two runs of calls
pub failures_join : (vs us : List Call) → failures (vs ++ us) ≡ failures vs + failures us
failures_join [] us = omega (arith)
failures_join (v ∷ vs) us =
    ap (λ n. (if is_failure (fault_of v) then 1 else 0) + n) (failures_join vs us)
    ∙ plus_assoc (if is_failure (fault_of v) then 1 else 0) (failures vs) (failures us)

-- a count rose by the first failures and then by the second
risen_join : (a b c m n : ℕ) → a ≤ b → b ≤ c → (a + m ≤ b) ⊎ (2 ^ 64 - 1 ≤ b) → (b + n ≤ c) ⊎ (2 ^ 64 - 1 ≤ c)
    → (a + (n + m) ≤ c) ⊎ (2 ^ 64 - 1 ≤ c)
risen_join a b c m n first second (inl low) (inl high) = inl (omega (arith, low, high))
risen_join a b c m n first second (inl low) (inr high) = inr high
risen_join a b c m n first second (inr low) high = inr (omega (arith, low, second))

-- a link was asked for these calls, and then for those
pub asked_join : (log log' log'' : Option (List Call)) (faults faults' faults'' : ℕ) (us vs : List Call)
    → Asked log log' faults faults' us → Asked log' log'' faults' faults'' vs
    → Asked log log'' faults faults'' (vs ++ us)
asked_join log log' log'' faults faults' faults'' us vs first second =
    let P : ℕ → Type 0 = λ n. (faults + n ≤ faults'') ⊎ (2 ^ 64 - 1 ≤ faults'') in
    record {
      gained = gains_join log log' log'' us vs first.gained second.gained;
      counted = record {
        later = omega (arith, first.counted.later, second.counted.later);
        risen = subst P (sym (failures_join vs us))
            (risen_join faults faults' faults'' (failures us) (failures vs) first.counted.later second.counted.later
            first.counted.risen second.counted.risen);
      };
    }

-- a link was asked for nothing
pub asked_nothing : (log : Option (List Call)) (faults : ℕ) → Asked log log faults faults []
asked_nothing log faults = record {
  gained = gains_nothing log;
  counted = record { later = omega (arith); risen = inl (omega (arith)) };
}

pass_joins : (xs ys : List Entry) → IsOfPass 1 xs → IsOfPass 1 ys → IsOfPass 1 (ys ++ xs)
pass_joins xs [] first second = first
pass_joins xs (y ∷ ys) first second = (second.0, pass_joins xs ys first second.1)

-- a run over histories of one kind, and one over those that it leads to
pub runs_join : {Is Then : List Entry → Type 0} {a b c : DiskScene} {clock clock' clock'' : Option (List Tick)}
    {xs ys : List Entry} {ss ts : List Tick} → ((past : List Entry) → Is past → Then (xs ++ past))
    → RunsWhere Is a b clock clock' xs ss None → RunsWhere Then b c clock' clock'' ys ts None
    → RunsWhere Is a c clock clock'' (ys ++ xs) (ts ++ ss) None
runs_join {a = a} {b = b} {c = c} {clock = clock} {clock' = clock'} {clock'' = clock''} {xs = xs} {ys = ys} {ss = ss} {ts = ts} leads first second = record {
  same_names = second.same_names ∙ first.same_names;
  base = record {
    geometry = second.base.geometry ∙ first.base.geometry;
    settings = second.base.settings ∙ first.base.settings;
  };
  history = λ past fits is.
      subst (Represents c.core) (sym (append_assoc ys xs past))
      (second.history (xs ++ past) (leads past fits) (first.history past fits is));
  of_pass = pass_joins xs ys first.of_pass second.of_pass;
  told = gains_join a.tape b.tape c.tape xs ys first.told second.told;
  readings = gains_join clock clock' clock'' ss ts first.readings second.readings;
  trace = λ past fits is.
      let P : Geometry → Type 0 = λ g. ClockTrace g (settings_of b.core) only_caller (xs ++ past) ys None ts in
      let Q : Settings → Type 0 = λ s. ClockTrace (geometry_of a.core) s only_caller (xs ++ past) ys None ts in
      let later = second.trace (xs ++ past) (leads past fits) (first.history past fits is) in
      clock_traces_join (geometry_of a.core) (settings_of a.core) only_caller past xs ys None ss ts
      (first.trace past fits is) (subst Q first.base.settings (subst P first.base.geometry later));
}

-- a run up to a next reading, and the turn that it was taken for
pub turn_joins : {Is Then : List Entry → Type 0} {a b c : DiskScene} {clock clock' clock'' : Option (List Tick)}
    {xs : List Entry} {ss after : List Tick} {now : ℕ} {entry : Entry} {next : Option ℕ}
    → ((past : List Entry) → Is past → Then (xs ++ past)) → RunsWhere Is a b clock clock' xs ss (Some now)
    → TurnWhere Then b c clock' clock'' now entry next after
    → RunsWhere Is a c clock clock'' (entry ∷ xs) (after ++ tick.Taken now ∷ ss) next
turn_joins {a = a} {b = b} {c = c} {clock = clock} {clock' = clock'} {clock'' = clock''} {xs = xs} {ss = ss} {after = after} {now = now} {entry = entry} {next = next} leads first turn =
    record {
      same_names = turn.event.same_names ∙ first.same_names;
      base = record {
        geometry = turn.event.base.geometry ∙ first.base.geometry;
        settings = turn.event.base.settings ∙ first.base.settings;
      };
      history = λ past fits is. turn.event.history (xs ++ past) (leads past fits) (first.history past fits is);
      of_pass = (turn.event.of_pass, first.of_pass);
      told = gains_join a.tape b.tape c.tape xs (entry ∷ []) first.told turn.event.told;
      readings = subst (Gains clock clock'') (append_assoc (next_ticks next) after (tick.Taken now ∷ ss))
          (gains_join clock clock' clock'' (tick.Taken now ∷ ss) (next_ticks next ++ after) first.readings
          turn.readings);
      trace = λ past fits is.
          let before = first.history past fits is in
          let P : Geometry → Type 0 = λ g. PausesAfter g (settings_of b.core) (xs ++ past) now entry.kind turn.pause in
          let Q : Settings → Type 0 = λ s. PausesAfter (geometry_of a.core) s (xs ++ past) now entry.kind turn.pause in
          entry_is_ticked (geometry_of a.core) (settings_of a.core) only_caller past xs entry next turn.pause now after ss
          turn.event.of_pass (turn.event.reading ∙ ap (λ (n : ℕ). max now n) before.last)
          (subst Q first.base.settings (subst P first.base.geometry
          (turn.pauses (xs ++ past) (leads past fits) before))) turn.paused (first.trace past fits is);
    }

-- what was done to histories of one kind, and then to those that it leads to
pub did_join : {Is Then : List Entry → Type 0} {a b c : Scene} {x y : Deed}
    → ((past : List Entry) → Is past → Then (x.entries ++ past)) → DidWhere Is a b x None → DidWhere Then b c y None
    → DidWhere Is a c (followed x y) None
did_join {a = a} {b = b} {c = c} {x = x} {y = y} leads first second =
    let P : Naming → Type 0 = λ n. RequestLog (name_of n) (Some n.meta) y.entries y.calls in
    record {
      runs = runs_join leads first.runs second.runs;
      asked = asked_join a.log b.log c.log a.faults b.faults c.faults x.calls y.calls first.asked second.asked;
      requests = requests_join (name_of a.disk.names) (Some a.disk.names.meta) x.entries y.entries x.calls y.calls
          first.requests (subst P first.runs.same_names second.requests);
    }

-- nothing was done, and a next reading may have been taken
pub did_begin : {Is : List Entry → Type 0} {disk : DiskScene} {log : Option (List Call)} {faults : ℕ}
    {clock clock' : Option (List Tick)} (next : Option ℕ) → Gains clock clock' (next_ticks next ++ [])
    → DidWhere Is (record { disk = disk; log = log; faults = faults; ticks = clock })
    (record { disk = disk; log = log; faults = faults; ticks = clock' }) nothing next
did_begin {disk = disk} {log = log} {faults = faults} next gains = record {
  runs = record {
    same_names = refl;
    base = record { geometry = refl; settings = refl };
    history = λ past fits is. is;
    of_pass = tt;
    told = gains_nothing disk.tape;
    readings = gains;
    trace = λ past fits is. refl;
  };
  asked = asked_nothing log faults;
  requests = refl;
}

-- nothing was done
pub did_nothing : {Is : List Entry → Type 0} {scene : Scene} → DidWhere Is scene scene nothing None
did_nothing {scene = scene} = did_begin {disk = scene.disk} {log = scene.log} {faults = scene.faults} None
    (gains_nothing scene.ticks)
