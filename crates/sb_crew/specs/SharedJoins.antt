-- What two runs of a pass of a disk that has many callers did, one after the other.
use Rattle.std.proofs.Common.{ℕ, ◌≡◌, List, [], ◌∷◌, ◌++◌, Option, Some, None, refl, sym, ◌∙◌, ap, subst, append_assoc}
use Rattle.sb_turn.specs.declared.stands.Stands.{Ghosts}
use Rattle.sb_turn.specs.declared.pass.Pass.{Pass}
use Rattle.sb_turn.specs.Passes.{seen, mine, number, IsSamePass}
use Rattle.sb_base.specs.declared.entry.Entry.{Entry}
use Rattle.sb_world.specs.declared.clock.Tick.{Tick}
use Rattle.sb_history.specs.ClockTrace.{ClockTrace}
use Rattle.sb_laws.proofs.Joins.{requests_join, clock_traces_join}
use Rattle.sb_core.specs.declared.machine.Core.{Core}
use Rattle.sb_core.specs.declared.standing.Timed.{Timed}
use Rattle.sb_core.specs.declared.standing.Fixed.{Fixed}
use Rattle.sb_core.specs.Standing.{entry_at, entries_in}
use Rattle.sb_crew.specs.declared.disk.Disk.{Disk}
use Rattle.sb_crew.specs.Names.{Naming, name_of}
use Rattle.sb_crew.specs.Joins.{gains_nothing, gains_join, asked_join, asked_nothing}
use Rattle.sb_crew.specs.Scenes.{Deed, nothing, followed}
use Rattle.sb_crew.specs.Sharing.{caller, seen_by, CallerScene, PassRuns, PassDid}

pub entries_in-append : (xs ys : List (ℕ × Timed)) → entries_in (xs ++ ys) ≡ entries_in xs ++ entries_in ys
entries_in-append [] ys = refl
entries_in-append (x ∷ xs) ys = ap (λ (es : List Entry). entry_at x ∷ es) (entries_in-append xs ys)

module _ {g : Ghosts Core Timed Fixed} where
  pub same_pass : {p q r : Pass Core Timed Fixed g} → IsSamePass p q → IsSamePass q r → IsSamePass p r
  same_pass first second = record {
    lock = second.lock ∙ first.lock;
    number = second.number ∙ first.number;
    joined = second.joined ∙ first.joined;
    base = second.base ∙ first.base;
    last_given = second.last_given ∙ first.last_given;
    handed_out = second.handed_out ∙ first.handed_out;
    opening = second.opening ∙ first.opening;
  }

  pub same_itself : {p : Pass Core Timed Fixed g} → IsSamePass p p
  same_itself = record {
    lock = refl;
    number = refl;
    joined = refl;
    base = refl;
    last_given = refl;
    handed_out = refl;
    opening = refl;
  }

  -- two runs of a pass
  pub runs_follow : {p q r : Pass Core Timed Fixed g} {fixed : Fixed} {clock clock' clock'' : Option (List Tick)}
      {xs ys : List Entry} {ss ts : List Tick} → PassRuns fixed p q clock clock' xs ss
      → PassRuns fixed q r clock' clock'' ys ts → PassRuns fixed p r clock clock'' (ys ++ xs) (ts ++ ss)
  runs_follow {p} {q} {r} {fixed} {clock} {clock'} {clock''} {xs} {ys} {ss} {ts} first second =
      let n = number p in
      let A : List Entry → Type 0 = λ h.
      ClockTrace fixed.geometry fixed.settings (caller n) h (entries_in second.later) None ts in
      let B : ℕ → Type 0 = λ k.
      ClockTrace fixed.geometry fixed.settings (caller k) (seen_by q) (entries_in second.later) None ts in
      let behind : seen_by q ≡ entries_in first.later ++ seen_by p =
      ap entries_in first.seen_is ∙ entries_in-append first.later (seen p) in
      record {
        same = same_pass first.same second.same;
        made = second.made ++ first.made;
        entries_are = ap (λ (es : List Entry). es ++ xs) second.entries_are
            ∙ ap (λ (es : List Entry). entries_in second.made ++ es) first.entries_are
            ∙ sym (entries_in-append second.made first.made);
        mine_is = second.mine_is ∙ ap (λ (l : List (ℕ × Timed)). second.made ++ l) first.mine_is
            ∙ sym (append_assoc second.made first.made (mine p));
        later = second.later ++ first.later;
        seen_is = second.seen_is ∙ ap (λ (l : List (ℕ × Timed)). second.later ++ l) first.seen_is
            ∙ sym (append_assoc second.later first.later (seen p));
        readings = gains_join clock clock' clock'' ss ts first.readings second.readings;
        trace = subst (λ (es : List Entry).
            ClockTrace fixed.geometry fixed.settings (caller n) (seen_by p) es None (ts ++ ss))
            (sym (entries_in-append second.later first.later))
            (clock_traces_join fixed.geometry fixed.settings (caller n) (seen_by p) (entries_in first.later)
            (entries_in second.later) None ss ts first.trace
            (subst A behind (subst B first.same.number second.trace)));
      }

  -- nothing was done
  pub runs_nothing : {p : Pass Core Timed Fixed g} {fixed : Fixed} {clock : Option (List Tick)}
      → PassRuns fixed p p clock clock [] []
  runs_nothing {clock = clock} = record {
    same = same_itself;
    made = [];
    entries_are = refl;
    mine_is = refl;
    later = [];
    seen_is = refl;
    readings = gains_nothing clock;
    trace = refl;
  }

  pub shared_nothing : {a : CallerScene g} {names : Naming} {fixed : Fixed} → PassDid names fixed a a nothing
  shared_nothing {a} = record {
    runs = runs_nothing;
    asked = asked_nothing a.log a.faults;
    requests = refl;
  }

  pub shared_join : {a b c : CallerScene g} {names : Naming} {fixed : Fixed} {x y : Deed}
      → PassDid names fixed a b x → PassDid names fixed b c y → PassDid names fixed a c (followed x y)
  shared_join {a} {b} {c} {names} {fixed} {x} {y} first second = record {
    runs = runs_follow first.runs second.runs;
    asked = asked_join a.log b.log c.log a.faults b.faults c.faults x.calls y.calls first.asked second.asked;
    requests = requests_join (name_of names) (Some names.meta) x.entries y.entries x.calls y.calls first.requests
        second.requests;
  }

  -- the same of a disk that stays
  pub shared_both : {d₁ d₂ d₃ : Disk} {a b c : CallerScene g} {x y : Deed} → d₂ ≡ d₁ → d₃ ≡ d₂
      → PassDid d₁.names d₁.fixed a b x → PassDid d₂.names d₂.fixed b c y
      → (d₃ ≡ d₁) × PassDid d₁.names d₁.fixed a c (followed x y)
  shared_both {b = b} {c = c} {y = y} first_stays second_stays first second =
      let D : Disk → Type 0 = λ d. PassDid d.names d.fixed b c y in
      (second_stays ∙ first_stays, shared_join first (subst D first_stays second))
