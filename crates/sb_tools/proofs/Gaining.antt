-- What a log gained in one part of a call and in the next.
use Rattle.std.proofs.Common.{ℕ, ◌≡◌, ◌≤◌, List, [], ◌∷◌, ◌++◌, Option, refl, sym, ap, subst, ◌∙◌, append_assoc, arith}
use Rattle.std.specs.Prelude.{Result, Err}
use Rattle.sb_world.specs.Told.{Gains, Rose, CountsFaults}
use Rattle.sb_tools.specs.Faults.{IsStoreFault}
use Rattle.sb_tools.specs.declared.fault.ToolFault.{ToolFault}
use Rattle.sb_tools.specs.declared.fault.ToolFault.TheVariants as fault

-- nothing was gained
pub gains_nothing : {X : Type 0} (list : Option (List X)) → Gains list list []
gains_nothing list = record { told = λ items is. (items, is, refl) }

-- what was gained first and then is gained together
pub gains_join : {X : Type 0} {before between now : Option (List X)} {first next : List X} → Gains before between first
    → Gains between now next → Gains before now (next ++ first)
gains_join {before = before} {first = first} {next = next} early late = record {
  told = λ items is.
      let step = late.told items is in
      let start = early.told step.0 step.1 in
      (start.0, start.1, step.2 ∙ ap (λ behind. next ++ behind) start.2 ∙ sym (append_assoc next first start.0));
}

-- the same gain by another name
pub gains_as : {X : Type 0} {before now : Option (List X)} {first next : List X} → first ≡ next → Gains before now first
    → Gains before now next
gains_as {before = before} {now} {first} {next} e gains = subst (λ (list : _). Gains before now list) e gains

-- a count rose in a call where it rose in the last part of it
pub counts_join : {before between now : ℕ} {early late whole : Type 0} → CountsFaults before between early
    → CountsFaults between now late → (whole → late) → CountsFaults before now whole
counts_join {before} {between} {now} early counts by = record {
  later = let first : before ≤ between = early.later in let later : between ≤ now = counts.later in omega arith;
  rises = λ fails.
      let first : before ≤ between = early.later in
      let rose : Rose between now = counts.rises (by fails) in
      omega arith;
}

-- a count rose in the last part of a call
pub counts_on : {before between now : ℕ} {late whole : Type 0} → before ≤ between → CountsFaults between now late
    → (whole → late) → CountsFaults before now whole
counts_on {before} {between} {now} early counts by = record {
  later = let later : between ≤ now = counts.later in omega arith;
  rises = λ fails. let rose : Rose between now = counts.rises (by fails) in omega arith;
}

-- a count stood in a call that didn't fail so
pub counts_none : {before now : ℕ} {whole : Type 0} → before ≤ now → (whole → ⊥) → CountsFaults before now whole
counts_none later never = record { later = later; rises = λ fails. absurd (never fails) }

-- two answers with one fault
pub err_is : {T : Type 0} (one other : ToolFault) → ◌≡◌ {A = Result T ToolFault} (Err one) (Err other)
    → one ≡ other
err_is one other e = cc

-- an answer with the fault of another
pub fails_alike : {T X : Type 0} (failed : ToolFault) → IsStoreFault {T = T} (Err failed)
    → IsStoreFault {T = X} (Err failed)
fails_alike failed fails = (fails.0, ap Err (err_is failed (fault.StoreFault fails.0) fails.1))
