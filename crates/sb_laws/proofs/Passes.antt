-- The entries of a pass in segments.
use Rattle.std.proofs.Common.{◌≡◌, Bool, true, false, nat_eq, if◌then◌else◌, List, [], ◌∷◌, ◌++◌, refl, ap}
use Rattle.std.proofs.lemmas.Bool.{eq-eqb}
use Rattle.sb_base.specs.declared.entry.Entry.{Entry}
use Rattle.sb_history.specs.Passes.{entries_of_pass}
use Rattle.sb_history.specs.Laws.{PassesJoin, OnePassIsAll}

-- an entry in front, where it is of the pass
abbrev kept_if : Bool → Entry → List Entry → List Entry
kept_if t entry entries = if t then entry ∷ entries else entries

kept_joins :
    (t : Bool) (entry : Entry) (xs ys zs : List Entry) → xs ≡ ys ++ zs → kept_if t entry xs ≡ kept_if t entry ys ++ zs
kept_joins true entry xs ys zs is = ap (λ entries. entry ∷ entries) is
kept_joins false entry xs ys zs is = is

pub passes_join : PassesJoin
passes_join earlier [] pass = refl
passes_join earlier (entry ∷ later) pass =
    kept_joins (nat_eq entry.pass pass) entry (entries_of_pass (later ++ earlier) pass) (entries_of_pass later pass)
    (entries_of_pass earlier pass) (passes_join earlier later pass)

kept_all : (t : Bool) (entry : Entry) (xs ys : List Entry) → t ≡ true → xs ≡ ys → kept_if t entry xs ≡ entry ∷ ys
kept_all true entry xs ys holds is = ap (λ entries. entry ∷ entries) is
kept_all false entry xs ys holds is = absurd (cc)

pub one_pass_is_all : OnePassIsAll
one_pass_is_all [] pass of_pass = refl
one_pass_is_all (entry ∷ past) pass of_pass =
    kept_all (nat_eq entry.pass pass) entry (entries_of_pass past pass) past (eq-eqb entry.pass pass of_pass.0)
    (one_pass_is_all past pass of_pass.1)
