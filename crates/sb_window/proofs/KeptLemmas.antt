-- What is kept of some puts, and when the first of them ended.
use Rattle.std.proofs.Common.{◌≡◌, ℕ, suc, ◌<◌, ◌≤◌, ◌⊎◌, inl, inr, Bool, true, false, ◌&&◌, cond, List, [], ◌∷◌}
use Rattle.std.proofs.Common.{length, Option, Some, None, IsTrue, refl, sym, ap, subst, ◌∙◌, arith}
use Rattle.std.specs.Prelude.{IfSome}
use Rattle.std.specs.List.{filter}
use Rattle.std.specs.Ordering.{nat_cmp}
use Rattle.std.specs.FinMap.{find, put, is_sorted}
use Rattle.std.specs.FinMap.Entries.{by_order}
use Rattle.std.specs.declared.cmp.Ordering.TheVariants.{Less, Equal, Greater}
use Rattle.std.proofs.lemmas.Bool.Decides.{nat_tests}
use Rattle.sb_window.specs.declared.last_put.LastPut.{LastPut}
use Rattle.sb_window.specs.LastPuts.{end_of, is_end_kept, is_kept, earlier, earliest_end, EndBy, AllEndBy, if_kept}
use Rattle.sb_rows.specs.RowLaws.{filter_short, absent_below, sorted_head, sorted_tail}

-- the earlier of two ends is kept where both are
pub kept_earlier : (time now : ℕ) (end other : Option ℕ)
    → is_end_kept time now (earlier end other) ≡ (is_end_kept time now end && is_end_kept time now other)
kept_earlier time now None other = refl
kept_earlier time now (Some end) None = grind (arith, nat_tests)
kept_earlier time now (Some end) (Some other) = grind (arith, nat_tests)

both_true : (a b : Bool) → (a && b) ≡ true → (a ≡ true) × (b ≡ true)
both_true a b h = grind (arith, nat_tests)

one_false : (a b : Bool) → (a && b) ≡ false → (a ≡ false) ⊎ (b ≡ false)
one_false true b h = inr h
one_false false b h = inl refl

-- where the earliest end is kept all are
pub all_kept : (time now : ℕ) (es : List (ℕ × LastPut)) → is_end_kept time now (earliest_end es) ≡ true
    → filter (λ e. is_kept time now e.1) es ≡ es
all_kept time now [] h = refl
all_kept time now (e ∷ es) h =
    let both = both_true _ _ (sym (kept_earlier time now (end_of e.1.ending) (earliest_end es)) ∙ h) in
    ap (λ b. cond b (e ∷ filter (λ e. is_kept time now e.1) es) (filter (λ e. is_kept time now e.1) es)) both.0
    ∙ ap (λ r. e ∷ r) (all_kept time now es both.1)

-- where it is not kept, fewer are
pub fewer_kept : (time now : ℕ) (es : List (ℕ × LastPut)) → is_end_kept time now (earliest_end es) ≡ false
    → length (filter (λ e. is_kept time now e.1) es) < length es
fewer_kept time now [] h = grind arith
fewer_kept time now (e ∷ es) h =
    let kept = λ (e : ℕ × LastPut). is_kept time now e.1 in
    elim (one_false _ _ (sym (kept_earlier time now (end_of e.1.ending) (earliest_end es)) ∙ h)) [
      | inl gone ↦
          subst (λ b. length (cond b (e ∷ filter kept es) (filter kept es)) < suc (length es)) (sym gone)
          (omega (arith, filter_short kept es))
      | inr gone ↦
          let tail = fewer_kept time now es gone in
          elim (kept e) as
          (λ b. length (cond b (e ∷ filter kept es) (filter kept es)) < suc (length es))
          [ true ↦ omega arith | false ↦ omega arith ]
    ]

-- a put that is not kept is one that goes
pub found_goes : (time now block : ℕ) (last : LastPut) (es : List (ℕ × LastPut)) → find nat_cmp block es ≡ Some last
    → is_kept time now last ≡ false → length (filter (λ e. is_kept time now e.1) es) < length es
found_goes time now block last [] is gone = grind arith
found_goes time now block last (e ∷ es) is gone =
    let kept = λ (e : ℕ × LastPut). is_kept time now e.1 in
    let tail = filter_short kept es in
    grind (arith, nat_tests, found_goes time now block last es)

-- what is found of those that are kept
pub found_kept : (time now block : ℕ) (es : List (ℕ × LastPut)) → IsTrue (is_sorted nat_cmp es)
    → find nat_cmp block (filter (λ e. is_kept time now e.1) es) ≡ if_kept time now (find nat_cmp block es)
found_kept time now block [] s = refl
found_kept time now block (e ∷ es) s =
    let kept = λ (e : ℕ × LastPut). is_kept time now e.1 in
    let gone : block ≡ e.0
    → find nat_cmp block es ≡ None = λ same. absent_below block es (rw same (sorted_head e es s)) in
    grind (arith, nat_tests, found_kept time now block es (sorted_tail e es s), gone)

by_earlier : (reading : ℕ) (end other : Option ℕ) → EndBy reading end → EndBy reading other
    → EndBy reading (earlier end other)
by_earlier reading None other a b = b
by_earlier reading (Some end) None a b = a
by_earlier reading (Some end) (Some other) a b = omega arith

pub earliest_by : (reading : ℕ) (es : List (ℕ × LastPut)) → AllEndBy reading es → EndBy reading (earliest_end es)
earliest_by reading [] all = tt
earliest_by reading (e ∷ es) all = by_earlier reading _ _ all.0 (earliest_by reading es all.1)

pub found_by : (reading block : ℕ) (es : List (ℕ × LastPut)) → AllEndBy reading es
    → IfSome (find nat_cmp block es) (λ last. EndBy reading (end_of last.ending))
found_by reading block [] all = tt
found_by reading block (e ∷ es) all = grind (arith, nat_tests, found_by reading block es all.1)

pub filter_by : (p : ℕ × LastPut → Bool) (reading : ℕ) (es : List (ℕ × LastPut)) → AllEndBy reading es
    → AllEndBy reading (filter p es)
filter_by p reading [] all = tt
filter_by p reading (e ∷ es) all =
    let tail = filter_by p reading es all.1 in
    elim (p e) as
    (λ b. AllEndBy reading (cond b (e ∷ filter p es) (filter p es))) [ true ↦ (all.0, tail) | false ↦ tail ]

pub end_later : (reading later : ℕ) (end : Option ℕ) → reading ≤ later → EndBy reading end → EndBy later end
end_later reading later None le by = tt
end_later reading later (Some end) le by = omega arith

pub later_by : (reading later : ℕ) (es : List (ℕ × LastPut)) → reading ≤ later → AllEndBy reading es → AllEndBy later es
later_by reading later [] le all = tt
later_by reading later (e ∷ es) le all = (end_later reading later _ le all.0, later_by reading later es le all.1)

pub put_by : (reading block : ℕ) (last : LastPut) (es : List (ℕ × LastPut)) → EndBy reading (end_of last.ending)
    → AllEndBy reading es → AllEndBy reading (put nat_cmp block last es)
put_by reading block last [] by all = (by, tt)
put_by reading block last (e ∷ es) by all =
    elim (nat_cmp block e.0) as
    (λ o. AllEndBy reading
    (by_order o ((block, last) ∷ e ∷ es) ((e.0, last) ∷ es) (e ∷ put nat_cmp block last es))) [
      | Less ↦ (by, all)
      | Equal ↦ (by, all.1)
      | Greater ↦ (all.0, put_by reading block last es by all.1)
    ]
