-- Whether an entry takes part in an order.
use Rattle.std.proofs.Common.{ℕ, ◌≡◌, Bool, true, false, nat_eq, if◌then◌else◌, List, [], ◌∷◌}
use Rattle.std.proofs.Common.{Option, Some, None, IsTrue, is_some, refl, sym, ◌∙◌, ap, subst, arith}
use Rattle.std.proofs.lemmas.Bool.Decides.{nat_tests}
use Rattle.std.proofs.lemmas.Bool.{eqb-true}
use Rattle.std.specs.Ordering.{nat_cmp}
use Rattle.std.specs.FinMap.{find, is_sorted, get, entries, entries_sorted, get-entries}
use Rattle.sb_blocks.specs.declared.cached.Cached.{Cached}
use Rattle.sb_blocks.specs.Caches.{CachedBlocks}
use Rattle.sb_blocks.specs.Orders.{Ranks, rank_of, NoneRanks}
use Rattle.sb_rows.specs.RowLaws.{to_true, sorted_head, sorted_tail, absent_below, found_head}
use Rattle.sb_core.specs.Leads.{is_any}

-- a block takes part in an order, or none does
pub rank_some : (ranks : Ranks) (found : Option Cached) (entry : Cached) (b rank : ℕ) → found ≡ Some entry
    → rank_of ranks b found ≡ Some rank → is_some (ranks b entry) ≡ true
rank_some ranks found entry b rank is some = ap is_some (sym (ap (rank_of ranks b) is) ∙ some)

pub any_row : (ranks : Ranks) (es : List (ℕ × Cached)) (b rank : ℕ) → rank_of ranks b (find nat_cmp b es) ≡ Some rank
    → is_any ranks es ≡ true
any_row ranks [] b rank some = absurd (cc)
any_row ranks (e ∷ es) b rank some = by (nat_eq b e.0) refl (any_row ranks es b rank) where
  head : b ≡ e.0 → find nat_cmp b (e ∷ es) ≡ Some e.1
  head same = subst (λ x. find nat_cmp x (e ∷ es) ≡ Some e.1) (sym same) (found_head e es)

  tail : nat_eq b e.0 ≡ false → find nat_cmp b (e ∷ es) ≡ find nat_cmp b es
  tail apart = grind (arith, nat_tests)

  later : (t : Bool) → is_any ranks es ≡ true → (if t then true else is_any ranks es) ≡ true
  later true is = refl
  later false is = is

  by : (t : Bool) → nat_eq b e.0 ≡ t
      → (rank_of ranks b (find nat_cmp b es) ≡ Some rank → is_any ranks es ≡ true) → is_any ranks (e ∷ es) ≡ true
  by true same more =
      let at = eqb-true b e.0 same in
      let mine = rank_some ranks (find nat_cmp b (e ∷ es)) e.1 b rank (head at) some in
      ap {B = Bool} (λ t. if t then true else is_any ranks es) (subst (λ x. is_some (ranks x e.1) ≡ true) at mine)
  by false apart more =
      later (is_some (ranks e.0 e.1)) (more (sym (ap (rank_of ranks b) (tail apart)) ∙ some))

pub any_block : (ranks : Ranks) (m : CachedBlocks) (b rank : ℕ) → rank_of ranks b (get m b) ≡ Some rank
    → is_any ranks (entries m) ≡ true
any_block ranks m b rank some = any_row ranks (entries m) b rank (sym (ap (rank_of ranks b) (get-entries m b)) ∙ some)

pub not_some : (rank : Option ℕ) → rank ≡ None → is_some rank ≡ false
not_some rank none = ap is_some none

pub none_row : (ranks : Ranks) (es : List (ℕ × Cached)) → IsTrue (is_sorted nat_cmp es)
    → ((b : ℕ) → rank_of ranks b (find nat_cmp b es) ≡ None) → is_any ranks es ≡ false
none_row ranks [] sorted none = refl
none_row ranks (e ∷ es) sorted none =
    let mine : ranks e.0 e.1 ≡ None = sym (ap (rank_of ranks e.0) (found_head e es)) ∙ none e.0 in
    let more = none_row ranks es (sorted_tail e es sorted) (λ b. tail b (nat_eq b e.0) refl) in
    ap {B = Bool} (λ t. if t then true else is_any ranks es) (ap is_some mine) ∙ more where
      apart_tail : (b : ℕ) → nat_eq b e.0 ≡ false → find nat_cmp b (e ∷ es) ≡ find nat_cmp b es
      apart_tail b apart = grind (arith, nat_tests)

      tail : (b : ℕ) (t : Bool) → nat_eq b e.0 ≡ t → rank_of ranks b (find nat_cmp b es) ≡ None
      tail b true same =
          ap (rank_of ranks b) (absent_below b es (rw (eqb-true b e.0 same) (sorted_head e es sorted)))
      tail b false apart = sym (ap (rank_of ranks b) (apart_tail b apart)) ∙ none b

pub none_any : (ranks : Ranks) (m : CachedBlocks) → NoneRanks ranks m → is_any ranks (entries m) ≡ false
none_any ranks m none =
    none_row ranks (entries m) (to_true _ (entries_sorted m)) (λ b. sym (ap (rank_of ranks b) (get-entries m b)) ∙ none b)
