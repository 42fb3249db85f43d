-- Parts that nothing was done with, out of lists of such.
use Rattle.std.proofs.Common.{ℕ, suc, zero, ◌≡◌, List, [], ◌∷◌, Option, Some, Bool, true, false, refl, sym, ap, subst, drop, map, reverse, take, slice_get, ◌∙◌}
use Rattle.std.proofs.Math.Logic.{∥∥₁_map}
use Rattle.std.proofs.lemmas.Grind.{not_there}
use Rattle.std.proofs.lemmas.List.Elements.{All-drop, All-from_recursion, recursion_from_All}
use Rattle.std.specs.List.{AllByRecursion}
use Rattle.sb_world.specs.Listeners.{ListensAnew}
use Rattle.sb_world.specs.Told.{IsUnused}
use Rattle.sb_world.specs.declared.link.Call.{Call}
use Rattle.sb_fakes.specs.Fresh.{AreUnused, IsUntouched}
use Rattle.sb_fakes.specs.Listeners.{came_at, gave_at}
use Rattle.sb_fakes.specs.Worlds.{told_list}
use Rattle.sb_fakes.specs.declared.listener.MemoryListener.{MemoryListener}

-- what is left of parts, each of which is so
pub left_so : {X : Type 0} (P : X → Type 0) (n : ℕ) (xs ys : List X) → ys ≡ drop n xs → ∥ AllByRecursion P xs ∥₁ → ∥ AllByRecursion P ys ∥₁
left_so P n xs ys is all = ∥∥₁_map all (λ h. subst (AllByRecursion P) (sym is)
    (recursion_from_All P (drop n xs) (All-drop P n xs (All-from_recursion P xs h))))

some_is : {X : Type 0} {x y : X} → Some x ≡ Some y → x ≡ y
some_is same = cc

-- the first of them
pub first_so : {X : Type 0} (P : X → Type 0) (xs : List X) (x : X) → slice_get xs 0 ≡ Some x → ∥ AllByRecursion P xs ∥₁
    → ∥ P x ∥₁
first_so P [] x is all = absurd cc
first_so P (y ∷ ys) x is all = ∥∥₁_map all (λ h. subst P (some_is is) h.0)

empties : {X : Type 0} (list : List X) → ¬ (¬ (list ≡ [])) → list ≡ []
empties [] is = refl
empties (x ∷ xs) is = absurd (is (λ e. cc))

zeros : (n : ℕ) → ¬ (¬ (n ≡ 0)) → n ≡ 0
zeros zero is = refl
zeros (suc n) is = absurd (is (λ e. cc))

falses : (b : Bool) → ¬ (¬ (b ≡ false)) → b ≡ false
falses false is = refl
falses true is = absurd (is (λ e. cc))

pub unused : {X : Type 0} (log : Option (List X)) (faults : ℕ) → ∥ IsUnused log faults ∥₁ → IsUnused log faults
unused log faults is = record {
  empty = λ list told. empties list (λ other. not_there is (λ u. other (u.empty list told)));
  counted = zeros faults (λ other. not_there is (λ u. other u.counted));
}

-- links out of the front of unused ones
pub front_unused : {L : Type 0} (log : L → Option (List Call)) (faults : L → ℕ) (n : ℕ) (links : List L)
    → ∥ AreUnused log faults links ∥₁ → AreUnused log faults (take n links)
front_unused log faults zero links all = tt
front_unused log faults (suc n) [] all = tt
front_unused log faults (suc n) (link ∷ links) all = (
  unused (log link) (faults link) (∥∥₁_map all (λ h. h.0)),
  front_unused log faults n links (∥∥₁_map all (λ h. h.1)),
)

none_told : {X : Type 0} (items : List X) (whole : Bool) (list : List X) → items ≡ [] → told_list items whole ≡ Some list
    → list ≡ []
none_told items true list is told = sym (some_is told) ∙ ap reverse is
none_told items false list is told = absurd cc

anew : (listener : MemoryListener) → IsUntouched listener
    → ListensAnew (came_at listener) (Some listener.over) (gave_at listener) listener.faults
anew listener is = record {
  none_came = λ list told. sym (some_is told)
      ∙ ap (λ count. map Some (reverse (take count listener.inputs.items))) is.none_came;
  goes_on = λ over told. sym (some_is told) ∙ is.goes_on;
  none_given = λ list told. none_told listener.given.items listener.given_whole list is.none_given told;
  counted = is.counted;
}

pub untouched : (listener : MemoryListener) → ∥ IsUntouched listener ∥₁
    → ListensAnew (came_at listener) (Some listener.over) (gave_at listener) listener.faults
untouched listener is = record {
  none_came = λ list told. empties list (λ other. not_there is (λ u. other ((anew listener u).none_came list told)));
  goes_on = λ over told. falses over (λ other. not_there is (λ u. other ((anew listener u).goes_on over told)));
  none_given = λ list told. empties list (λ other. not_there is (λ u. other ((anew listener u).none_given list told)));
  counted = zeros listener.faults (λ other. not_there is (λ u. other u.counted));
}
