-- The order of names in pages.
use Rattle.std.proofs.Common.{ℕ, suc, ◌≡◌, ◌<◌, ◌+◌, Bool, true, false, List, [], ◌∷◌, ◌++◌, Some, None, length, take, drop, get_or, refl, sym, ap, ◌∙◌, add-one, drop-cons, arith}
use Rattle.std.specs.Prelude.{Option, if◌then◌else◌}
use Rattle.std.specs.Ordering.{nat_cmp, is_gt, is_some_and}
use Rattle.std.specs.Cmp.Lexicographic.{slice_cmp, slice_partial_cmp, lists_agrees}
use Rattle.sb_tools.specs.declared.listing.Listing.{Listing}
use Rattle.sb_tools.specs.Pages.{end_of}
use Rattle.sb_tools.specs.Listings.{fallen_in, is_above, last_of}

-- how `>` compares two texts
pub greater_is : (left right : List ℕ)
    → is_some_and is_gt (slice_partial_cmp (λ x y. Some (nat_cmp x y)) left right) ≡ is_gt (slice_cmp nat_cmp left right)
greater_is left right = ap (is_some_and is_gt) (lists_agrees (λ x y. refl) left right)

-- the last of names that end so
pub last_of-end : (before : List ℕ) (names : List (List ℕ)) (name : List ℕ) → last_of before (names ++ name ∷ []) ≡ name
last_of-end before [] name = refl
last_of-end before (first ∷ names) name = last_of-end first names name

-- what is out of order from a place on
fallen_from : (last : List ℕ) (names : List (List ℕ)) (place : ℕ) (name : List ℕ) → place < length names
    → name ≡ get_or names place name → (above : Bool) → above ≡ is_above last name
    → fallen_in last (drop place names) ≡ (if above then fallen_in name (drop (place + 1) names) else Some name)
fallen_from last names place name within is above test = rw (drop-cons names place name within, add-one, ← is, test) refl

-- it is so behind the place, where the name there is above the last
pub fallen_on : (last : List ℕ) (names : List (List ℕ)) (place : ℕ) (name : List ℕ) → place < length names
    → name ≡ get_or names place name → (above : Bool) → above ≡ is_above last name → above ≡ true
    → fallen_in last (drop place names) ≡ fallen_in name (drop (place + 1) names)
fallen_on last names place name within is true test holds = fallen_from last names place name within is true test
fallen_on last names place name within is false test holds = absurd (cc)

-- the name there is out of order
pub fallen_here : (last : List ℕ) (names : List (List ℕ)) (place : ℕ) (name : List ℕ) → place < length names
    → name ≡ get_or names place name → (above : Bool) → above ≡ is_above last name → above ≡ false
    → fallen_in last (drop place names) ≡ Some name
fallen_here last names place name within is false test holds = fallen_from last names place name within is false test
fallen_here last names place name within is true test holds = absurd (cc)

-- the last name of a page, where it ends so
pub end_is : (page rest : List (List ℕ)) (marker name : List ℕ) (listing : Listing)
    → record { page = page; marker = marker } ≡ listing → page ≡ rest ++ name ∷ [] → name ≡ end_of listing
end_is page rest marker name listing is ends =
    sym (last_of-end marker rest name) ∙ ap (last_of marker) (sym ends) ∙ ap end_of is
