-- The page that the names of all objects make.
use Rattle.std.proofs.Common.{◌≡◌, ◌≢◌, ◌∙◌, ap, sym, inl, inr, ℕ, ◌<◌, ◌≤◌, Bool, true, false, List, []}
use Rattle.std.proofs.Common.{◌++◌, length, take, filter, nat_eq, nat_lt, refl, arith, length-take, IsPermutation}
use Rattle.std.proofs.Common.{slice_index_or}
use Rattle.std.specs.Prelude.{not, All, AllPairs, Contains, IsSome, IsSorted, Some}
use Rattle.std.specs.List.{starts_with}
use Rattle.std.specs.Ordering.{nat_cmp, is_lt, is_gt, is_eq, is_some_and, ordering_reverse}
use Rattle.std.specs.Cmp.Lexicographic.{slice_cmp, slice_partial_cmp, lists_agrees}
use Rattle.std.specs.declared.cmp.Ordering.{Ordering}
use Rattle.std.specs.declared.cmp.Ordering.TheVariants.{Less, Equal, Greater}
use Rattle.std.proofs.lemmas.Bool.{and_parts, and_from, not-true, ltb-true, lt-ltb, cases_lt, both_ways}
use Rattle.std.proofs.lemmas.Cmp.{nat_list_cmp_total, nat_list_eq_equiv}
use Rattle.std.proofs.lemmas.List.{get_or_default, get_or-take}
use Rattle.std.proofs.lemmas.List.Elements.{All-from_recursion, All-filter, All-take, All-contains}
use Rattle.std.proofs.lemmas.List.Elements.{filter_passes, Contains-append_cases}
use Rattle.std.proofs.lemmas.List.Kept.{AllPairs-filter}
use Rattle.std.proofs.lemmas.List.Sorted.{sorted_far, ranks_by, All-permutation, Contains-permutation}
use Rattle.std.proofs.lemmas.List.Sorted.{IsPermutation-filter_both}
use Rattle.std.proofs.lemmas.Map.Made.{AllPairs-from_IsDistinct, IsDistinct-from_AllPairs}
use Rattle.std.proofs.lemmas.Map.Keys.{IsDistinct-IsPermutation}
use Rattle.std.proofs.lemmas.Map.Text.{is_eq-slice_cmp}
use Rattle.std.proofs.lemmas.Slice.Eq.{bytes_eq-Decides}
use Rattle.std.specs.Str.{bytes_eq}
use Rattle.sb_world.specs.Folders.{Files, HasNames}
use Rattle.sb_pages.specs.Listings.{Precedes, IsAskedFor, is_asked_for, IsPage}

-- how `>` compares two texts
pub greater_is : (left right : List ℕ)
    → is_some_and is_gt (slice_partial_cmp (λ x y. Some (nat_cmp x y)) left right)
    ≡ is_gt (slice_cmp nat_cmp left right)
greater_is left right = ap (is_some_and is_gt) (lists_agrees (λ x y. refl) left right)

-- ---- byte order

less_from_greater : (there back : Ordering) → back ≡ ordering_reverse there → is_gt there ≡ true → back ≡ Less
less_from_greater Less back e greater = cc
less_from_greater Equal back e greater = cc
less_from_greater Greater back e greater = e

less_from_others : (there back : Ordering) → back ≡ ordering_reverse there → is_lt there ≡ false → is_eq back ≢ true
    → back ≡ Less
less_from_others Less back e no_less no_tie = cc
less_from_others Equal back e no_less no_tie = absurd (no_tie (ap is_eq e))
less_from_others Greater back e no_less no_tie = e

-- a text precedes another just where the other is greater
precedes_from_greater : (left right : List ℕ) → is_gt (slice_cmp nat_cmp right left) ≡ true → Precedes left right
precedes_from_greater left right = less_from_greater (slice_cmp nat_cmp right left) (slice_cmp nat_cmp left right)
    (nat_list_cmp_total.antisymm left right)

greater_from_precedes : (left right : List ℕ) → Precedes left right → is_gt (slice_cmp nat_cmp right left) ≡ true
greater_from_precedes left right precedes =
    ap is_gt (nat_list_cmp_total.antisymm right left ∙ ap ordering_reverse precedes)

-- of two texts that differ, the one that isn't after the other precedes it
precedes_from_order : (left right : List ℕ) → is_lt (slice_cmp nat_cmp right left) ≡ false → left ≢ right
    → Precedes left right
precedes_from_order left right order differ =
    less_from_others (slice_cmp nat_cmp right left) (slice_cmp nat_cmp left right)
    (nat_list_cmp_total.antisymm left right) order
    (λ tie. differ ((bytes_eq-Decides left right).0 (sym (is_eq-slice_cmp left right) ∙ tie)))

-- sorted texts that differ rise
rising_from_sorted : (names : List (List ℕ)) → IsSorted (slice_cmp nat_cmp) names → AllPairs (λ x y. x ≢ y) names
    → AllPairs Precedes names
rising_from_sorted names sorted differ i j d below within =
    precedes_from_order (slice_index_or names i d) (slice_index_or names j d)
    (sorted_far (λ x y. is_lt (slice_cmp nat_cmp x y)) (ranks_by nat_list_cmp_total (λ x. x)) names sorted i j d
    (omega arith) within)
    (differ i j d below within)

-- ---- the names that are asked for

asked_from_test : (prefix marker : List ℕ) (objects : Files) (name : List ℕ) → IsSome (objects name)
    → is_asked_for prefix marker name ≡ true → IsAskedFor prefix marker objects name
asked_from_test prefix marker objects name there test =
    let parts = and_parts (starts_with nat_eq name prefix) (is_gt (slice_cmp nat_cmp name marker)) test in record {
      there = there;
      begins = parts.0;
      after = precedes_from_greater marker name parts.1;
    }

test_from_asked : (prefix marker : List ℕ) (objects : Files) (name : List ℕ) → IsAskedFor prefix marker objects name
    → is_asked_for prefix marker name ≡ true
test_from_asked prefix marker objects name asked =
    and_from (starts_with nat_eq name prefix) (is_gt (slice_cmp nat_cmp name marker)) asked.begins
    (greater_from_precedes marker name asked.after)

-- what passes a test is kept by a filter
Contains-filter : {X : Type 0} (test : X → Bool) (xs : List X) (x : X) → Contains xs x → test x ≡ true
    → Contains (filter test xs) x
Contains-filter {X} test xs x there passes =
    let other = λ (y : X). not (test y) in
    let both = Contains-permutation xs (filter test xs ++ filter other xs) x
    (IsPermutation-filter_both test other (λ x. refl) xs) there in
    elim (Contains-append_cases (filter test xs) (filter other xs) x both) [
      | inl kept ↦ kept
      | inr left_out ↦
          let fails = All-contains (λ y. other y ≡ true) (filter other xs) x (filter_passes other xs) left_out in
          absurd (both_ways (test x) (not-true (test x) fails) passes)
    ]

-- a list that rises does so at its front
AllPairs-take : {X : Type 0} (R : X → X → Type 0) (n : ℕ) (xs : List X) → AllPairs R xs → AllPairs R (take n xs)
AllPairs-take R n xs pairs i j d below within =
    let long = length-take n xs in
    rw (get_or-take n xs i d (omega arith), get_or-take n xs j d (omega arith)) (pairs i j d below (omega arith))

-- texts that differ still do when they change places
differ_moved : (xs ys : List (List ℕ)) → IsPermutation xs ys → AllPairs (λ x y. x ≢ y) xs → AllPairs (λ x y. x ≢ y) ys
differ_moved xs ys moved differ =
    AllPairs-from_IsDistinct bytes_eq-Decides ys
    (IsDistinct-IsPermutation bytes_eq nat_list_eq_equiv.symm xs ys moved
    (IsDistinct-from_AllPairs bytes_eq-Decides xs differ))

-- ---- the page

-- the front of a list that rises stands before each later element
behind_front : (names : List (List ℕ)) (n k : ℕ) (name : List ℕ) → AllPairs Precedes names → n ≤ k → k < length names
    → slice_index_or names k name ≡ name
    → (length (take n names) ≡ n) × All (λ other. Precedes other name) (take n names)
behind_front names n k name rising above within is =
    let long = length-take n names in (
      omega arith,
      λ i d below.
          let later = get_or_default names k d name within ∙ is in
          let before : Precedes (slice_index_or names i d) (slice_index_or names k d) =
          rising i k d (omega arith) within in
          rw (get_or-take n names i d (omega arith)) (rw later at before),
    )

-- what the names of all objects leave in order
pub record IsOrdered (prefix marker : List ℕ) (objects : Files) (names : List (List ℕ)) : Type 0 where
  pub rising : AllPairs Precedes names
  pub asked : All (IsAskedFor prefix marker objects) names
  pub all : (name : List ℕ) → IsAskedFor prefix marker objects name → Contains names name

ordered_names : (prefix marker : List ℕ) (names sorted : List (List ℕ)) (objects : Files) → HasNames names objects
    → IsPermutation (filter (is_asked_for prefix marker) names) sorted → IsSorted (slice_cmp nat_cmp) sorted
    → IsOrdered prefix marker objects sorted
ordered_names prefix marker names sorted objects has moved order =
    let test = is_asked_for prefix marker in
    let kept = filter test names in
    let there : All (λ name. IsSome (objects name)) names =
    All-from_recursion (λ name. IsSome (objects name)) names has.each in
    let asked : All (IsAskedFor prefix marker objects) kept =
    λ k d below. asked_from_test prefix marker objects (slice_index_or kept k d)
    (All-filter test (λ name. IsSome (objects name)) names there k d below)
    (filter_passes test names k d below) in
    let differ : AllPairs (λ x y. x ≢ y) kept =
    AllPairs-filter (λ x y. x ≢ y) test names (AllPairs-from_IsDistinct bytes_eq-Decides names has.once) in record {
      rising = rising_from_sorted sorted order (differ_moved kept sorted moved differ);
      asked = All-permutation (IsAskedFor prefix marker objects) kept sorted moved asked;
      all = λ name wanted.
          let passes = test_from_asked prefix marker objects name wanted in
          Contains-permutation kept sorted name moved
          (Contains-filter test names name (has.all name wanted.there) passes);
    }

-- the front of the names in order is a page
page_from_ordered : (prefix marker : List ℕ) (objects : Files) (names : List (List ℕ))
    → IsOrdered prefix marker objects names
    → IsPage prefix marker (take 1000 names) (nat_lt 1000 (length names)) objects
page_from_ordered prefix marker objects names ordered =
    let long = length-take 1000 names in record {
      rising = AllPairs-take Precedes 1000 names ordered.rising;
      asked = All-take (IsAskedFor prefix marker objects) 1000 names ordered.asked;
      fits = omega arith;
      all = λ name wanted.
          let place = ordered.all name wanted in
          elim (cases_lt place.0 1000) [
            | inl below ↦ inl (place.0, omega arith, get_or-take 1000 names place.0 name below ∙ place.2)
            | inr above ↦
                let behind = behind_front names 1000 place.0 name ordered.rising above place.1 place.2 in
                inr (lt-ltb 1000 (length names) (omega arith), record { full = behind.0; after = behind.1 })
          ];
      more = λ truncated.
          let within : 1000 < length names = ltb-true 1000 (length names) truncated in
          let name = slice_index_or names 1000 [] in
          let is = get_or_default names 1000 name [] within in
          let behind = behind_front names 1000 1000 name ordered.rising (omega arith) within is in
          (name, ordered.asked 1000 [] within, record { full = behind.0; after = behind.1 });
    }

-- the names that a listing keeps of all are a page
pub IsPage-from : (prefix marker : List ℕ) (names sorted : List (List ℕ)) (objects : Files) → HasNames names objects
    → IsPermutation (filter (is_asked_for prefix marker) names) sorted → IsSorted (slice_cmp nat_cmp) sorted
    → IsPage prefix marker (take 1000 sorted) (nat_lt 1000 (length sorted)) objects
IsPage-from prefix marker names sorted objects has moved order =
    page_from_ordered prefix marker objects sorted (ordered_names prefix marker names sorted objects has moved order)
