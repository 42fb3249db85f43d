-- A binary search ends at the row of its key, or at the gap for it.
use Rattle.std.proofs.Common.{◌≡◌, ℕ, ◌<◌, ◌≤◌, List, [], ◌∷◌, length, get_or, Result, Ok, Err, IfOk, IfErr, IsTrue}
use Rattle.std.proofs.Common.{refl, sym, ap, arith}
use Rattle.std.specs.List.Sorted.{IsSearchInRange, IsBinarySearchResult, IsNonDecreasingBy}
use Rattle.std.specs.Ordering.{nat_cmp, ordering_index}
use Rattle.std.specs.FinMap.{is_sorted}
use Rattle.std.proofs.lemmas.Cmp.{ranked}
use Rattle.std.proofs.lemmas.List.Sorted.{IsNonDecreasingBy-from_default}
use Rattle.std.proofs.lemmas.Bool.Decides.{nat_tests}
use Rattle.sb_rows.specs.Rows.{IsRowOf, IsGapFor}
use Rattle.sb_rows.specs.RowLaws.{rises, found_at, written_at, absent_gap, inserted_gap}

module _ {X : Type 0} where
  -- the comparisons with a key rise along the rows, as a binary search asks
  compared : (rows : List (ℕ × X)) (d : ℕ × X) (key : ℕ) → IsTrue (is_sorted nat_cmp rows)
      → IsNonDecreasingBy (λ row. ordering_index (nat_cmp row.0 key)) rows
  compared rows d key sorted =
      IsNonDecreasingBy-from_default (λ row. ordering_index (nat_cmp row.0 key)) rows d (λ i j le in_range.
      let rise : (get_or rows i d).0 ≤ (get_or rows j d).0 =
      grind (arith, rises rows d sorted i j, λ (same : i ≡ j). ap (λ k. (get_or rows k d).0) same) in
      grind (arith, nat_tests))

  -- by any row as the default
  searched_by : (rows : List (ℕ × X)) (d : ℕ × X) (key : ℕ) → IsTrue (is_sorted nat_cmp rows) → (r : Result ℕ ℕ)
      → IsSearchInRange r (length rows) → IsBinarySearchResult (λ row. nat_cmp row.0 key) rows r
      → IfOk r (IsRowOf rows key) × IfErr r (IsGapFor rows key)
  searched_by rows d key sorted (Ok place) in_range equal =
      let is : (d : ℕ × X) → (get_or rows place d).0 ≡ key = λ d. ranked _ key _ (sym (equal d)) in
      let row : IsRowOf rows key place = record {
        in_range = in_range;
        at = is;
        found = λ d. found_at rows d key place sorted in_range (is d);
        written = λ value. written_at rows d key place value sorted in_range (is d);
      } in
      (row, tt)
  searched_by rows d key sorted (Err place) in_range parted =
      let before : (j : ℕ) → j < place → (get_or rows j d).0 < key =
      λ j lt. ranked _ key _ (sym ((parted (compared rows d key sorted)).0 j d (omega arith) lt)) in
      let after : (j : ℕ) → place ≤ j → j < length rows → key < (get_or rows j d).0 =
      λ j from lt. ranked _ key _ (sym ((parted (compared rows d key sorted)).1 j d from lt)) in
      let gap : IsGapFor rows key place = record {
        in_range = in_range;
        absent = absent_gap rows d key place before after in_range;
        inserted = λ value. inserted_gap rows d key place value before after in_range;
      } in
      (tt, gap)

  pub searched : (rows : List (ℕ × X)) (key : ℕ) → IsTrue (is_sorted nat_cmp rows) → (r : Result ℕ ℕ)
      → IsSearchInRange r (length rows) → IsBinarySearchResult (λ row. nat_cmp row.0 key) rows r
      → IfOk r (IsRowOf rows key) × IfErr r (IsGapFor rows key)
  searched [] key sorted (Ok place) in_range equal = absurd (omega (arith, in_range))
  searched [] key sorted (Err place) in_range parted =
      let none : (value : X) → _ = λ value. inserted_gap [] (key, value) key place value
      (λ j lt. absurd (omega (arith, lt, in_range))) (λ j from lt. absurd (omega (arith, lt))) in_range in
      let gap : IsGapFor [] key place = record { in_range = in_range; absent = refl; inserted = none } in
      (tt, gap)
  searched (e ∷ es) key sorted r in_range is = searched_by (e ∷ es) e key sorted r in_range is
