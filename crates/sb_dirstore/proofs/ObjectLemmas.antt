-- What a put of a folder's link makes of the objects.
use Rattle.std.proofs.Common.{◌≡◌, ◌≢◌, ◌∙◌, ap, sym, inl, inr, ℕ, Bool, true, false, not, List, ◌++◌, codes, refl}
use Rattle.std.proofs.Common.{if◌then◌else◌, filter, slice_index_or}
use Rattle.std.specs.Prelude.{None, IsSome, Result, Ok, Err, All, Contains}
use Rattle.std.proofs.lemmas.Bool.{not-true, not_from_false, both_ways}
use Rattle.std.proofs.lemmas.List.Elements.{All-from_recursion, recursion_from_All, All-filter, All-contains}
use Rattle.std.proofs.lemmas.List.Elements.{filter_passes, Contains-append_cases}
use Rattle.std.proofs.lemmas.List.Kept.{AllPairs-filter}
use Rattle.std.proofs.lemmas.List.Sorted.{Contains-permutation, IsPermutation-filter_both}
use Rattle.std.proofs.lemmas.Map.Made.{AllPairs-from_IsDistinct, IsDistinct-from_AllPairs}
use Rattle.std.proofs.lemmas.Slice.Eq.{bytes_eq-Decides}
use Rattle.std.specs.Option.{is_some}
use Rattle.std.proofs.lemmas.Bool.{false_from_ne_true}
use Rattle.std.proofs.lemmas.Bool.Decides.{Decides-eqb}
use Rattle.std.proofs.lemmas.Slice.Eq.{ends_is}
use Rattle.sb_world.specs.declared.link.LinkFault.{LinkFault}
use Rattle.sb_world.specs.Folders.{Files, HasNames, SparesOthers, SparesOthersThan}
use Rattle.sb_dirstore.specs.Objects.{is_temporary, is_object_name, IsObjectName, temporary_of, objects_of, Puts}
use Rattle.sb_dirstore.specs.Objects.{PutsObject}

-- the name of an object's temporary file is temporary
pub is_temporary-temporary_of : (name : List ℕ) → is_temporary (temporary_of name) ≡ true
is_temporary-temporary_of name = (ends_is Decides-eqb (temporary_of name) (codes ".tmp") _ refl).1 name refl

-- so no object has it
pub differs-temporary_of : (name : List ℕ) → IsObjectName name → (other : List ℕ) → name ≢ temporary_of other
differs-temporary_of name object other e =
    let temporary = is_temporary-temporary_of other in
    let same : is_temporary name ≡ is_temporary (temporary_of other) = ap is_temporary e in
    cc (temporary, same, object)

-- an object is the file of its name
pub objects_of-is : (files : Files) (name : List ℕ) → IsObjectName name → objects_of files name ≡ files name
objects_of-is files name object = rw object refl

-- and no other file is
pub object_from_there : (files : Files) (name : List ℕ) → IsSome (objects_of files name) → IsObjectName name
object_from_there files name there =
    false_from_ne_true (is_temporary name) (λ own.
    let none : objects_of files name ≡ None = rw own refl in
    cc (ap is_some none, there))

-- what passes a test is kept by a filter
Contains-filter : {X : Type 0} (test : X → Bool) (xs : List X) (x : X) → Contains xs x → test x ≡ true
    → Contains (filter test xs) x
Contains-filter {X} test xs x there passes =
    let other = λ (y : X). not (test y) in
    let both = Contains-permutation xs (filter test xs ++ filter other xs) x
    (IsPermutation-filter_both test other (λ x. refl) xs) there in
    elim (Contains-append_cases (filter test xs) (filter other xs) x both) [
      | inl kept ↦ kept
      | inr left_out ↦
          let fails = All-contains (λ y. other y ≡ true) (filter other xs) x (filter_passes other xs) left_out in
          absurd (both_ways (test x) (not-true (test x) fails) passes)
    ]

-- the names of a folder's files that are objects', each once
pub HasNames-objects : (names : List (List ℕ)) (files : Files) → HasNames names files
    → HasNames (filter is_object_name names) (objects_of files)
HasNames-objects names files has =
    let kept = filter is_object_name names in
    let IsFile : List ℕ → Type 0 = λ name. IsSome (files name) in
    let there : All IsFile names = All-from_recursion IsFile names has.each in
    let asked : All (λ name. IsSome (objects_of files name)) kept =
    λ k d below.
    let object = not-true (is_temporary (slice_index_or kept k d)) (filter_passes is_object_name names k d below) in
    ap is_some (objects_of-is files (slice_index_or kept k d) object)
    ∙ All-filter is_object_name IsFile names there k d below in record {
      each = recursion_from_All (λ name. IsSome (objects_of files name)) kept asked;
      all = λ name some.
          let object = object_from_there files name some in
          Contains-filter is_object_name names name
          (has.all name (ap is_some (sym (objects_of-is files name object)) ∙ some))
          (not_from_false (is_temporary name) object);
      once = IsDistinct-from_AllPairs bytes_eq-Decides kept
          (AllPairs-filter (λ x y. x ≢ y) is_object_name names (AllPairs-from_IsDistinct bytes_eq-Decides names
          has.once));
    }

-- where files change alike under names that may be an object's, objects do
pub objects_of-same : (name : List ℕ) (old files : Files) → (IsObjectName name → files name ≡ old name)
    → objects_of files name ≡ objects_of old name
objects_of-same name old files same =
    let P : Bool → Type 0 = λ b. (b ≡ false → files name ≡ old name)
    → (if b then None else files name) ≡ (if b then None else old name) in
    let both : (b : Bool) → P b = λ b. elim b as P [ true ↦ λ h. refl | false ↦ λ h. h refl ] in
    both (is_temporary name) same

-- where no other file than these two changes, no other object changes
pub spares_objects : (name : List ℕ) (old files : Files) → SparesOthersThan (temporary_of name) name old files
    → SparesOthers name (objects_of old) (objects_of files)
spares_objects name old files spared other differs =
    objects_of-same other old files (λ object. spared other (differs-temporary_of other object name) differs)

-- how a put that changes the files so changes the objects
pub PutsObject-from_Puts : (name body : List ℕ) (result : Result Unit LinkFault) (old files : Files) → IsObjectName name
    → Puts name body result old files → PutsObject name body result old files
PutsObject-from_Puts name body (Ok done) old files object puts = record {
  made = objects_of-is files name object ∙ puts.renamed.1 ∙ puts.written.0;
  kept = tt;
  others = spares_objects name old files (λ other own differs.
      puts.renamed.3 other own differs ∙ puts.written.1 other own);
}
PutsObject-from_Puts name body (Err fault) old files object (inl spared) = record {
  made = tt;
  kept = inl (objects_of-same name old files (λ _. spared name (differs-temporary_of name object name)));
  others = spares_objects name old files (λ other own differs. spared other own);
}
PutsObject-from_Puts name body (Err fault) old files object (inr failed) = record {
  made = tt;
  kept = inr failed;
  others = spares_objects name old files (λ other own differs.
      failed.renamed other own differs ∙ failed.written.1 other own);
}
