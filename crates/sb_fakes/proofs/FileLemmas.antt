-- The files of a list, as it is changed and listed.
use Rattle.std.proofs.Common.{ℕ, zero, suc, ◌≡◌, ◌≢◌, ◌+◌, ◌<◌, ◌∙◌, true, false, not, Option, is_some, List, [], ◌∷◌, ◌++◌}
use Rattle.std.proofs.Common.{length, take, get_or, Some, None, sym, ap, subst, refl, eqb, arith, inl, inr, ⊎_elim}
use Rattle.std.proofs.Common.{cond}
use Rattle.std.specs.Prelude.{◌⊎◌}
use Rattle.std.specs.List.{filter, list_any, Contains, IsDistinct}
use Rattle.std.specs.Option.{IsSome}
use Rattle.std.specs.Cmp.Lexicographic.{pointwise, nat_list_eq_equiv}
use Rattle.std.proofs.lemmas.List.{take_more}
use Rattle.std.proofs.lemmas.List.Elements.{All-push, All-weaker, All-from_recursion, recursion_from_All}
use Rattle.std.proofs.lemmas.List.Elements.{Contains-append_left, Contains-push}
use Rattle.std.proofs.lemmas.List.Folds.{Any-from_list_any}
use Rattle.std.proofs.lemmas.Map.Keys.{IsDistinct-push}
use Rattle.std.proofs.lemmas.Slice.Eq.{bytes_eq-Decides}
use Rattle.sb_world.specs.Folders.{Files, Becomes, HasNames}
use Rattle.sb_fakes.specs.Objects.{bodies_of, body_in, is_other, HasBody, SparesBodies}
use Rattle.sb_fakes.specs.Folders.{Moves}
use Rattle.sb_fakes.specs.Names.{IsListed, AreNames}
use Rattle.sb_fakes.specs.declared.content.Content.{Content}
use Rattle.sb_fakes.proofs.NameLemmas.{differs, agrees}
use Rattle.sb_fakes.specs.declared.object.Object.{Object}

is_some-mapped : (content : Option Content) → is_some (body_in content) ≡ is_some content
is_some-mapped None = refl
is_some-mapped (Some content) = refl

some_none : {X : Type 0} {x : X} {P : Type 0} → Some x ≡ None → P
some_none same = cc

some_is : {X : Type 0} {x y : X} → Some x ≡ Some y → x ≡ y
some_is same = cc

some_false : {P : Type 0} → false ≡ true → P
some_false same = cc

-- no file of a name is left where those of the name were taken away
pub bodies_of-taken : {X : Type 0} (name : List ℕ) (files : List (Object X)) → bodies_of (filter (is_other name) files) name ≡ None
bodies_of-taken name [] = refl
bodies_of-taken name (file ∷ files) =
    let rest = filter (is_other name) files in
    let none = bodies_of-taken name files in
    elim (pointwise eqb file.name name) as (λ t. pointwise eqb file.name name ≡ t
    → bodies_of (cond (not t) (file ∷ rest) rest) name ≡ None) [
      | true ↦ λ is. none
      | false ↦ λ is. rw is none
    ] refl

-- the files of other names are left
pub bodies_of-left : {X : Type 0} (name other : List ℕ) (files : List (Object X)) → other ≢ name
    → bodies_of (filter (is_other name) files) other ≡ bodies_of files other
bodies_of-left name other [] apart = refl
bodies_of-left name other (file ∷ files) apart =
    let rest = filter (is_other name) files in
    let same = bodies_of-left name other files apart in
    elim (pointwise eqb file.name name) as (λ t. pointwise eqb file.name name ≡ t
    → bodies_of (cond (not t) (file ∷ rest) rest) other ≡ bodies_of (file ∷ files) other) [
      | true ↦ λ is.
          let named : file.name ≡ name = (bytes_eq-Decides file.name name).0 is in
          let not_it : pointwise eqb file.name other ≡ false =
          differs file.name other (λ e. apart (sym e ∙ named)) in
          rw not_it same
      | false ↦ λ is. ap (λ found. cond (pointwise eqb file.name other) (Some file.body) found) same
    ] refl

-- the same lists as each step of a change leaves them: the files of a name taken away
pub taken : {X : Type 0} (name : List ℕ) (files now : List (Object X)) → now ≡ filter (is_other name) files
    → (bodies_of now name ≡ None) × SparesBodies name (bodies_of files) (bodies_of now)
taken name files now is = rw is (bodies_of-taken name files, λ other apart. bodies_of-left name other files apart)

-- a file put in front of those of its name
pub placed : {X : Type 0} (name : List ℕ) (body : X) (files now : List (Object X))
    → now ≡ record { name = name; body = body } ∷ files → HasBody name body (bodies_of files) (bodies_of now)
placed name body files now is = rw is (
  ap (λ t. cond t (Some body) (bodies_of files name)) (agrees name),
  λ other apart.
      ap (λ t. cond t (Some body) (bodies_of files other)) (differs name other (λ e. apart (sym e))),
)

-- bytes put under a name, and then the files of another name taken away
pub moved : (from to body : List ℕ) (files with now : List (Object (List ℕ)))
    → HasBody to body (bodies_of files) (bodies_of with) → from ≢ to → now ≡ filter (is_other from) with
    → Moves from to body (bodies_of files) (bodies_of now)
moved from to body files with now put apart is =
    let (none, others) = taken from with now is in record {
      moved = others to (λ e. apart (sym e)) ∙ put.0;
      gone = λ _. none;
      others = λ other not_from not_to. others other not_from ∙ put.1 other not_to;
    }

-- bytes put under the name that they had
pub stayed : (from to body : List ℕ) (files now : List (Object (List ℕ)))
    → HasBody to body (bodies_of files) (bodies_of now) → from ≡ to
    → Moves from to body (bodies_of files) (bodies_of now)
stayed from to body files now put same = record {
  moved = put.0;
  gone = λ apart. absurd (apart same);
  others = λ other not_from not_to. put.1 other not_to;
}

-- files that are told, and were
pub becomes : {change : Files → Files → Type 0} (old now : Files) → change old now
    → Becomes (Some old) (Some now) change
becomes {change} old now changed = record {
  told = λ files is. (old, refl, subst (λ (told : Files). change old told) (some_is is) changed);
}

-- each file of a list has a name that the list has
pub bodies_of-at : {X : Type 0} (files : List (Object X)) (i : ℕ) (file : Object X) → i < length files
    → file ≡ get_or files i file → IsSome (bodies_of files file.name)
bodies_of-at [] i file within is = elim within [ ]
bodies_of-at (first ∷ files) zero file within is =
    let same : pointwise eqb first.name file.name ≡ true = rw is (agrees first.name) in
    rw same refl
bodies_of-at (first ∷ files) (suc i) file within is =
    let later : IsSome (bodies_of files file.name) = bodies_of-at files i file (omega arith) is in
    elim (pointwise eqb first.name file.name) as (λ t. IsSome (cond t (Some first.body) (bodies_of files file.name))) [
      | true ↦ refl
      | false ↦ later
    ]

-- a name with one more file
bodies_of-cases : {X : Type 0} (file : Object X) (name : List ℕ) (files : List (Object X)) → IsSome (bodies_of (files ++ file ∷ []) name)
    → IsSome (bodies_of files name) ⊎ (file.name ≡ name)
bodies_of-cases {X} file name [] there =
    elim (pointwise eqb file.name name) as (λ t. pointwise eqb file.name name ≡ t
    → IsSome (cond t (Some file.body) None) → IsSome (bodies_of {X = X} [] name) ⊎ (file.name ≡ name)) [
      | true ↦ λ is some. inr ((bytes_eq-Decides file.name name).0 is)
      | false ↦ λ is some. some_false some
    ] refl there
bodies_of-cases file name (first ∷ files) there =
    elim (pointwise eqb first.name name) as (λ t.
    IsSome (cond t (Some first.body) (bodies_of (files ++ file ∷ []) name))
    → IsSome (cond t (Some first.body) (bodies_of files name)) ⊎ (file.name ≡ name)) [
      | true ↦ λ some. inl refl
      | false ↦ λ some. bodies_of-cases file name files some
    ] there

-- no name of no file
pub IsListed-none : {X : Type 0} (files : List (Object X)) → IsListed [] [] files
unfolding IsDistinct
IsListed-none files = record { each = tt; all = λ name some. some_false some; once = tt }

-- a name is in a list that has an equal one
pub among : (names : List (List ℕ)) (name : List ℕ) → list_any (pointwise eqb name) names ≡ true → Contains names name
among names name some =
    let (k, other, within, at, same) = Any-from_list_any (pointwise eqb name) names some in
    let is : name ≡ other = (bytes_eq-Decides name other).0 same in
    subst (λ (x : List ℕ). Contains names x) (sym is) (k, within, at)

-- the names that a front with one more file has
more_names : {X : Type 0} (names : List (List ℕ)) (files : List (Object X)) (i : ℕ) (file : Object X) → i < length files
    → file ≡ get_or files i file
    → ((name : List ℕ) → IsSome (bodies_of (take i files) name) → Contains names name) → Contains names file.name
    → (name : List ℕ) → IsSome (bodies_of (take (i + 1) files) name) → Contains names name
more_names {X} names files i file within is before here name some =
    let longer : take (i + 1) files ≡ take i files ++ file ∷ [] =
    take_more files i file within ∙ ap (λ x. take i files ++ x ∷ []) (sym is) in
    let there : IsSome (bodies_of (take i files ++ file ∷ []) name) =
    subst (λ (front : List (Object X)). IsSome (bodies_of front name)) longer some in
    ⊎_elim (before name) (λ same. subst (λ (x : List ℕ). Contains names x) same here)
    (bodies_of-cases file name (take i files) there)

-- one more file, whose name is listed
pub IsListed-more : {X : Type 0} (names : List (List ℕ)) (files : List (Object X)) (i : ℕ) (file : Object X) → i < length files
    → file ≡ get_or files i file → list_any (pointwise eqb file.name) names ≡ true
    → IsListed names (take i files) files → IsListed names (take (i + 1) files) files
IsListed-more names files i file within is some listed = record {
  each = listed.each;
  all = more_names names files i file within is listed.all (among names file.name some);
  once = listed.once;
}

-- one more file, whose name is added
pub IsListed-push : {X : Type 0} (names : List (List ℕ)) (files : List (Object X)) (i : ℕ) (file : Object X) → i < length files
    → file ≡ get_or files i file → list_any (pointwise eqb file.name) names ≡ false
    → IsListed names (take i files) files → IsListed (names ++ file.name ∷ []) (take (i + 1) files) files
IsListed-push names files i file within is none listed =
    let HasFile : List ℕ → Type 0 = λ name. IsSome (bodies_of files name) in
    record {
      each = recursion_from_All HasFile (names ++ file.name ∷ []) (All-push HasFile names file.name
          (All-from_recursion HasFile names listed.each) (bodies_of-at files i file within is));
      all = more_names (names ++ file.name ∷ []) files i file within is
          (λ name some. Contains-append_left names (file.name ∷ []) name (listed.all name some))
          (Contains-push names file.name);
      once = IsDistinct-push nat_list_eq_equiv names file.name listed.once none;
    }

-- the names of all files of a folder
pub HasNames-files : (names : List (List ℕ)) (files : List (Object (List ℕ))) → AreNames names files
    → HasNames names (bodies_of files)
HasNames-files names files listed = record { each = listed.each; all = listed.all; once = listed.once }

-- the names of all objects of a store
pub HasNames-contents : (names : List (List ℕ)) (objects : List (Object Content)) → AreNames names objects
    → HasNames names (λ name. body_in (bodies_of objects name))
HasNames-contents names objects listed = record {
  each = recursion_from_All (λ name. IsSome (body_in (bodies_of objects name))) names
      (All-weaker (λ name. IsSome (bodies_of objects name)) (λ name. IsSome (body_in (bodies_of objects name)))
      (λ name there. is_some-mapped (bodies_of objects name) ∙ there) names
      (All-from_recursion (λ name. IsSome (bodies_of objects name)) names listed.each));
  all = λ name there. listed.all name (sym (is_some-mapped (bodies_of objects name)) ∙ there);
  once = listed.once;
}
