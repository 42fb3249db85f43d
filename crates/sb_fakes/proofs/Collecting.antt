-- The names of the objects of a store that keeps versions, as they are collected.
use Rattle.std.proofs.Common.{ℕ, ◌≡◌, ◌+◌, ◌<◌, ◌≤◌, ◌∙◌, Bool, true, false, List, [], ◌∷◌, ◌++◌, length, map, take, get_or}
use Rattle.std.proofs.Common.{Option, Some, None, IsSome, is_some, sym, ap, subst, refl, eqb, cond, append_assoc}
use Rattle.std.proofs.Common.{inl, inr, ⊎_elim}
use Rattle.std.specs.Prelude.{◌⊎◌}
use Rattle.std.specs.List.{list_any, Contains, IsDistinct}
use Rattle.std.specs.Cmp.Lexicographic.{pointwise, nat_list_eq_equiv}
use Rattle.std.proofs.lemmas.List.{map_more, take_all, append-nil}
use Rattle.std.proofs.lemmas.List.Elements.{All-push, All-from_recursion, recursion_from_All, Contains-append_left}
use Rattle.std.proofs.lemmas.List.Elements.{Contains-append_right, Contains-push, Contains-push_cases}
use Rattle.std.proofs.lemmas.Map.Keys.{IsDistinct-push}
use Rattle.std.proofs.lemmas.Slice.Eq.{bytes_eq-Decides}
use Rattle.sb_world.specs.Folders.{Files, HasNames}
use Rattle.sb_fakes.specs.Objects.{bodies_of}
use Rattle.sb_fakes.specs.Names.{is_among, Collects, AddsName}
use Rattle.sb_fakes.specs.Versions.{Versions, versions_of, versions_in, body_shown}
use Rattle.sb_fakes.specs.declared.object.Object.{Object}
use Rattle.sb_fakes.specs.declared.history.History.{History}
use Rattle.sb_fakes.proofs.FileLemmas.{among}

-- no file has the name
pub adds_absent : (name : List ℕ) (files : Files) (names : List (List ℕ)) → is_some (files name) ≡ false
    → AddsName name files names names
adds_absent name files names none = record {
  kept = λ other before. before;
  here = λ there. absurd (cc);
  each = λ each. each;
  once = λ once. once;
}

-- the name is there already
pub adds_among : (name : List ℕ) (files : Files) (names : List (List ℕ)) → is_among name names ≡ true
    → AddsName name files names names
adds_among name files names some = record {
  kept = λ other before. before;
  here = λ there. among names name some;
  each = λ each. each;
  once = λ once. once;
}

-- the name of a file is added
pub adds_push : (name : List ℕ) (files : Files) (names : List (List ℕ)) → is_some (files name) ≡ true
    → is_among name names ≡ false → AddsName name files names (names ++ name ∷ [])
adds_push name files names there none =
    let HasFile : List ℕ → Type 0 = λ other. IsSome (files other) in
    record {
      kept = λ other before. Contains-append_left names (name ∷ []) other before;
      here = λ _. Contains-push names name;
      each = λ each. recursion_from_All HasFile (names ++ name ∷ [])
          (All-push HasFile names name (All-from_recursion HasFile names each) there);
      once = λ once. IsDistinct-push nat_list_eq_equiv names name once none;
    }

-- nothing was seen yet
pub collects_none : (files : Files) → Collects [] [] files
unfolding IsDistinct
collects_none files = record { each = tt; all = λ name none there. none; once = tt }

-- one more name was seen
pub collects_more : {X : Type 0} (name_of : X → List ℕ) (files : Files) (front : List (List ℕ)) (xs : List X) (i : ℕ)
    (x : X) (old now : List (List ℕ)) → i < length xs → x ≡ get_or xs i x
    → Collects old (front ++ map name_of (take i xs)) files → AddsName (name_of x) files old now
    → Collects now (front ++ map name_of (take (i + 1) xs)) files
collects_more name_of files front xs i x old now within is before adds =
    let seen = front ++ map name_of (take i xs) in
    let one : map name_of (take (i + 1) xs) ≡ map name_of (take i xs) ++ name_of x ∷ [] =
    map_more name_of xs i x within ∙ ap (λ y. map name_of (take i xs) ++ name_of y ∷ []) (sym is) in
    let longer : front ++ map name_of (take (i + 1) xs) ≡ seen ++ name_of x ∷ [] =
    ap (λ l. front ++ l) one ∙ sym (append_assoc front (map name_of (take i xs)) (name_of x ∷ [])) in
    record {
      each = adds.each before.each;
      all = λ name given there.
          ⊎_elim (λ earlier. adds.kept name (before.all name earlier there))
          (λ same. subst (λ (n : List ℕ). Contains now n) same
          (adds.here (subst (λ (n : List ℕ). IsSome (files n)) (sym same) there)))
          (Contains-push_cases seen (name_of x) name (subst (λ (l : List (List ℕ)). Contains l name) longer given));
      once = adds.once before.once;
    }

-- a name in front, and one further behind
first_in : (x : List ℕ) (xs : List (List ℕ)) → Contains (x ∷ xs) x
first_in x xs = Contains-append_left (x ∷ []) xs x (Contains-push [] x)

later_in : (x y : List ℕ) (xs : List (List ℕ)) → Contains xs y → Contains (x ∷ xs) y
later_in x y xs there = Contains-append_right (x ∷ []) xs y there

-- a name that has a body is that of an object
named_object : {X : Type 0} (objects : List (Object X)) (name : List ℕ) → IsSome (bodies_of objects name)
    → Contains (map (λ (object : Object X). object.name) objects) name
named_object [] name there = absurd (cc)
named_object {X} (object ∷ objects) name there =
    let names = map (λ (other : Object X). other.name) objects in
    elim (pointwise eqb object.name name) as (λ t. pointwise eqb object.name name ≡ t
    → IsSome (cond t (Some object.body) (bodies_of objects name)) → Contains (object.name ∷ names) name) [
      | true ↦ λ is some.
          subst (λ (n : List ℕ). Contains (object.name ∷ names) n) ((bytes_eq-Decides object.name name).0 is)
          (first_in object.name names)
      | false ↦ λ is some. later_in object.name name names (named_object objects name some)
    ] refl there

-- a name has no version, or is that of a history
named_history : (histories : List History) (name : List ℕ)
    → (versions_of histories name ≡ record { kept = []; newest = 0 })
    ⊎ Contains (map (λ (history : History). history.name) histories) name
named_history [] name = inl refl
named_history (history ∷ histories) name =
    let names = map (λ (other : History). other.name) histories in
    elim (pointwise eqb history.name name) as (λ t. pointwise eqb history.name name ≡ t
    → (cond t (versions_in history) (versions_of histories name) ≡ record { kept = []; newest = 0 })
    ⊎ Contains (history.name ∷ names) name) [
      | true ↦ λ is.
          inr (subst (λ (n : List ℕ). Contains (history.name ∷ names) n) ((bytes_eq-Decides history.name name).0 is)
          (first_in history.name names))
      | false ↦ λ is.
          ⊎_elim (λ none. inl none) (λ some. inr (later_in history.name name names some))
          (named_history histories name)
    ] refl

-- all names of objects and histories were seen
pub collects_all : (start : List (Object (List ℕ))) (histories : List History) (names : List (List ℕ))
    → Collects names (map (λ (object : Object (List ℕ)). object.name) start
    ++ map (λ (history : History). history.name) histories)
    (λ name. body_shown (bodies_of start name) (versions_of histories name) None)
    → HasNames names (λ name. body_shown (bodies_of start name) (versions_of histories name) None)
collects_all start histories names collected =
    let objects = map (λ (object : Object (List ℕ)). object.name) start in
    let others = map (λ (history : History). history.name) histories in
    record {
      each = collected.each;
      all = λ name there.
          ⊎_elim (λ none. collected.all name (Contains-append_left objects others name (named_object start name
          (subst (λ (v : Versions). IsSome (body_shown (bodies_of start name) v None)) none there))) there)
          (λ some. collected.all name (Contains-append_right objects others name some) there)
          (named_history histories name);
      once = collected.once;
    }

-- all of the first names were seen, and then all of those behind them
pub collects_front : {X : Type 0} (name_of : X → List ℕ) (files : Files) (xs : List X) (i : ℕ) (names : List (List ℕ))
    → length xs ≤ i → Collects names (map name_of (take i xs)) files → Collects names (map name_of xs ++ []) files
collects_front {X} name_of files xs i names over collected =
    subst (λ (seen : List (List ℕ)). Collects names seen files)
    (ap (λ (l : List X). map name_of l) (take_all i xs over) ∙ sym (append-nil (map name_of xs))) collected

pub collects_back : {X : Type 0} (name_of : X → List ℕ) (files : Files) (front : List (List ℕ)) (xs : List X) (i : ℕ)
    (names : List (List ℕ)) → length xs ≤ i → Collects names (front ++ map name_of (take i xs)) files
    → Collects names (front ++ map name_of xs) files
collects_back {X} name_of files front xs i names over collected =
    subst (λ (seen : List (List ℕ)). Collects names seen files)
    (ap (λ (l : List X). front ++ map name_of l) (take_all i xs over)) collected
