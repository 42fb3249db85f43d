-- The histories of a list, as versions are added.
use Rattle.std.proofs.Common.{ℕ, suc, ◌≡◌, ◌≢◌, ◌+◌, ◌<◌, ◌∙◌, Bool, true, false, List, [], ◌∷◌, ◌++◌, length, Option}
use Rattle.std.proofs.Common.{take, drop, get_or, set, sym, ap, refl, eqb, cond, append_assoc, append-nil}
use Rattle.std.proofs.Common.{Result, Ok, Err}
use Rattle.std.specs.Result.{MatchResult}
use Rattle.std.specs.Cmp.Lexicographic.{pointwise}
use Rattle.std.proofs.Math.Seq.{drop-cons}
use Rattle.std.proofs.lemmas.List.{take_more, take-append-drop, set_split}
use Rattle.sb_fakes.specs.Versions.{versions_of, versions_in, with_version, AddsVersion, SparesAllVersions}
use Rattle.sb_fakes.specs.declared.content.Content.{Content}
use Rattle.sb_fakes.specs.declared.history.History.{History}
use Rattle.sb_fakes.proofs.NameLemmas.{differs, agrees}

-- no history in front has the name
pub record Skips (name : List ℕ) (front : List History) : Type 0 where
  pub skips : (rest : List History) → versions_of (front ++ rest) name ≡ versions_of rest name

pub Skips-none : (name : List ℕ) → Skips name []
Skips-none name = record { skips = λ rest. refl }

-- one more history, of another name
pub Skips-more : (name : List ℕ) (xs : List History) (i : ℕ) (x : History) → i < length xs → x ≡ get_or xs i x
    → pointwise eqb x.name name ≡ false → Skips name (take i xs) → Skips name (take (i + 1) xs)
Skips-more name xs i x within is apart before = record {
  skips = λ rest.
      let one : take (i + 1) xs ≡ take i xs ++ x ∷ [] =
      take_more xs i x within ∙ ap (λ y. take i xs ++ y ∷ []) (sym is) in
      let longer : take (i + 1) xs ++ rest ≡ take i xs ++ x ∷ rest =
      ap (λ p. p ++ rest) one ∙ append_assoc (take i xs) (x ∷ []) rest in
      ap (λ p. versions_of p name) longer ∙ before.skips (x ∷ rest)
      ∙ ap (λ t. cond t (versions_in x) (versions_of rest name)) apart;
}

-- the versions of a name behind histories of other names
first_is : (name : List ℕ) (front : List History) (x : History) (rest : List History) → Skips name front
    → x.name ≡ name → versions_of (front ++ x ∷ rest) name ≡ versions_in x
first_is name front x rest before named =
    let same : pointwise eqb x.name name ≡ true = rw named (agrees name) in
    before.skips (x ∷ rest) ∙ ap (λ t. cond t (versions_in x) (versions_of rest name)) same

-- a history is nothing to other names
others_are : (other : List ℕ) (front : List History) (x : History) (rest : List History) → other ≢ x.name
    → versions_of (front ++ x ∷ rest) other ≡ versions_of (front ++ rest) other
others_are other [] x rest apart =
    ap (λ t. cond t (versions_in x) (versions_of rest other)) (differs x.name other (λ e. apart (sym e)))
others_are other (first ∷ front) x rest apart =
    ap (λ v. cond (pointwise eqb first.name other) (versions_in first) v) (others_are other front x rest apart)

-- a version is added in the history of its name
pub added : (name : List ℕ) (content : Option Content) (ended : Bool) (xs now : List History) (i : ℕ)
    (d x y : History) → i < length xs → x ≡ get_or xs i d → x.name ≡ name → y.name ≡ x.name → Skips name (take i xs)
    → now ≡ set xs i y → versions_in y ≡ with_version content ended (versions_in x)
    → AddsVersion name content ended (versions_of xs) (versions_of now)
added name content ended xs now i d x y within is named same before now_is more =
    let front = take i xs in
    let rest = drop (suc i) xs in
    let was : xs ≡ front ++ x ∷ rest =
    sym (take-append-drop i xs) ∙ ap (λ r. front ++ r) (drop-cons xs i d within ∙ ap (λ h. h ∷ rest) (sym is)) in
    let becomes : now ≡ front ++ y ∷ rest = now_is ∙ set_split xs i y within in (
      ap (λ p. versions_of p name) becomes ∙ first_is name front y rest before (same ∙ named) ∙ more
          ∙ ap (λ v. with_version content ended v) (sym (first_is name front x rest before named)
          ∙ ap (λ p. versions_of p name) (sym was)),
      λ other apart.
          let not_x : other ≢ x.name = λ e. apart (e ∙ named) in
          let not_y : other ≢ y.name = λ e. apart (e ∙ same ∙ named) in
          ap (λ p. versions_of p other) becomes ∙ others_are other front y rest not_y
          ∙ sym (others_are other front x rest not_x) ∙ ap (λ p. versions_of p other) (sym was),
    )

-- the first version of a name
pub begun : (name : List ℕ) (content : Option Content) (ended : Bool) (xs now : List History) (y : History)
    → y.name ≡ name → Skips name xs → now ≡ xs ++ y ∷ []
    → versions_in y ≡ with_version content ended (record { kept = []; newest = 0 })
    → AddsVersion name content ended (versions_of xs) (versions_of now)
begun name content ended xs now y named before now_is more =
    let none : versions_of xs name ≡ record { kept = []; newest = 0 } =
    ap (λ p. versions_of p name) (sym (append-nil xs)) ∙ before.skips [] in (
      ap (λ p. versions_of p name) now_is ∙ first_is name xs y [] before named ∙ more
          ∙ ap (λ v. with_version content ended v) (sym none),
      λ other apart.
          ap (λ p. versions_of p other) now_is ∙ others_are other xs y [] (λ e. apart (e ∙ named))
          ∙ ap (λ p. versions_of p other) (append-nil xs),
    )

-- a history with the same name and versions in the place of another
alike : (other : List ℕ) (front : List History) (x y : History) (rest : List History) → y.name ≡ x.name
    → versions_in y ≡ versions_in x → versions_of (front ++ y ∷ rest) other ≡ versions_of (front ++ x ∷ rest) other
alike other [] x y rest named same =
    ap (λ n. cond (pointwise eqb n other) (versions_in y) (versions_of rest other)) named
    ∙ ap (λ v. cond (pointwise eqb x.name other) v (versions_of rest other)) same
alike other (first ∷ front) x y rest named same =
    ap (λ v. cond (pointwise eqb first.name other) (versions_in first) v) (alike other front x y rest named same)

-- a version is added in the history of its name, or that is as it was
pub added_or : {E : Type 0} (result : Result Unit E) (name : List ℕ) (content : Option Content) (ended : Bool)
    (xs now : List History) (i : ℕ) (d x y : History) → i < length xs → x ≡ get_or xs i d → x.name ≡ name
    → y.name ≡ x.name → Skips name (take i xs) → now ≡ set xs i y
    → MatchResult result (λ _. versions_in y ≡ with_version content ended (versions_in x))
    (λ _. versions_in y ≡ versions_in x)
    → MatchResult result (λ _. AddsVersion name content ended (versions_of xs) (versions_of now))
    (λ _. SparesAllVersions (versions_of xs) (versions_of now))
added_or (Ok done) name content ended xs now i d x y within is named same before now_is more =
    added name content ended xs now i d x y within is named same before now_is more
added_or (Err fault) name content ended xs now i d x y within is named same before now_is more =
    let rest = drop (suc i) xs in
    let was : xs ≡ take i xs ++ x ∷ rest =
    sym (take-append-drop i xs) ∙ ap (λ r. take i xs ++ r) (drop-cons xs i d within ∙ ap (λ h. h ∷ rest) (sym is)) in
    λ other. ap (λ p. versions_of p other) (now_is ∙ set_split xs i y within)
    ∙ alike other (take i xs) x y rest same more ∙ ap (λ p. versions_of p other) (sym was)
