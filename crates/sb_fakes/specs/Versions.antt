-- The versions of the objects of a store in memory.
use Rattle.std.specs.Prelude.{ℕ, zero, suc, ◌≡◌, ◌≢◌, ◌+◌, Bool, List, [], ◌∷◌, ◌++◌, length, Option, Some, None}
use Rattle.std.specs.Prelude.{true, false, Result, Ok, Err, if◌then◌else◌, nat_eq, nat_le}
use Rattle.std.specs.Prelude.{slice_index_or, slice_get}
use Rattle.std.specs.Option.{option_map}
use Rattle.std.specs.Cmp.Lexicographic.{pointwise}
use Rattle.sb_world.specs.Folders.{Files}
use Rattle.sb_world.specs.declared.link.Got.{Got}
use Rattle.sb_world.specs.declared.link.LinkFault.{LinkFault}
use Rattle.sb_world.specs.declared.link.LinkFault.TheVariants.{Failed, Memory}
use Rattle.sb_world.specs.declared.link.HeadText.{HeadText}
use Rattle.sb_fakes.specs.Objects.{bodies_of, body_in, no_texts, texts_of, Shows, Heads, Lists}
use Rattle.sb_fakes.specs.Failing.{one_more}
use Rattle.sb_fakes.specs.declared.timed.Show.{Show}
use Rattle.sb_fakes.specs.declared.timed.TimedStore.{TimedStore}
use Rattle.sb_fakes.specs.declared.content.Content.{Content}
use Rattle.sb_fakes.specs.declared.history.History.{History}

-- the versions of an object after its start, none where it was deleted, and the number of the newest that ended ok
pub record Versions : Type 0 where
  pub kept : List (Option Content)
  pub newest : ℕ

-- the versions in a history
abbrev pub versions_in : History → Versions
versions_in history = record { kept = history.versions.items; newest = history.newest }

-- the versions of a name: those in its history, and none without one
abbrev pub versions_of : List History → List ℕ → Versions
versions_of [] name = record { kept = []; newest = 0 }
versions_of (history ∷ histories) name =
    if pointwise nat_eq history.name name then versions_in history else versions_of histories name

-- one version more
abbrev pub with_version : Option Content → Bool → Versions → Versions
with_version content ended old = record {
  kept = old.kept ++ content ∷ [];
  newest = if ended then length old.kept + 1 else old.newest;
}

-- the versions of every name but this one are as before
abbrev pub SparesVersions : List ℕ → (List ℕ → Versions) → (List ℕ → Versions) → Type 0
SparesVersions name old now = (other : List ℕ) → other ≢ name → now other ≡ old other

-- a name has one version more
abbrev pub AddsVersion : List ℕ → Option Content → Bool → (List ℕ → Versions) → (List ℕ → Versions) → Type 0
AddsVersion name content ended old now =
    (now name ≡ with_version content ended (old name)) × SparesVersions name old now

-- the versions of every name are as before
abbrev pub SparesAllVersions : (List ℕ → Versions) → (List ℕ → Versions) → Type 0
SparesAllVersions old now = (name : List ℕ) → now name ≡ old name

-- what an object is at the version of a number, 0 for its start
abbrev pub body_at : Option (List ℕ) → List (Option Content) → ℕ → Option (List ℕ)
body_at start kept zero = start
body_at start kept (suc number) = body_in (slice_index_or kept number None)

-- the number of the version that is shown: the chosen one where the object has it, and else the newest that ended ok
abbrev pub number_shown : Option ℕ → Versions → ℕ
number_shown None versions = versions.newest
number_shown (Some number) versions =
    if nat_le number (length versions.kept) then number else versions.newest

-- what an object is at the version that is shown
abbrev pub body_shown : Option (List ℕ) → Versions → Option ℕ → Option (List ℕ)
body_shown start versions chosen = body_at start versions.kept (number_shown chosen versions)

-- the number of the version that a GET shows, where one is chosen for it
abbrev pub chosen_of : List Show → ℕ → Option ℕ
chosen_of [] get = None
chosen_of (show ∷ shows) get = if nat_eq show.get get then Some show.version else chosen_of shows get

-- what the next GET of a store shows of a name
abbrev pub shown_version : TimedStore → List ℕ → Option (List ℕ)
shown_version store name =
    body_shown (bodies_of store.start.items name) (versions_of store.histories.items name)
    (chosen_of store.shows.items (one_more store.gets))

-- what a name is at its newest version that ended ok
abbrev pub newest_body : TimedStore → List ℕ → Option (List ℕ)
newest_body store name =
    body_shown (bodies_of store.start.items name) (versions_of store.histories.items name) None

-- a GET that is to fail has status 503, and any other shows just what the object is
abbrev pub Answers : Bool → Option (List ℕ) → Option (List ℕ) → Result Got LinkFault → List ℕ → Type 0
Answers true verify body result out = result ≡ Err (Failed 503)
Answers false verify body result out = Shows verify body result out

-- the newest version that ended ok, unless that is the start
abbrev pub newest_in : ℕ → List (Option Content) → Option (Option Content)
newest_in zero kept = None
newest_in (suc number) kept = slice_get kept number

abbrev pub newest_of : Versions → Option (Option Content)
newest_of versions = newest_in versions.newest versions.kept

-- the texts of an object's newest version, from the start's body and the newest version behind it
abbrev pub texts_shown : Option (List ℕ) → Option (Option Content) → Option HeadText
texts_shown start None = option_map (λ body. no_texts) start
texts_shown start (Some content) = option_map (λ kept. texts_of kept.meta) content

-- the texts of the newest version of a name
abbrev pub newest_texts : TimedStore → List ℕ → Option HeadText
newest_texts store name =
    texts_shown (bodies_of store.start.items name) (newest_of (versions_of store.histories.items name))

-- a HEAD that is to fail has status 503, and any other finds just these texts
abbrev pub HeadAnswers : Bool → Option HeadText → Result (Option HeadText) LinkFault → Type 0
HeadAnswers true texts result = result ≡ Err (Failed 503)
HeadAnswers false texts result = Heads texts result

-- a listing that is to fail has status 503, and any other has the next page of all objects, or lacks memory
abbrev pub ListAnswers : Bool → List ℕ → List ℕ → List (List ℕ) → Result Bool LinkFault → Files → Type 0
ListAnswers true prefix marker names result objects = result ≡ Err (Failed 503)
ListAnswers false prefix marker names result objects = Lists prefix marker names result objects

-- what a store began with, and what is chosen for its GETs, stay
abbrev pub KeepsChoices : TimedStore → TimedStore → Type 0
KeepsChoices old now = (now.start ≡ old.start) × (now.shows ≡ old.shows)

-- no object is changed, and what is chosen stays
abbrev pub KeepsObjects : TimedStore → TimedStore → Type 0
KeepsObjects old now = KeepsChoices old now × (now.histories ≡ old.histories)

-- a put or a delete adds a version, which ended ok where the call is not to fail; without memory it adds none
abbrev pub Changes : {E : Type 0} → Bool → List ℕ → Option Content → Result E LinkFault → (List ℕ → Versions)
    → (List ℕ → Versions) → Type 0
Changes fails name content (Ok done) old now = (fails ≡ false) × AddsVersion name content true old now
Changes fails name content (Err (Failed status)) old now =
    (fails ≡ true) × (status ≡ 503) × AddsVersion name content false old now
Changes fails name content (Err Memory) old now = SparesAllVersions old now
