-- What a listing is, and its faults.
use Rattle.std.specs.Prelude.{ℕ, ◌≡◌, ◌≢◌, ◌≤◌, ◌+◌, Bool, true, List, [], ◌∷◌, length, drop, codes, Result, Ok, Err}
use Rattle.sb_s3link.specs.declared.listing.ListingFault.{ListingFault}
use Rattle.sb_s3link.specs.declared.listing.ListingFault.TheVariants.{KeyCut, NoTruncatedMark, Memory}
use Rattle.sb_s3link.specs.declared.marks.Marks.{Marks}
use Rattle.sb_s3link.specs.declared.marks.Marks.TheVariants as kept
use Rattle.sb_s3link.specs.Entities.{begins}
use Rattle.sb_s3link.specs.Items.{Item, AreItems, marks_of, names_of}
use Rattle.sb_s3link.specs.Names.{HasNoName}

-- what is kept of these marks
abbrev pub Keeps : Marks → List Bool → Type 0
Keeps kept.Nothing marks = marks ≡ []
Keeps (kept.One more) marks = marks ≡ more ∷ []
Keeps kept.Several marks = 2 ≤ length marks

-- the whole text was read, and these are its items
abbrev pub IsWhole : List ℕ → List Item → Type 0
IsWhole text items = AreItems text items []

-- behind these items begins a name, at this place, that is none
pub record IsCut (text : List ℕ) (items : List Item) (at : ℕ) : Type 0 where
  pub rest : List ℕ
  pub read : AreItems text items rest
  pub place : at + length rest ≡ length text
  pub begun : begins rest (codes "<Key>") ≡ true
  pub none : HasNoName (drop 5 rest)

-- the answer to the text of a listing, with the names that were read: whether more follow, by its one mark; memory is
-- wanted only where a name begins
abbrev pub IsListing : List ℕ → List (List ℕ) → Result Bool ListingFault → Type 0
IsListing text names (Ok more) =
    (items : List Item) × IsWhole text items × (marks_of items ≡ more ∷ []) × (names ≡ names_of items)
IsListing text names (Err NoTruncatedMark) =
    (items : List Item) × IsWhole text items × (length (marks_of items) ≢ 1) × (names ≡ names_of items)
IsListing text names (Err (KeyCut at)) =
    (items : List Item) × IsCut text items at × (names ≡ names_of items)
IsListing text names (Err Memory) =
    (items : List Item) × (rest : List ℕ) × AreItems text items rest × (begins rest (codes "<Key>") ≡ true)
    × (names ≡ names_of items)
