-- What a listing is made of, read from left to right.
use Rattle.std.specs.Prelude.{ℕ, ◌≡◌, ◌<◌, Bool, true, false, if◌then◌else◌, List, [], ◌∷◌, length, drop, codes, Option}
use Rattle.std.specs.Prelude.{Some, None}
use Rattle.std.specs.List.{flat_map}
use Rattle.sb_s3link.specs.Entities.{begins}
use Rattle.sb_s3link.specs.Names.{IsName}

-- a name, a mark that says whether the listing is cut short, or a byte of something else
pub data Item : Type 0 where
  key : (name : List ℕ) → Item
  mark : (more : Bool) → Item
  other : Item

-- the mark that stands at the begin of the text
abbrev pub mark_at : List ℕ → Option Bool
mark_at text =
    if begins text (codes "<IsTruncated>true</IsTruncated>") then Some true
    else (if begins text (codes "<IsTruncated>false</IsTruncated>") then Some false else None)

-- the item of a mark, or of a byte of something else
abbrev pub item_of : Option Bool → Item
item_of (Some more) = mark more
item_of None = other

-- the item stands at the begin of the text, and the reading goes on at the rest: behind a name, else a byte further
abbrev pub Stands : List ℕ → Item → List ℕ → Type 0
Stands text (key name) rest = (begins text (codes "<Key>") ≡ true) × IsName (drop 5 text) name rest
Stands text (mark more) rest =
    (begins text (codes "<Key>") ≡ false) × (mark_at text ≡ Some more) × (rest ≡ drop 1 text)
Stands text other rest =
    (begins text (codes "<Key>") ≡ false) × (mark_at text ≡ None) × (0 < length text) × (rest ≡ drop 1 text)

-- these items stand there one behind the other
abbrev pub AreItems : List ℕ → List Item → List ℕ → Type 0
AreItems text [] rest = text ≡ rest
AreItems text (item ∷ items) rest = (next : List ℕ) × Stands text item next × AreItems next items rest

-- the name of an item, if it is one
abbrev pub name_in : Item → List (List ℕ)
name_in (key name) = name ∷ []
name_in (mark more) = []
name_in other = []

-- the names, and the marks outside of names, in order
abbrev pub names_of : List Item → List (List ℕ)
names_of items = flat_map name_in items

abbrev pub mark_in : Item → List Bool
mark_in (key name) = []
mark_in (mark more) = more ∷ []
mark_in other = []

abbrev pub marks_of : List Item → List Bool
marks_of items = flat_map mark_in items
