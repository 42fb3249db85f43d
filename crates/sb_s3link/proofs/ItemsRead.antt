-- Items that are read one behind the other.
use Rattle.std.proofs.Common.{ℕ, ◌≡◌, ◌<◌, ◌∙◌, Bool, false, codes, drop, length, Option, Some, None, List, [], ◌∷◌, ◌++◌, ap, sym, subst, refl, append-nil}
use Rattle.std.proofs.lemmas.Grind.{flat_map-append}
use Rattle.sb_s3link.specs.Entities.{begins}
use Rattle.sb_s3link.specs.Items.{AreItems, Item, Stands, item_of, mark_at, mark_in, marks_of, name_in, names_of}

-- one item more
pub items_more : (text : List ℕ) (items : List Item) (rest : List ℕ) (item : Item) (next : List ℕ)
    → AreItems text items rest → Stands rest item next → AreItems text (items ++ item ∷ []) next
items_more text [] rest item next e s = (next, subst (λ xs. Stands xs item next) (sym e) s, refl)
items_more text (i ∷ items) rest item next a s = (a.0, a.1, items_more a.0 items rest item next a.2 s)

pub names_more : (items : List Item) (item : Item) → names_of (items ++ item ∷ []) ≡ names_of items ++ name_in item
names_more items item = flat_map-append name_in items (item ∷ []) ∙ ap (λ ys. names_of items ++ ys)
    (append-nil (name_in item))

pub marks_more : (items : List Item) (item : Item) → marks_of (items ++ item ∷ []) ≡ marks_of items ++ mark_in item
marks_more items item = flat_map-append mark_in items (item ∷ []) ∙ ap (λ ys. marks_of items ++ ys)
    (append-nil (mark_in item))

-- what is no name is a mark, or a byte of something else
pub stands_else : (text : List ℕ) → begins text (codes "<Key>") ≡ false → 0 < length text
    → Stands text (item_of (mark_at text)) (drop 1 text)
stands_else text none some = by (mark_at text) refl where
  by : (at : Option Bool) → mark_at text ≡ at → Stands text (item_of at) (drop 1 text)
  by (Some more) e = (none, e, refl)
  by None e = (none, e, some, refl)

pub no_name_in : (at : Option Bool) → name_in (item_of at) ≡ []
no_name_in (Some more) = refl
no_name_in None = refl
