-- How many blocks a listing has.
use Rattle.std.proofs.Common.{ℕ, ◌≡◌, ◌<◌, ◌≤◌, ◌^◌, Bool, true, false, List, [], ◌∷◌, ◌++◌, Some, None, length, refl, sym, ap, ◌∙◌, arith}
use Rattle.std.specs.Prelude.{Option, ◌||◌, if◌then◌else◌}
use Rattle.std.proofs.Math.Dec.{eqb}
use Rattle.std.proofs.lemmas.Bool.{ne_eqb}
use Rattle.std.specs.List.{AllByRecursion, IsDistinct, list_any, cons_option}
use Rattle.std.proofs.lemmas.Map.Views.{exact_unsigned_eq}
use Rattle.std.proofs.lemmas.Map.Steps.{length-le_from_distinct_below}
use Rattle.std.proofs.lemmas.Cmp.{nat_list_cmp_total}
use Rattle.std.proofs.lemmas.Slice.Eq.{bytes_eq-Decides}
use Rattle.std.specs.Str.{bytes_eq}
use Rattle.std.specs.Ordering.{nat_cmp, is_gt, ordering_reverse}
use Rattle.std.specs.Cmp.Lexicographic.{slice_cmp}
use Rattle.std.specs.declared.cmp.Ordering.{Ordering}
use Rattle.std.specs.declared.cmp.Ordering.TheVariants.{Less, Equal, Greater}
use Rattle.sb_names.specs.Names.{object_name_of}
use Rattle.sb_tools.specs.Blocks.{block_of, blocks_in}
use Rattle.sb_tools.specs.Listings.{Listed, IsListing, disorder_in, fallen_in, is_above, last_of, marker_of, names_of}
use Rattle.sb_tools.proofs.Finding.{greatest_below-meets}

-- ---- byte order

less_from : (there back : Ordering) → back ≡ ordering_reverse there → is_gt there ≡ true → back ≡ Less
less_from Less back e greater = absurd (cc)
less_from Equal back e greater = absurd (cc)
less_from Greater back e greater = e

greater_from : (there back : Ordering) → back ≡ ordering_reverse there → there ≡ Less → is_gt back ≡ true
greater_from Less back e less = ap is_gt e
greater_from Equal back e less = absurd (cc)
greater_from Greater back e less = absurd (cc)

precedes : (before name : List ℕ) → is_above before name ≡ true → slice_cmp nat_cmp before name ≡ Less
precedes before name = less_from (slice_cmp nat_cmp name before) (slice_cmp nat_cmp before name)
    (nat_list_cmp_total.antisymm before name)

above_above : (before name higher : List ℕ) → is_above before name ≡ true → is_above name higher ≡ true
    → is_above before higher ≡ true
above_above before name higher first next =
    greater_from (slice_cmp nat_cmp before higher) (slice_cmp nat_cmp higher before)
    (nat_list_cmp_total.antisymm higher before)
    (nat_list_cmp_total.trans before name higher (precedes before name first) (precedes name higher next))

not_above : (name : List ℕ) → is_above name name ≡ true → ⊥
not_above name above =
    let less = precedes name name above in
    let not_greater = ap is_gt less in
    cc (not_greater, above)

-- ---- names in order

parts_in_order : (above : Bool) (rest : Option (List ℕ)) (name : List ℕ) → (if above then rest else Some name) ≡ None
    → (above ≡ true) × (rest ≡ None)
parts_in_order true rest name e = (refl, e)
parts_in_order false rest name e = absurd (cc)

joined_in_order : (above : Bool) (rest : Option (List ℕ)) (name : List ℕ) → above ≡ true → rest ≡ None
    → (if above then rest else Some name) ≡ None
joined_in_order true rest name is e = e
joined_in_order false rest name is e = absurd (cc)

lower : (before name : List ℕ) (names : List (List ℕ)) → is_above before name ≡ true → fallen_in name names ≡ None
    → fallen_in before names ≡ None
lower before name [] above e = refl
lower before name (higher ∷ names) above e =
    let parts = parts_in_order (is_above name higher) (fallen_in higher names) higher e in
    joined_in_order (is_above before higher) (fallen_in higher names) higher
    (above_above before name higher above parts.0) parts.1

fallen_append : (before : List ℕ) (names more : List (List ℕ)) → fallen_in before names ≡ None
    → fallen_in (last_of before names) more ≡ None → fallen_in before (names ++ more) ≡ None
fallen_append before [] more early late = late
fallen_append before (name ∷ names) more early late =
    let parts = parts_in_order (is_above before name) (fallen_in name names) name early in
    joined_in_order (is_above before name) (fallen_in name (names ++ more)) name parts.0
    (fallen_append name names more parts.1 late)

last_append : (before : List ℕ) (names more : List (List ℕ))
    → last_of (last_of before names) more ≡ last_of before (names ++ more)
last_append before [] more = refl
last_append before (name ∷ names) more = last_append name names more

no_fall : (before : List ℕ) (names : List (List ℕ)) (more : Bool) → disorder_in before names more ≡ None
    → fallen_in before names ≡ None
no_fall before [] more e = refl
no_fall before (name ∷ names) true e = e
no_fall before (name ∷ names) false e = e

marker_is : (pages : List Listed) → marker_of pages ≡ last_of [] (names_of pages)
marker_is [] = refl
marker_is (page ∷ older) =
    ap (λ (behind : List ℕ). last_of behind page.names) (marker_is older) ∙ last_append [] (names_of older) page.names

names_in_order : (pages : List Listed) → IsListing pages → fallen_in [] (names_of pages) ≡ None
names_in_order [] listing = refl
names_in_order (page ∷ older) listing =
    let order = no_fall (marker_of older) page.names page.more listing.0 in
    fallen_append [] (names_of older) page.names (names_in_order older listing.3)
    (rw marker_is at order)

-- ---- blocks that differ

named : (prefix : List ℕ) (hashed : Bool) (name : List ℕ) (block : ℕ) → block_of prefix hashed name ≡ Some block
    → (block < 2 ^ 32) × (name ≡ object_name_of prefix block hashed)
unfolding block_of
named prefix hashed name block e =
    let found = greatest_below-meets (2 ^ 32) (λ other. bytes_eq name (object_name_of prefix other hashed)) block e in
    (found.0, (bytes_eq-Decides name (object_name_of prefix block hashed)).0 found.1)

differ : (prefix : List ℕ) (hashed : Bool) (before name : List ℕ) (block other : ℕ) → is_above before name ≡ true
    → block_of prefix hashed before ≡ Some block → block_of prefix hashed name ≡ Some other → eqb block other ≡ false
differ prefix hashed before name block other above first next =
    ne_eqb block other
    (λ same.
    let one = named prefix hashed before block first in
    let two = named prefix hashed name other next in
    let names : before ≡ name = one.1 ∙ ap (λ (n : ℕ). object_name_of prefix n hashed) same ∙ sym two.1 in
    not_above name (rw names at above))

absent_with : (block : ℕ) (read : Option ℕ) (blocks : List ℕ) → ((other : ℕ) → read ≡ Some other → eqb block other ≡ false)
    → AllByRecursion (λ other. eqb block other ≡ false) blocks
    → AllByRecursion (λ other. eqb block other ≡ false) (cons_option read blocks)
absent_with block None blocks first rest = rest
absent_with block (Some other) blocks first rest = (first other refl, rest)

absent : (prefix : List ℕ) (hashed : Bool) (before : List ℕ) (block : ℕ) (names : List (List ℕ))
    → fallen_in before names ≡ None → block_of prefix hashed before ≡ Some block
    → AllByRecursion (λ other. eqb block other ≡ false) (blocks_in prefix hashed names)
absent prefix hashed before block [] order is = tt
absent prefix hashed before block (name ∷ names) order is =
    let parts = parts_in_order (is_above before name) (fallen_in name names) name order in
    absent_with block (block_of prefix hashed name) (blocks_in prefix hashed names)
    (λ other e. differ prefix hashed before name block other parts.0 is e)
    (absent prefix hashed before block names (lower before name names parts.0 parts.1) is)

distinct_with : (read : Option ℕ) (blocks : List ℕ)
    → ((block : ℕ) → read ≡ Some block → AllByRecursion (λ other. eqb block other ≡ false) blocks)
    → IsDistinct eqb blocks → IsDistinct eqb (cons_option read blocks)
unfolding IsDistinct
distinct_with None blocks first rest = rest
distinct_with (Some block) blocks first rest = (first block refl, rest)

distinct : (prefix : List ℕ) (hashed : Bool) (before : List ℕ) (names : List (List ℕ)) → fallen_in before names ≡ None
    → IsDistinct eqb (blocks_in prefix hashed names)
unfolding IsDistinct
distinct prefix hashed before [] order = tt
distinct prefix hashed before (name ∷ names) order =
    let parts = parts_in_order (is_above before name) (fallen_in name names) name order in
    distinct_with (block_of prefix hashed name) (blocks_in prefix hashed names)
    (λ block e. absent prefix hashed name block names parts.1 e) (distinct prefix hashed name names parts.1)

below_first : (block q : ℕ) (here behind : Bool) → here ≡ eqb q block → block < 2 ^ 32 → (behind ≡ true → q < 2 ^ 32)
    → (here || behind) ≡ true → q < 2 ^ 32
below_first block q true behind is fits rest e =
    let same : q ≡ block = exact_unsigned_eq q block (sym is) in
    omega (arith, same, fits)
below_first block q false behind is fits rest e = rest e

below_with : (read : Option ℕ) (blocks : List ℕ) (q : ℕ) → ((block : ℕ) → read ≡ Some block → block < 2 ^ 32)
    → (list_any (eqb q) blocks ≡ true → q < 2 ^ 32) → list_any (eqb q) (cons_option read blocks) ≡ true → q < 2 ^ 32
below_with None blocks q first rest e = rest e
below_with (Some block) blocks q first rest e =
    below_first block q (eqb q block) (list_any (eqb q) blocks) refl (first block refl) rest e

below : (prefix : List ℕ) (hashed : Bool) (names : List (List ℕ)) (q : ℕ)
    → list_any (eqb q) (blocks_in prefix hashed names) ≡ true → q < 2 ^ 32
below prefix hashed [] q e = absurd (cc)
below prefix hashed (name ∷ names) q e =
    below_with (block_of prefix hashed name) (blocks_in prefix hashed names) q
    (λ block is. (named prefix hashed name block is).0) (below prefix hashed names q) e

-- no block is listed twice: there are at most 2^32
pub names_fit : (prefix : List ℕ) (hashed : Bool) (pages : List Listed) → IsListing pages
    → length (blocks_in prefix hashed (names_of pages)) ≤ 2 ^ 32
names_fit prefix hashed pages listing =
    length-le_from_distinct_below (blocks_in prefix hashed (names_of pages)) (2 ^ 32)
    (distinct prefix hashed [] (names_of pages) (names_in_order pages listing)) (below prefix hashed (names_of pages))
