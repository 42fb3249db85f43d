-- Each listing has one answer.
use Rattle.std.proofs.Common.{ℕ, ◌≡◌, ◌∙◌, Bool, true, false, List, [], ◌∷◌, length, drop, codes, ap}
use Rattle.std.proofs.Common.{sym, subst, refl, arith, Some, None, Ok, Err}
use Rattle.sb_s3link.specs.declared.listing.ListingFault.TheVariants.{KeyCut, NoTruncatedMark, Memory}
use Rattle.sb_s3link.specs.Entities.{begins}
use Rattle.sb_s3link.specs.Items.{AreItems, Item, Stands, key, mark, other, marks_of, names_of}
use Rattle.sb_s3link.specs.Laws.{ListingsAgree}
use Rattle.sb_s3link.specs.Listings.{IsCut, IsWhole}
use Rattle.sb_s3link.specs.Names.{HasNoName}
use Rattle.sb_s3link.proofs.NamesRead.{one_name}

true_false : true ≡ false → ⊥
true_false e = cc e

some_same : (m n : Bool) → Some m ≡ Some n → m ≡ n
some_same m n e = cc e

none_some : (m : Bool) → None ≡ Some m → ⊥
none_some m e = cc e

-- one item stands at a place
one_item : (text : List ℕ) (i j : Item) (r q : List ℕ) → Stands text i r → Stands text j q → (i ≡ j) × (r ≡ q)
one_item text (key name) (key next) r q a b =
    let same = one_name (drop 5 text) name next r q a.1 b.1 in
    (ap key same.0, same.1)
one_item text (key name) (mark m) r q a b = absurd (true_false (sym a.0 ∙ b.0))
one_item text (key name) other r q a b = absurd (true_false (sym a.0 ∙ b.0))
one_item text (mark m) (key next) r q a b = absurd (true_false (sym b.0 ∙ a.0))
one_item text (mark m) (mark n) r q a b = (ap mark (some_same m n (sym a.1 ∙ b.1)), a.2 ∙ sym b.2)
one_item text (mark m) other r q a b = absurd (none_some m (sym b.1 ∙ a.1))
one_item text other (key next) r q a b = absurd (true_false (sym b.0 ∙ a.0))
one_item text other (mark n) r q a b = absurd (none_some n (sym a.1 ∙ b.1))
one_item text other other r q a b = (refl, a.3 ∙ sym b.3)

-- no item stands there
abbrev IsLast : List ℕ → Type 0
IsLast text = (item : Item) (next : List ℕ) → Stands text item next → ⊥

last_empty : IsLast []
last_empty (key name) next s = true_false (sym s.0)
last_empty (mark m) next s = none_some m s.1
last_empty other next s = omega (arith, s.2)

last_cut : (rest : List ℕ) → begins rest (codes "<Key>") ≡ true → HasNoName (drop 5 rest) → IsLast rest
last_cut rest begun none (key name) next s = none name next s.1
last_cut rest begun none (mark m) next s = true_false (sym begun ∙ s.0)
last_cut rest begun none other next s = true_false (sym begun ∙ s.0)

-- the items of a text are one list
one_list : (text : List ℕ) (xs ys : List Item) (r q : List ℕ) → AreItems text xs r → AreItems text ys q → IsLast r
    → IsLast q → (xs ≡ ys) × (r ≡ q)
one_list text [] [] r q a b u v = (refl, sym a ∙ b)
one_list text [] (y ∷ ys) r q a b u v = absurd (u y b.0 (subst (λ xs. Stands xs y b.0) a b.1))
one_list text (x ∷ xs) [] r q a b u v = absurd (v x a.0 (subst (λ zs. Stands zs x a.0) b a.1))
one_list text (x ∷ xs) (y ∷ ys) r q a b u v =
    let same = one_item text x y a.0 b.0 a.1 b.1 in
    let more = one_list a.0 xs ys r q a.2 (subst (λ zs. AreItems zs ys q) (sym same.1) b.2) u v in
    (cc (same.0, more.0), more.1)

whole_is : (text : List ℕ) (xs ys : List Item) → IsWhole text xs → IsWhole text ys → xs ≡ ys
whole_is text xs ys a b = (one_list text xs ys [] [] a b last_empty last_empty).0

cut_is : (text : List ℕ) (xs ys : List Item) (m n : ℕ) → IsCut text xs m → IsCut text ys n → (xs ≡ ys) × (m ≡ n)
cut_is text xs ys m n a b =
    let same = one_list text xs ys a.rest b.rest a.read b.read (last_cut a.rest a.begun a.none)
    (last_cut b.rest b.begun b.none) in
    (same.0, omega (arith, a.place, b.place, ap (λ (zs : List ℕ). length zs) same.1))

whole_not_cut : (text : List ℕ) (xs ys : List Item) (n : ℕ) → IsWhole text xs → IsCut text ys n → ⊥
whole_not_cut text xs ys n a b =
    let same = one_list text xs ys [] b.rest a b.read last_empty (last_cut b.rest b.begun b.none) in
    true_false (sym b.begun ∙ ap (λ zs. begins zs (codes "<Key>")) (sym same.1))

only_mark : (m n : Bool) → m ∷ [] ≡ n ∷ [] → m ≡ n
only_mark m n e = cc e

pub listings_agree : ListingsAgree
listings_agree text names also (Ok m) (Ok n) a b u v =
    let same = whole_is text a.0 b.0 a.1 b.1 in
    (ap Ok (only_mark m n (sym a.2 ∙ ap marks_of same ∙ b.2)), a.3 ∙ ap names_of same ∙ sym b.3)
listings_agree text names also (Ok m) (Err NoTruncatedMark) a b u v =
    let same = whole_is text a.0 b.0 a.1 b.1 in
    absurd (b.2 (ap (λ (zs : List Item). length (marks_of zs)) (sym same) ∙ ap (λ (zs : List Bool). length zs) a.2))
listings_agree text names also (Ok m) (Err (KeyCut n)) a b u v = absurd (whole_not_cut text a.0 b.0 n a.1 b.1)
listings_agree text names also (Ok m) (Err Memory) a b u v = absurd (v refl)
listings_agree text names also (Err NoTruncatedMark) (Ok n) a b u v =
    let same = whole_is text a.0 b.0 a.1 b.1 in
    absurd (a.2 (ap (λ (zs : List Item). length (marks_of zs)) same ∙ ap (λ (zs : List Bool). length zs) b.2))
listings_agree text names also (Err NoTruncatedMark) (Err NoTruncatedMark) a b u v =
    (refl, a.3 ∙ ap names_of (whole_is text a.0 b.0 a.1 b.1) ∙ sym b.3)
listings_agree text names also (Err NoTruncatedMark) (Err (KeyCut n)) a b u v =
    absurd (whole_not_cut text a.0 b.0 n a.1 b.1)
listings_agree text names also (Err NoTruncatedMark) (Err Memory) a b u v = absurd (v refl)
listings_agree text names also (Err (KeyCut m)) (Ok n) a b u v = absurd (whole_not_cut text b.0 a.0 m b.1 a.1)
listings_agree text names also (Err (KeyCut m)) (Err NoTruncatedMark) a b u v =
    absurd (whole_not_cut text b.0 a.0 m b.1 a.1)
listings_agree text names also (Err (KeyCut m)) (Err (KeyCut n)) a b u v =
    let same = cut_is text a.0 b.0 m n a.1 b.1 in
    (ap (λ x. Err (KeyCut x)) same.1, a.2 ∙ ap names_of same.0 ∙ sym b.2)
listings_agree text names also (Err (KeyCut m)) (Err Memory) a b u v = absurd (v refl)
listings_agree text names also (Err Memory) result a b u v = absurd (u refl)
