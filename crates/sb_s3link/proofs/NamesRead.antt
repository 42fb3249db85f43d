-- Names that are read byte by byte.
use Rattle.std.proofs.Common.{ℕ, ◌≡◌, ◌∙◌, true, false, List, [], ◌∷◌, ◌++◌, drop, ap, sym}
use Rattle.std.proofs.Common.{subst, refl, append-nil, codes, Some, None}
use Rattle.sb_s3link.specs.declared.entity.Written.{Written}
use Rattle.sb_s3link.specs.Entities.{begins, byte_at}
use Rattle.sb_s3link.specs.Names.{HasNoName, IsName, Writes}

-- one byte more
pub write_more : (text name rest : List ℕ) (at : Written) → Writes text name rest → byte_at rest ≡ Some at
    → Writes text (name ++ at.byte ∷ []) (drop at.length rest)
write_more text [] rest at w e = (at, ap byte_at w ∙ e, refl, ap (λ xs. drop at.length xs) w)
write_more text (b ∷ name) rest at w e = (w.0, w.1, w.2, write_more (drop w.0.length text) name rest at w.3 e)

end_writes_none : (rest : List ℕ) (at : Written) → byte_at (codes "</Key>" ++ rest) ≡ Some at → ⊥
end_writes_none rest at e = cc e

-- a name that stands there goes on where another reading stands
pub goes_on : (text name rest whole behind : List ℕ) → Writes text name rest → IsName text whole behind
    → (more : List ℕ) × IsName rest more behind × (whole ≡ name ++ more)
goes_on text [] rest whole behind w is = (whole, subst (λ xs. IsName xs whole behind) w is, refl)
goes_on text (b ∷ name) rest [] behind w is =
    absurd (end_writes_none behind w.0 (ap byte_at (sym is) ∙ w.1))
goes_on text (b ∷ name) rest (d ∷ whole) behind w is =
    let same : w.0 ≡ is.0 = some_same w.0 is.0 (sym w.1 ∙ is.1) in
    let next = goes_on (drop w.0.length text) name rest whole behind w.3
    (subst (λ (x : Written). Writes (drop x.length text) whole (codes "</Key>" ++ behind)) (sym same) is.3) in
    (next.0, next.1, cc (same, w.2, is.2, next.2))
  where
    some_same : (x y : Written) → Some x ≡ Some y → x ≡ y
    some_same x y e = cc e

none_some : (at : Written) → None ≡ Some at → ⊥
none_some at e = cc e

true_false : true ≡ false → ⊥
true_false e = cc e

end_begins : (behind : List ℕ) → begins (codes "</Key>" ++ behind) (codes "</Key>") ≡ true
end_begins behind = refl

-- where neither the end nor a byte stands there, no name does
pub no_name : (text name rest : List ℕ) → Writes text name rest → begins rest (codes "</Key>") ≡ false
    → byte_at rest ≡ None → HasNoName text
no_name text name rest w ends none whole behind is = by (goes_on text name rest whole behind w is) where
  by : (more : List ℕ) × IsName rest more behind × (whole ≡ name ++ more) → ⊥
  by next = at next.0 next.1 where
    at : (more : List ℕ) → IsName rest more behind → ⊥
    at [] h = true_false (sym (end_begins behind) ∙ ap (λ xs. begins xs (codes "</Key>")) (sym h) ∙ ends)
    at (b ∷ more) h = none_some h.0 (sym none ∙ h.1)

-- a name that stands there is one
pub one_name : (text name other r q : List ℕ) → IsName text name r → IsName text other q → (name ≡ other) × (r ≡ q)
one_name text name other r q a b = by next.0 next.1 next.2 where
  next : (more : List ℕ) × IsName (codes "</Key>" ++ r) more q × (other ≡ name ++ more)
  next = goes_on text name (codes "</Key>" ++ r) other q a b

  by : (more : List ℕ) → IsName (codes "</Key>" ++ r) more q → other ≡ name ++ more → (name ≡ other) × (r ≡ q)
  by [] h e = (sym (e ∙ append-nil name), cc h)
  by (x ∷ more) h e = absurd (end_writes_none r h.0 h.1)
