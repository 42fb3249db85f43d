-- The slot that a seat has taken.
use Rattle.std.proofs.Common.{◌≡◌, ℕ, List, ◌∷◌, sym, ap, ◌∙◌}
use Rattle.atomic_table.specs.Table.{Me, rest}

-- the slot that was taken last comes first
pub slot_taken : {S V : Type 0} (me : Me S V) (v : V) (x : S) (before : List (ℕ × S)) → me ≡ (v, (0, x) ∷ before)
    → me.1 ≡ (0, x) ∷ rest me.1
slot_taken me v x before e = let is = ap (λ z. z.1) e in is ∙ (λ k. (0, x) ∷ sym (ap rest is) k)
