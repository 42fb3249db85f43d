-- A slice written back into its buffer.
use Rattle.std.proofs.Common.{ℕ, ◌≡◌, List, ◌++◌, length, take, sym, ◌∙◌, ap}
use Rattle.std.proofs.Math.Seq.{take-append_seam}

pub slice_back : {X : Type 0} (new rest : List X) (len : ℕ) → length new ≡ len → take len (new ++ rest) ≡ new
slice_back new rest len is = ap (λ (n : ℕ). take n (new ++ rest)) (sym is) ∙ take-append_seam new rest
