-- A buffer that is filled piece by piece.
use Rattle.std.proofs.Common.{ℕ, ◌≡◌, ◌≤◌, ◌+◌, ◌∙◌, List, ◌++◌, ap, subst, length, take}
use Rattle.std.proofs.lemmas.List.{length-take-le, take-append-le}
use Rattle.std.proofs.Math.Seq.{take-append-add}
use borrow.Rule.Slice.PartMut.{put_mid, post_of}

-- a front that goes on into what was put in the middle
pub take_filled : (n count k : ℕ) (xs ys : List ℕ) → n ≤ length xs → count ≤ length ys
    → take (n + count) (put_mid n k xs ys) ≡ take n xs ++ take count ys
take_filled n count k xs ys within more =
    let q = ys ++ post_of n k xs in
    subst (λ m. take (m + count) (take n xs ++ q) ≡ take n xs ++ take count q) (length-take-le n xs within)
    (take-append-add (take n xs) q count)
    ∙ ap (λ zs. take n xs ++ zs) (take-append-le count ys (post_of n k xs) more)
