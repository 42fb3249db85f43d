-- The rest of a text from a place on.
use Rattle.std.proofs.Common.{ℕ, ◌≡◌, ◌+◌, ◌-◌, ◌∙◌, true, List, ◌++◌, length, drop, take}
use Rattle.std.proofs.Common.{ap, sym, arith, length-drop}
use Rattle.std.proofs.lemmas.List.{drop-drop, take_all, take-append-drop}
use Rattle.std.specs.Cmp.Lexicographic.{same_text}
use Rattle.sb_s3link.specs.Entities.{begins}

pub rest_of : (xs : List ℕ) (n : ℕ) → take (length xs - n) (drop n xs) ≡ drop n xs
rest_of xs n = take_all (length xs - n) (drop n xs) (omega (arith, length-drop n xs))

pub further : (xs : List ℕ) (n m : ℕ) → drop m (drop n xs) ≡ drop (n + m) xs
further xs n m = drop-drop m n xs

-- what begins with some bytes is these and the rest
pub begins_is : (text front : List ℕ) → begins text front ≡ true → text ≡ front ++ drop (length front) text
begins_is text front e =
    sym (take-append-drop (length front) text)
    ∙ ap (λ xs. xs ++ drop (length front) text) (sym (same_text front (take (length front) text) (sym e)))
