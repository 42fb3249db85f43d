-- What is left of some bytes behind those that were taken.
use Rattle.std.proofs.Common.{ℕ, ◌≡◌, ◌+◌, ◌≤◌, ◌∙◌, List, ◌++◌, Some, sym, ap, take, drop, length, arith}
use Rattle.std.proofs.lemmas.List.{take-append-drop, take_at, drop-drop, drop_all, length-take-le}
use Rattle.sb_world.specs.Streams.{Takes, IsAtEnd}

some_is : {X : Type 0} {x y : X} → Some x ≡ Some y → x ≡ y
some_is same = cc

-- the front of what is left was copied to the front of a buffer
pub takes_front : (bytes copied behind : List ℕ) (at count : ℕ) → count ≤ length (drop at bytes)
    → copied ≡ take count (drop at bytes)
    → Takes (Some (drop at bytes)) (Some (drop (at + count) bytes)) (take count (copied ++ behind))
takes_front bytes copied behind at count within is =
    let long : length copied ≡ count = ap length is ∙ length-take-le count (drop at bytes) within in
    let front = take_at copied behind count long ∙ is in
    let whole : drop at bytes ≡ take count (copied ++ behind) ++ drop (at + count) bytes =
    sym (take-append-drop count (drop at bytes)) ∙ ap (λ p. p ++ drop count (drop at bytes))
    (sym front) ∙ ap (λ q. take count (copied ++ behind) ++ q) (drop-drop count at bytes) in
    record { told = λ rest is_rest. ap Some (whole ∙ ap (λ q. take count (copied ++ behind) ++ q) (some_is is_rest)) }

-- nothing is left behind the last bytes
pub at_end : (bytes : List ℕ) (at count : ℕ) → length bytes ≤ at → IsAtEnd (Some (drop (at + count) bytes))
at_end bytes at count none rest is_rest = sym (some_is is_rest) ∙ drop_all (at + count) bytes (omega (arith, none))
