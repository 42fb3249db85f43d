-- A buffer that is filled from a place on.
use Rattle.std.proofs.Common.{ℕ, suc, zero, ◌≡◌, ◌≤◌, ◌<◌, ◌+◌, ◌-◌, ◌∙◌, false, List, [], ◌∷◌, ◌++◌, ap, subst, sym}
use Rattle.std.proofs.Common.{length, take, refl, arith, append-nil, Option, Result, Ok, Err, length-append}
use Rattle.std.proofs.lemmas.List.{length-take-le, take-append-le}
use Rattle.std.proofs.Math.Seq.{take-append-add, take-length}
use Rattle.sb_world.specs.declared.wire.Connection.{Connection}
use Rattle.sb_world.specs.Told.{Gains}
use Rattle.sb_world.specs.Wires.{is_end, grown, Grows, Receives}
use Rattle.sb_http.specs.Takings.{ReceivesBehind, is_nothing}
use borrow.Rule.Slice.PartMut.{put_mid, post_of}

-- a receive into a buffer that isn't empty tells the end by giving nothing
pub is_end_counts : (n : ℕ) (room : List ℕ) → 0 < length room → is_end n room ≡ is_nothing n
is_end_counts zero [] some = absurd (omega (arith, some))
is_end_counts zero (b ∷ room) some = refl
is_end_counts (suc n) [] some = refl
is_end_counts (suc n) (b ∷ room) some = refl

-- a front that goes on into what was put in the middle
pub take_filled : (n count k : ℕ) (xs ys : List ℕ) → n ≤ length xs → count ≤ length ys
    → take (n + count) (put_mid n k xs ys) ≡ take n xs ++ take count ys
take_filled n count k xs ys within more =
    let q = ys ++ post_of n k xs in
    subst (λ m. take (m + count) (take n xs ++ q) ≡ take n xs ++ take count q) (length-take-le n xs within)
    (take-append-add (take n xs) q count)
    ∙ ap (λ zs. take n xs ++ zs) (take-append-le count ys (post_of n k xs) more)

-- a front that ends before what was put in the middle
pub take_kept : (n k : ℕ) (xs ys : List ℕ) → n ≤ length xs → take n (put_mid n k xs ys) ≡ take n xs
take_kept n k xs ys within =
    let q = ys ++ post_of n k xs in
    let front = take n xs in
    subst (λ m. take m (front ++ q) ≡ front) (length-take-le n xs within)
    (take-append-le (length front) front q (omega arith) ∙ take-length front)

-- it has room for both
long : (n count k : ℕ) (xs ys : List ℕ) → n ≤ length xs → count ≤ length ys → n + count ≤ length (put_mid n k xs ys)
long n count k xs ys within more =
    omega (
      arith,
      within,
      more,
      length-append (take n xs) (ys ++ post_of n k xs),
      length-append ys (post_of n k xs),
      length-take-le n xs within,
    )

pub grown_nothing : (list : List Connection) → grown [] [] false list ≡ list
grown_nothing [] = refl
grown_nothing (newest ∷ older) =
    let with_both : List ℕ → List ℕ
    → Connection = λ sent received. record { sent = sent; received = received; ended = newest.ended } in
    ap (λ sent. with_both sent (newest.received ++ []) ∷ older) (append-nil newest.sent)
    ∙ ap (λ received. with_both newest.sent received ∷ older) (append-nil newest.received)

-- connections that gained none have not grown
pub grows_nothing : {before now : Option (List Connection)} → Gains before now [] → Grows before now [] [] false
grows_nothing gains = record {
  told = λ list e. let old = gains.told list e in (old.0, old.1, old.2 ∙ sym (grown_nothing old.0));
}

-- a receive into the part of a buffer behind its start
pub received_behind : {E : Type 0} (before now : Option (List Connection)) (start : ℕ) (old room : List ℕ)
    (result : Result ℕ E)
    → start < length old → length room ≡ length old - start → Receives before now result room
    → ReceivesBehind before now start old (put_mid start (length old - start) old room) result
received_behind before now start old room (Ok count) within len told = (
  long start count (length old - start) old room (omega (arith, within)) told.0,
  take count room,
  length-take-le count room told.0,
  take_filled start count (length old - start) old room (omega (arith, within)) told.0,
  subst (λ e. Grows before now [] (take count room) e) (is_end_counts count room (omega (arith, within, len))) told.1,
)
received_behind before now start old room (Err fault) within len told = (
  take_kept start
      (length old - start) old room (omega (arith, within)),
  grows_nothing told,
)
