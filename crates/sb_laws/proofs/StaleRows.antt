-- Within which delays the worked histories are stale.
use Rattle.std.proofs.Common.{ℕ, zero, suc, ◌≡◌, ◌+◌, ◌*◌, ◌<◌, ◌≤◌, Bool, true, false, ◌&&◌, nat_lt, nat_le, Contains}
use Rattle.std.proofs.Common.{refl, arith}
use Rattle.std.proofs.lemmas.Bool.{lt-leb}
use Rattle.sb_history.specs.Puts.{puts_of}
use Rattle.sb_history.specs.Visibility.{visible_contents, IsStaleWithin}
use Rattle.sb_laws.specs.Histories.{both, a, a_at_0, b_flushed, start_shown, shown_for_good}

-- an old version shown for good
puts_stay : (n : ℕ) → puts_of (start_shown n) 0 ≡ puts_of b_flushed 0
puts_stay zero = refl
puts_stay (suc n) = puts_stay n

and_false : (t : Bool) → (t && false) ≡ false
and_false true = refl
and_false false = refl

still_visible : (place reading : ℕ) → reading < 6001
    → Contains (visible_contents (both 5001) place reading a (puts_of b_flushed 0)) a
still_visible place reading before =
    let young : nat_le 6001 reading ≡ false = lt-leb 6001 reading before in
    rw (young, and_false (nat_lt 3 place)) (1, omega arith, refl)

start_shown_within : (n : ℕ) → n ≤ 51 → IsStaleWithin 1 a_at_0 (both 5001) (start_shown n)
start_shown_within zero most = (tt, (tt, ((0, omega arith, refl), (tt, (tt, (tt, (tt, (tt, (tt, (tt, tt))))))))))
start_shown_within (suc n) most = (
  rw (puts_stay n) (still_visible _ (1000 + n * 100) (omega (arith, most))),
  (tt, start_shown_within n (omega (arith, most))),
)

pub shown_for_good_within : IsStaleWithin 1 a_at_0 (both 5001) shown_for_good
shown_for_good_within = start_shown_within 51 (omega arith)
