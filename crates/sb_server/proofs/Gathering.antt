-- Accounts of passes as these are joined.
use Rattle.std.proofs.Common.{ℕ, ◌≡◌, ◌+◌, List, [], ◌∷◌, ◌++◌, inl, inr, refl, sym, subst, arith}
use Rattle.std.proofs.Common.{◌==◌}
use Rattle.sb_turn.specs.declared.stands.Stands.{Ghosts}
use Rattle.sb_turn.specs.declared.pass.Pass.{Pass}
use Rattle.sb_turn.specs.Views.{Account, count, one_if}
use Rattle.sb_turn.specs.Passes.{mine, joined, number, HasJoined}
use Rattle.sb_core.specs.declared.machine.Core.{Core}
use Rattle.sb_core.specs.declared.standing.Timed.{Timed}
use Rattle.sb_core.specs.declared.standing.Fixed.{Fixed}
use Rattle.sb_server.specs.Accounts.{IsIn, AreIn, Gathers}

-- lists in lists
all_more_in : {X : Type 0} (xs : List X) (y : X) (ys : List X) → AreIn xs ys → AreIn xs (y ∷ ys)
all_more_in [] y ys are = tt
all_more_in (x ∷ xs) y ys are = (inr are.0, all_more_in xs y ys are.1)

are_in_itself : {X : Type 0} (xs : List X) → AreIn xs xs
are_in_itself [] = tt
are_in_itself (x ∷ xs) = (inl refl, all_more_in xs x xs (are_in_itself xs))

all_in_behind : {X : Type 0} (xs ys zs : List X) → AreIn xs zs → AreIn xs (ys ++ zs)
all_in_behind xs [] zs are = are
all_in_behind xs (y ∷ ys) zs are = all_more_in xs y (ys ++ zs) (all_in_behind xs ys zs are)

in_front : {X : Type 0} (x : X) (ys zs : List X) → IsIn x ys → IsIn x (ys ++ zs)
in_front x [] zs is = absurd is
in_front x (y ∷ ys) zs (inl same) = inl same
in_front x (y ∷ ys) zs (inr is) = inr (in_front x ys zs is)

all_in_front : {X : Type 0} (xs ys zs : List X) → AreIn xs ys → AreIn xs (ys ++ zs)
all_in_front [] ys zs are = tt
all_in_front (x ∷ xs) ys zs are = (in_front x ys zs are.0, all_in_front xs ys zs are.1)

in_still : {X : Type 0} (x : X) (ys zs : List X) → IsIn x ys → AreIn ys zs → IsIn x zs
in_still x [] zs is are = absurd is
in_still x (y ∷ ys) zs (inl same) are = subst (λ z. IsIn z zs) (sym same) are.0
in_still x (y ∷ ys) zs (inr is) are = in_still x ys zs is are.1

are_in_still : {X : Type 0} (xs ys zs : List X) → AreIn xs ys → AreIn ys zs → AreIn xs zs
are_in_still [] ys zs first second = tt
are_in_still (x ∷ xs) ys zs first second =
    (in_still x ys zs first.0 second, are_in_still xs ys zs first.1 second)

are_in_both : {X : Type 0} (xs ys zs : List X) → AreIn xs zs → AreIn ys zs → AreIn (xs ++ ys) zs
are_in_both [] ys zs first second = second
are_in_both (x ∷ xs) ys zs first second = (first.0, are_in_both xs ys zs first.1 second)

count-append : (k : ℕ) (xs ys : List (Account Timed)) → count k (xs ++ ys) ≡ count k xs + count k ys
count-append k [] ys = omega (arith)
count-append k (x ∷ xs) ys =
    let rest = count-append k xs ys in let one = one_if (x.0 == k) in omega (arith, rest)

-- nothing was joined
pub gathers_none : (accounts : List (Account Timed)) → Gathers accounts accounts []
gathers_none accounts =
    record { kept = are_in_itself accounts; all_in = tt; apart = λ k. omega (arith) }

-- some were joined, and then others
pub gathers_then : (a b c xs ys : List (Account Timed)) → Gathers a b xs → Gathers b c ys → Gathers a c (ys ++ xs)
gathers_then a b c xs ys first second = record {
  kept = are_in_still a b c first.kept second.kept;
  all_in = are_in_both ys xs c second.all_in (are_in_still xs b c first.all_in second.kept);
  apart = λ k. omega (arith, count-append k ys xs, first.apart k, second.apart k);
}

-- the same, told in the other order
pub gathers_after : (a b c xs ys : List (Account Timed)) → Gathers a b xs → Gathers b c ys → Gathers a c (xs ++ ys)
gathers_after a b c xs ys first second = record {
  kept = are_in_still a b c first.kept second.kept;
  all_in = are_in_both xs ys c (are_in_still xs b c first.all_in second.kept) second.all_in;
  apart = λ k. omega (arith, count-append k xs ys, first.apart k, second.apart k);
}

-- what is left out of what was joined
pub gathers_less : (a b xs : List (Account Timed)) (x : Account Timed) → Gathers a b (x ∷ xs) → Gathers a b xs
gathers_less a b xs x more = record {
  kept = more.kept;
  all_in = more.all_in.1;
  apart = λ k. let all = more.apart k in let one = one_if (x.0 == k) in omega (arith, all);
}

-- a pass was joined, which had joined some
pub gathers_one : (base others xs : List (Account Timed)) (a : Account Timed) → Gathers [] others xs
    → Gathers base (a ∷ (others ++ base)) (a ∷ xs)
gathers_one base others xs a theirs = record {
  kept = all_more_in base a (others ++ base) (all_in_behind base others base (are_in_itself base));
  all_in = (inl refl, all_more_in xs a (others ++ base) (all_in_front xs others base theirs.all_in));
  apart = λ k.
      let less = theirs.apart k in let one = one_if (a.0 == k) in let all = count-append k others base in
      omega (arith, less, all);
}

module _ {g : Ghosts Core Timed Fixed} where
  pub gathers_joined : (p other q : Pass Core Timed Fixed g) (xs : List (Account Timed)) → HasJoined p other q
      → Gathers [] (joined other) xs → Gathers (joined p) (joined q) ((number other, mine other) ∷ xs)
  gathers_joined p other q xs has theirs =
      subst (λ (all : List (Account Timed)). Gathers (joined p) all ((number other, mine other) ∷ xs))
      (sym has.joined) (gathers_one (joined p) (joined other) xs (number other, mine other) theirs)

  -- a new pass has joined nothing
  pub gathers_new : (p : Pass Core Timed Fixed g) → joined p ≡ [] → Gathers [] (joined p) []
  gathers_new p none =
      subst (λ (all : List (Account Timed)). Gathers [] all []) (sym none) (gathers_none [])
