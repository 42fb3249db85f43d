-- What a put acknowledged last is what the store may come to hold.
use Rattle.std.proofs.Common.{suc, ℕ, Bool, true, false, if◌then◌else◌, List, [], ◌∷◌, Contains, refl, arith}
use Rattle.sb_history.specs.Puts.{Put, puts_of, is_acknowledged}
use Rattle.sb_history.specs.Durability.{acked_of, possible_of}
use Rattle.sb_history.specs.Laws.{AckedIsPossible}

acked_in : (start : List ℕ) (puts : List Put) → Contains (possible_of start puts) (acked_of start puts)
acked_in start [] = (0, omega arith, refl)
acked_in start (put ∷ puts) = either (is_acknowledged put.ending) (acked_in start puts) where
  either : (ok : Bool) → Contains (possible_of start puts) (acked_of start puts) → Contains
      (put.content ∷ (if ok then [] else possible_of start puts)) (if ok then put.content else acked_of start puts)
  either true at = (0, omega arith, refl)
  either false at = (suc at.0, omega (arith, at.1), at.2)

pub acked_is_possible : AckedIsPossible
acked_is_possible start past block = acked_in (start block) (puts_of past block)
