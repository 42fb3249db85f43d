-- Connections that come and are given back. Lists are newest first.
use Rattle.std.specs.Prelude.{ℕ, ◌≡◌, Bool, true, false, List, [], ◌∷◌, Option, Some, None, Result, Ok, Err}
use Rattle.sb_world.specs.Told.{Gains, IsEmpty}

-- a connection that was given back, with the number of the pass that served it
pub record Handed (R S : Type 0) : Type 0 where
  pub number : ℕ
  pub source : R
  pub sink : S

-- a connection just accepted: its sink is empty, and neither it nor its source has failed
pub record IsNew (held : Option (List ℕ)) (source_faults sink_faults : ℕ) : Type 0 where
  pub empty : IsEmpty held
  pub source : source_faults ≡ 0
  pub sink : sink_faults ≡ 0

-- an accept tells what the source had left, and no accept but one that answers a connection tells any
abbrev pub Accepts : {R S F : Type 0} → (R → Option (List ℕ)) → Option (List (Option (List ℕ)))
    → Option (List (Option (List ℕ))) → Result (Option (R × S)) F → Type 0
Accepts left came came' (Ok (Some c)) = Gains came came' (left c.0 ∷ [])
Accepts left came came' (Ok None) = came' ≡ came
Accepts left came came' (Err fault) = came' ≡ came

-- that no more come is told by an accept that answers none, and by no other
abbrev pub EndsAccepting : {T F : Type 0} → Option Bool → Option Bool → Result (Option T) F → Type 0
EndsAccepting over over' (Ok None) = (told : Bool) → over' ≡ Some told → told ≡ true
EndsAccepting over over' (Ok (Some c)) = over' ≡ over
EndsAccepting over over' (Err fault) = over' ≡ over

-- a listener just made: where it tells them, nothing came, nothing was given back and it isn't over, and it hasn't failed
pub record ListensAnew {R S : Type 0} (came : Option (List (Option (List ℕ)))) (over : Option Bool)
    (gave : Option (List (Handed R S))) (faults : ℕ) : Type 0 where
  pub none_came : IsEmpty came
  pub goes_on : (told : Bool) → over ≡ Some told → told ≡ false
  pub none_given : IsEmpty gave
  pub counted : faults ≡ 0
