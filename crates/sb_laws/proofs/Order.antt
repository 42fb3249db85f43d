-- The puts of a block in their order, each superseding those before it.
use Rattle.std.proofs.Common.{ℕ, suc, ◌≡◌, ◌+◌, ◌<◌, ◌≤◌, true, false, List, [], ◌∷◌, Option, Some, None, refl, ◌∙◌}
use Rattle.std.proofs.Common.{arith}
use Rattle.std.proofs.lemmas.Bool.{le-leb}
use Rattle.sb_history.specs.Puts.{Put, Ending, newest_is_open}
use Rattle.sb_history.specs.Visibility.{Delays, supersedes, begins_after}
use Rattle.sb_history.specs.Window.{SpacedFrom, SpacedFromEnding}

-- a put ended before a place, at a reading of at most r
abbrev pub EndingBy : ℕ → ℕ → Option Ending → Type 0
EndingBy n r None = ⊥
EndingBy n r (Some ending) = (ending.place < n) × (ending.reading ≤ r)

abbrev pub EndedBy : ℕ → ℕ → List Put → Type 0
EndedBy n r [] = Unit {0}
EndedBy n r (put ∷ puts) = EndingBy n r put.ending × EndedBy n r puts

EndingBy-later : (n m r s : ℕ) (ending : Option Ending) → n ≤ m → r ≤ s → EndingBy n r ending → EndingBy m s ending
EndingBy-later n m r s None a b by = by
EndingBy-later n m r s (Some ending) a b by = (omega (arith, a, by.0), omega (arith, b, by.1))

pub EndedBy-later : (n m r s : ℕ) (puts : List Put) → n ≤ m → r ≤ s → EndedBy n r puts → EndedBy m s puts
EndedBy-later n m r s [] a b by = tt
EndedBy-later n m r s (put ∷ puts) a b by =
    (EndingBy-later n m r s put.ending a b by.0, EndedBy-later n m r s puts a b by.1)

shut_ending : (n r : ℕ) (put : Put) (ending : Option Ending) → put.ending ≡ ending → EndingBy n r ending
    → newest_is_open (put ∷ []) ≡ false
shut_ending n r put None is by = absurd by
shut_ending n r put (Some ending) is by = rw is

pub shut : (n r : ℕ) (puts : List Put) → EndedBy n r puts → newest_is_open puts ≡ false
shut n r [] by = refl
shut n r (put ∷ puts) by = shut_ending n r put put.ending refl by.0

-- a put overtakes others
abbrev pub AllSuperseded : Delays → Put → List Put → Type 0
AllSuperseded delay put [] = Unit {0}
AllSuperseded delay put (other ∷ puts) = (supersedes delay.order put other ≡ true) × AllSuperseded delay put puts

ending_is_superseded :
    (delay : Delays) (n r : ℕ) (later : Put) (ending : Option Ending) → EndingBy n r ending → n ≤ later.place
    → r + delay.order ≤ later.reading → begins_after delay.order later ending ≡ true
ending_is_superseded delay n r later None by a b = absurd by
ending_is_superseded delay n r later (Some ending) by a b =
    let place = le-leb (suc ending.place) later.place (omega (arith, by.0, a)) in
    let reading = le-leb (ending.reading + delay.order) later.reading (omega (arith, by.1, b)) in
    rw (place, reading)

all_superseded : (delay : Delays) (n r : ℕ) (put : Put) (puts : List Put) → EndedBy n r puts → n ≤ put.place
    → r + delay.order ≤ put.reading → AllSuperseded delay put puts
all_superseded delay n r put [] by a b = tt
all_superseded delay n r put (other ∷ puts) by a b =
    (ending_is_superseded delay n r put other.ending by.0 a b, all_superseded delay n r put puts by.1 a b)

-- the newest put came after the others, and by the delay
abbrev pub EndsAfter : ℕ → Option Ending → Type 0
EndsAfter r None = Unit {0}
EndsAfter r (Some ending) = r ≤ ending.reading

abbrev pub Ordered : Delays → List Put → Type 0
Ordered delay [] = Unit {0}
Ordered delay (put ∷ puts) =
    EndedBy put.place put.reading puts × AllSuperseded delay put puts × EndsAfter put.reading put.ending

-- a new put comes after the others
new_ending : (delay : Delays) (spacing n r s : ℕ) (new put : Put) (puts : List Put) (ending : Option Ending)
    → delay.order ≤ spacing → new.place ≡ n → new.reading ≡ s → EndingBy n r ending → EndedBy n r puts
    → EndedBy put.place put.reading puts → EndsAfter put.reading ending
    → SpacedFromEnding spacing s ending → (begins_after delay.order new ending ≡ true) × AllSuperseded delay new puts
new_ending delay spacing n r s new put puts None cover a b by all order after spaced = absurd by
new_ending delay spacing n r s new put puts (Some ending) cover a b by all order after spaced = (
  ending_is_superseded delay n ending.reading new (Some ending) (by.0, omega arith) (omega (arith, a))
      (omega (arith, b, spaced, cover)),
  all_superseded delay n ending.reading new puts (both n r put.place put.reading ending.reading puts after all order)
      (omega (arith, a)) (omega (arith, b, spaced, cover)),
) where
  both_ending :
      (n r m q e : ℕ) (ending : Option Ending) → q ≤ e → EndingBy n r ending → EndingBy m q ending → EndingBy n e ending
  both_ending n r m q e None le a b = a
  both_ending n r m q e (Some ending) le a b = (a.0, omega (arith, b.1, le))

  both : (n r m q e : ℕ) (puts : List Put) → q ≤ e → EndedBy n r puts → EndedBy m q puts → EndedBy n e puts
  both n r m q e [] le a b = tt
  both n r m q e (put ∷ puts) le a b = (both_ending n r m q e put.ending le a.0 b.0, both n r m q e puts le a.1 b.1)

pub new_ordered :
    (delay : Delays) (spacing n r s : ℕ) (new : Put) (puts : List Put) → delay.order ≤ spacing → r ≤ s → new.place ≡ n
    → new.reading ≡ s → new.ending ≡ None → EndedBy n r puts → Ordered delay puts → SpacedFrom spacing s puts
    → Ordered delay (new ∷ puts)
new_ordered delay spacing n r s new [] cover later a b c by order spaced = (tt, tt, rw c tt)
new_ordered delay spacing n r s new (put ∷ puts) cover later a b c by order spaced = (
  EndedBy-later n new.place r new.reading (put ∷ puts) (omega (arith, a)) (omega (arith, b, later)) by,
  new_ending delay spacing n r s new put puts put.ending cover a b by.0 by.1 order.0 order.2 spaced,
  rw c tt,
)

still_ending : (delay : Delays) (a b : Put) (ending : Option Ending) → a.place ≡ b.place → a.reading ≡ b.reading
    → begins_after delay.order b ending ≡ begins_after delay.order a ending
still_ending delay a b None e f = refl
still_ending delay a b (Some ending) e f = rw (e, f)

pub still : (delay : Delays) (a b : Put) (puts : List Put) → a.place ≡ b.place → a.reading ≡ b.reading
    → AllSuperseded delay a puts → AllSuperseded delay b puts
still delay a b [] e f all = tt
still delay a b (x ∷ puts) e f all = (still_ending delay a b x.ending e f ∙ all.0, still delay a b puts e f all.1)
