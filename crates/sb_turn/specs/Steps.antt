-- What each kind of step tells the seat that makes it.
use Rattle.std.specs.Prelude.{◌≡◌, ◌≢◌, ℕ, ◌<◌, List, ◌∷◌, Option, Some}
use Rattle.atomic_table.specs.Table.{Me, Step, rest}
use Rattle.sb_turn.specs.declared.view.View.{View}
use Rattle.sb_turn.specs.declared.view.Stage.TheVariants.{Out, Waits, Inside}
use Rattle.sb_turn.specs.Histories.{IsPast, ArePasts}
use Rattle.sb_turn.specs.Views.{IsWhole, IsConsistent, at_stage, with_turn, with_entry, with_reserved}

-- a seat's view, and the slot that it holds, if it does
abbrev Sat : Type 0 → Type 0 → Type 0 → Type 0
Sat S E B = Me (Option S) (View E B)

module _ {S E B : Type 0} where
  -- number: a compare-exchange of word 3. The view reserves the number, or all is as before
  abbrev pub numbers : Step (Option S) → Sat S E B → ℕ → Sat S E B → Type 0
  numbers st m r m' =
      (r ≡ st.first → (m' ≡ (with_reserved m.0 r, m.1)) × (m.0.last_given < r) × IsConsistent (with_reserved m.0 r))
      × (r ≢ st.first → m' ≡ m)

  -- draw: a compare-exchange of word 0. The seat has the ticket, or all is as before
  abbrev pub draws : Step (Option S) → Sat S E B → ℕ → Sat S E B → Type 0
  draws st m r m' = (r ≡ st.first → m' ≡ (at_stage m.0 (Waits r), m.1)) × (r ≢ st.first → m' ≡ m)

  -- entry: an addition to word 2. What was seen and the pass's own entries gain the entry
  abbrev pub adds : List (ℕ × E) → Step (Option S) → Sat S E B → ℕ → Sat S E B → Type 0
  adds made st m r m' =
      (t : ℕ) → m.0.stage ≡ Inside t → (m' ≡ (with_entry m.0 t made, m.1)) × IsConsistent (with_entry m.0 t made)

  -- pass on: an addition to word 1. The seat has no ticket, and the slot is given back
  abbrev pub passes_on : Step (Option S) → Sat S E B → ℕ → Sat S E B → Type 0
  passes_on st m r m' = m' ≡ (at_stage m.0 Out, rest m.1)

  -- a load that changes nothing
  abbrev pub learns : Step (Option S) → Sat S E B → ℕ → Sat S E B → Type 0
  learns st m r m' = (m' ≡ m) × IsConsistent m.0 × ArePasts m.0.merged m.0.seen

module _ {S E B : Type 0} (stands : S → List (ℕ × E) → Type 0) (base : S → B) where
  -- the seat has the turn by the ticket t, has seen the whole history and holds the value that stands for it
  abbrev pub Entered : ℕ → Sat S E B → Sat S E B → Type 0
  Entered t m m' = (x : S) × (history : List (ℕ × E))
      × (m' ≡ (with_turn m.0 t history, (0, Some x) ∷ m.1)) × stands x history × IsPast m.0.seen history
      × (m.0.base ≡ Some (base x)) × IsConsistent (with_turn m.0 t history) × (IsWhole m.0 → history ≡ m.0.seen)

  -- look: a load of word 1. Where it is the ticket the seat has the turn, and else all is as before
  abbrev pub looks : Step (Option S) → Sat S E B → ℕ → Sat S E B → Type 0
  looks st m r m' = (m.0.stage ≡ Waits r → Entered r m m') × (m.0.stage ≢ Waits r → m' ≡ m)
