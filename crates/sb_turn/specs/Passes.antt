-- What clauses say of a pass.
use Rattle.std.specs.Prelude.{◌≡◌, ℕ, List, [], ◌∷◌, ◌++◌, Option, None}
use Rattle.sb_turn.specs.declared.view.Stage.TheVariants.{Out, Inside}
use Rattle.sb_turn.specs.declared.stands.Stands.{Ghosts}
use Rattle.sb_turn.specs.declared.pass.Pass.{Pass}
use Rattle.sb_turn.specs.declared.held.Held.{Held}
use Rattle.sb_turn.specs.declared.turn.Turn.{Turn}
use Rattle.sb_turn.specs.Views.{Account, IsConsistent, IsWhole}

-- how often a waiter looks before it sleeps
abbrev pub looks_of : {S E B : Type 0} → Turn S E B → ℕ
looks_of t = t.looks

-- the value of a turn
abbrev pub held : {S E B : Type 0} → Held S E B → S
held h = h.value

abbrev pub with_value : {S E B : Type 0} → Held S E B → S → Held S E B
with_value h x = record { value = x }

module _ {S E B : Type 0} {g : Ghosts S E B} where
  -- the history as far as this pass has seen it, newest first
  abbrev pub seen : Pass S E B g → List (ℕ × E)
  seen p = p.seat.me.0.seen

  -- the pass's own entries, newest first
  abbrev pub mine : Pass S E B g → List (ℕ × E)
  mine p = p.seat.me.0.mine

  -- the numbers of the passes that were joined, each with its entries
  abbrev pub joined : Pass S E B g → List (Account E)
  joined p = p.seat.me.0.joined

  abbrev pub number : Pass S E B g → ℕ
  number p = p.seat.me.0.number

  -- the greatest number that it gave, at first its own
  abbrev pub last_given : Pass S E B g → ℕ
  last_given p = p.seat.me.0.last_given

  -- the numbers that it gave, and those that the joined passes gave
  abbrev pub handed_out : Pass S E B g → List ℕ
  handed_out p = p.seat.me.0.handed_out

  -- the list for which the value stood when the turn was made
  abbrev pub opening : Pass S E B g → List (ℕ × E)
  opening p = p.seat.me.0.opening

  -- the part of the value that no turn changes
  abbrev pub base_of : Pass S E B g → Option B
  base_of p = p.seat.me.0.base

  -- it is the first pass, and every other came back to it
  abbrev pub IsWholePass : Pass S E B g → Type 0
  IsWholePass p = IsWhole p.seat.me.0

  -- it is a pass of this lock
  abbrev pub IsPassOf : Turn S E B → Pass S E B g → Type 0
  IsPassOf t p = p.seat.table_id ≡ t.table.shared.table_id

  -- it holds no turn. What it has seen has of its own number just `mine`,
  -- and of each number in `joined` just what is kept there
  abbrev pub IsFree : Pass S E B g → Type 0
  IsFree p = (p.seat.me.0.stage ≡ Out) × (p.seat.me.1 ≡ []) × (p.seat.me.0.reserved ≡ None) × IsConsistent p.seat.me.0

  -- it holds the turn
  abbrev pub HoldsTurn : Pass S E B g → Type 0
  HoldsTurn p = ((t : ℕ) × (p.seat.me.0.stage ≡ Inside t)) × (p.seat.me.1 ≡ (0, None) ∷ [])
      × (p.seat.me.0.reserved ≡ None) × IsConsistent p.seat.me.0

  -- it is the same pass, and gave and joined nothing since
  pub record IsSamePass (p q : Pass S E B g) : Type 0 where
    pub lock : q.seat.table_id ≡ p.seat.table_id
    pub number : q.seat.me.0.number ≡ p.seat.me.0.number
    pub joined : q.seat.me.0.joined ≡ p.seat.me.0.joined
    pub base : q.seat.me.0.base ≡ p.seat.me.0.base
    pub last_given : q.seat.me.0.last_given ≡ p.seat.me.0.last_given
    pub handed_out : q.seat.me.0.handed_out ≡ p.seat.me.0.handed_out
    pub opening : q.seat.me.0.opening ≡ p.seat.me.0.opening

  -- it is the same pass, which gave one number more
  pub record HasSplit (p : Pass S E B g) (new : ℕ) (q : Pass S E B g) : Type 0 where
    pub lock : q.seat.table_id ≡ p.seat.table_id
    pub number : q.seat.me.0.number ≡ p.seat.me.0.number
    pub seen : q.seat.me.0.seen ≡ p.seat.me.0.seen
    pub mine : q.seat.me.0.mine ≡ p.seat.me.0.mine
    pub joined : q.seat.me.0.joined ≡ p.seat.me.0.joined
    pub base : q.seat.me.0.base ≡ p.seat.me.0.base
    pub last_given : q.seat.me.0.last_given ≡ new
    pub handed_out : q.seat.me.0.handed_out ≡ new ∷ p.seat.me.0.handed_out
    pub opening : q.seat.me.0.opening ≡ p.seat.me.0.opening

  -- it knows what the other knows, and has made nothing
  pub record IsNewFrom (p q : Pass S E B g) : Type 0 where
    pub seen : q.seat.me.0.seen ≡ p.seat.me.0.seen
    pub mine : q.seat.me.0.mine ≡ []
    pub joined : q.seat.me.0.joined ≡ []
    pub base : q.seat.me.0.base ≡ p.seat.me.0.base
    pub last_given : q.seat.me.0.last_given ≡ q.seat.me.0.number
    pub handed_out : q.seat.me.0.handed_out ≡ []
    pub opening : q.seat.me.0.opening ≡ p.seat.me.0.opening

  -- it is the same pass, which has also what the other made, joined and handed out
  pub record HasJoined (p other q : Pass S E B g) : Type 0 where
    pub lock : q.seat.table_id ≡ p.seat.table_id
    pub number : q.seat.me.0.number ≡ p.seat.me.0.number
    pub mine : q.seat.me.0.mine ≡ p.seat.me.0.mine
    pub joined : q.seat.me.0.joined
        ≡ (other.seat.me.0.number, other.seat.me.0.mine) ∷ (other.seat.me.0.joined ++ p.seat.me.0.joined)
    pub base : q.seat.me.0.base ≡ p.seat.me.0.base
    pub last_given : q.seat.me.0.last_given ≡ p.seat.me.0.last_given
    pub handed_out : q.seat.me.0.handed_out ≡ other.seat.me.0.handed_out ++ p.seat.me.0.handed_out
    pub opening : q.seat.me.0.opening ≡ p.seat.me.0.opening
