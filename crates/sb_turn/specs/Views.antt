-- What a seat at the table knows, how it changes, and what is counted over all seats.
use Rattle.std.specs.Prelude.{◌≡◌, ℕ, ◌+◌, ◌<◌, ◌≤◌, ◌==◌, List, [], ◌∷◌, ◌++◌, Bool, true, false, Option, Some, None}
use Rattle.sb_turn.specs.declared.view.View.{View}
use Rattle.sb_turn.specs.declared.view.Stage.{Stage}
use Rattle.sb_turn.specs.declared.view.Stage.TheVariants.{Out, Waits, Inside, Made}
use Rattle.sb_turn.specs.Histories.{entries_of_pass, longer}

abbrev pub one_if : Bool → ℕ
one_if true = 1
one_if false = 0

abbrev pub number_or_zero : Option ℕ → ℕ
number_or_zero None = 0
number_or_zero (Some n) = n

-- how often a number stands in a list
abbrev pub times : ℕ → List ℕ → ℕ
times k [] = 0
times k (x ∷ xs) = one_if (x == k) + times k xs

-- a number of each view, added up
abbrev pub total : {A : Type 0} → (A → ℕ) → List A → ℕ
total f [] = 0
total f (x ∷ xs) = f x + total f xs

-- 1 where the seat has the ticket k
abbrev pub ticket_count : ℕ → Stage → ℕ
ticket_count k Out = 0
ticket_count k (Waits t) = one_if (t == k)
ticket_count k (Inside t) = one_if (t == k)
ticket_count k (Made t) = one_if (t == k)

-- 1 where the seat has a ticket
abbrev pub ticket_held : Stage → ℕ
ticket_held Out = 0
ticket_held (Waits t) = 1
ticket_held (Inside t) = 1
ticket_held (Made t) = 1

-- 1 where the entry of the turn is made
abbrev pub entry_made : Stage → ℕ
entry_made Out = 0
entry_made (Waits t) = 0
entry_made (Inside t) = 0
entry_made (Made t) = 1

-- the seat has the turn, by this ticket
abbrev pub HasTurn : ℕ → Stage → Type 0
HasTurn t Out = ⊥
HasTurn t (Waits u) = ⊥
HasTurn t (Inside u) = u ≡ t
HasTurn t (Made u) = u ≡ t

-- an account is the number of a pass, with all entries of that pass
abbrev pub Account : Type 0 → Type 0
Account E = ℕ × List (ℕ × E)

module _ {E : Type 0} where
  -- how many accounts of the number k there are
  abbrev pub count : ℕ → List (Account E) → ℕ
  count k [] = 0
  count k (x ∷ xs) = one_if (x.0 == k) + count k xs

  -- of each number accounted for, the history and what was seen of it have just the entries of the account.
  -- 0 is the number of no pass
  abbrev pub AccountsMatch : List (ℕ × E) → List (ℕ × E) → List (Account E) → Type 0
  AccountsMatch history seen [] = Unit {0}
  AccountsMatch history seen (x ∷ xs) =
      (0 < x.0 → (entries_of_pass x.0 history ≡ x.1) × (entries_of_pass x.0 seen ≡ x.1)) × AccountsMatch history seen xs

  -- a number that is reserved has no entry
  abbrev pub reserved_account : Option ℕ → List (Account E)
  reserved_account None = []
  reserved_account (Some n) = (n, []) ∷ []

module _ {E B : Type 0} where
  -- every number that a view has, reserves or took in by a join
  abbrev pub accounts : View E B → List (Account E)
  accounts d = (d.number, d.mine) ∷ (reserved_account d.reserved ++ d.joined)

  abbrev pub claims : ℕ → View E B → ℕ
  claims k d = count k (accounts d)

  abbrev pub ticket_count_of : ℕ → View E B → ℕ
  ticket_count_of k d = ticket_count k d.stage

  abbrev pub ticket_held_of : View E B → ℕ
  ticket_held_of d = ticket_held d.stage

  abbrev pub entry_made_of : View E B → ℕ
  entry_made_of d = entry_made d.stage

  -- the view of the first pass
  abbrev pub first_view : B → List (ℕ × E) → View E B
  first_view b log = record {
    number = 1;
    reserved = None;
    last_given = 1;
    stage = Out;
    base = Some b;
    opening = log;
    handed_out = [];
    seen = log;
    mine = [];
    joined = [];
    merged = [];
  }

  abbrev pub at_stage : View E B → Stage → View E B
  at_stage d st = record d { stage = st }

  -- it has the turn by the ticket t, and has seen the whole history
  abbrev pub with_turn : View E B → ℕ → List (ℕ × E) → View E B
  with_turn d t history = record d { stage = Inside t; seen = history; merged = [] }

  -- it has made the entry of its turn
  abbrev pub with_entry : View E B → ℕ → List (ℕ × E) → View E B
  with_entry d t made = record d { stage = Made t; seen = made ++ d.seen; mine = made ++ d.mine; merged = [] }

  -- it reserves the number n for a new pass
  abbrev pub with_reserved : View E B → ℕ → View E B
  with_reserved d n = record d { reserved = Some n; last_given = n; handed_out = n ∷ d.handed_out }

  abbrev pub without_reserved : View E B → View E B
  without_reserved d = record d { reserved = None }

  -- the view of the pass that gets the reserved number
  abbrev pub newcomer : View E B → View E B
  newcomer d = record {
    number = number_or_zero d.reserved;
    reserved = None;
    last_given = number_or_zero d.reserved;
    stage = Out;
    base = d.base;
    opening = d.opening;
    handed_out = [];
    seen = d.seen;
    mine = [];
    joined = [];
    merged = [];
  }

  -- v with all that w knew
  abbrev pub union_of : View E B → View E B → View E B
  union_of v w = record v {
    handed_out = w.handed_out ++ v.handed_out;
    seen = longer v.seen w.seen;
    joined = (w.number, w.mine) ∷ (w.joined ++ v.joined);
    merged = v.seen ∷ w.seen ∷ [];
  }

  -- what is left of a view that was joined to another
  abbrev pub spent_view : View E B
  spent_view = record {
    number = 0;
    reserved = None;
    last_given = 0;
    stage = Out;
    base = None;
    opening = [];
    handed_out = [];
    seen = [];
    mine = [];
    joined = [];
    merged = [];
  }

  -- the first pass, to which every other came back: each number that was handed out was joined as often
  pub record IsWhole (d : View E B) : Type 0 where
    pub is_first : d.number ≡ 1
    pub none_reserved : d.reserved ≡ None
    pub all_back : (k : ℕ) → 0 < k → count k d.joined ≡ times k d.handed_out

  -- what was seen agrees with what the view keeps
  pub record IsConsistent (d : View E B) : Type 0 where
    -- it has just the entries kept, of the view's own number and of each that was joined
    pub exact : AccountsMatch d.seen d.seen (accounts d)
    -- no number stands twice
    pub apart : (k : ℕ) → 0 < k → count k (accounts d) ≤ 1
    pub own_below : d.number ≤ d.last_given
    -- the entries of the number 0 are the opening
    pub opened : entries_of_pass 0 d.seen ≡ d.opening
    -- a whole view has seen no entry of another number
    pub no_other : IsWhole d → (k : ℕ) → 0 < k → count k (accounts d) ≡ 0 → entries_of_pass k d.seen ≡ []
