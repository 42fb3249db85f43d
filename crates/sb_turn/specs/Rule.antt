-- The rule of the lock: a fact about its words, its slot and the views of all seats, which each step keeps.
-- Word 0 is the next ticket, word 1 the ticket that is served, word 2 the number of entries made,
-- word 3 the next number of a pass. The slot holds the value.
use Rattle.std.specs.Prelude.{◌≡◌, ◌≢◌, ℕ, ◌+◌, ◌<◌, ◌≤◌, ◌⊎◌, List, [], ◌∷◌, length, Option, Some}
use mathlib.Core.Option as maybe
use mathlib.Core.Option.{some}
use lib.ListN.{get_elem?}
use Rattle.atomic_table.specs.Table.{State}
use Rattle.sb_turn.specs.declared.view.View.{View}
use Rattle.sb_turn.specs.Histories.{entries_of_pass, IsPast, ArePasts}
use Rattle.sb_turn.specs.Views.{times, total, HasTurn, AccountsMatch, count, accounts, claims, ticket_count_of}
use Rattle.sb_turn.specs.Views.{ticket_held_of, entry_made_of}

module _ {E B : Type 0} where
  -- some seat has the turn
  abbrev pub TurnTaken : List (View E B) → Type 0
  TurnTaken views = (j : ℕ) × (d : View E B) × (t : ℕ) × (get_elem? views j ≡ some d) × HasTurn t d.stage

  -- what the rule says of one seat
  pub record Fits (fixed : B) (start history : List (ℕ × E)) (serving numbers : ℕ) (parent : ℕ → ℕ)
      (d : View E B) : Type 0 where
    -- Lists: what was seen is a past of the one history
    pub past_seen : IsPast d.seen history
    -- Own entries, joined entries: all stand in what was seen, and are just those kept; a reserved number has none
    pub exact : AccountsMatch history d.seen (accounts d)
    -- Numbers: a view keeps the greatest number that it gave, and word 3 is above it
    pub last : (d.number ≤ d.last_given) × (d.last_given < numbers)
    -- The value: every pass has the base with which the turn was made
    pub based : 0 < d.number → d.base ≡ Some fixed
    -- Tickets: the seat with the turn has the ticket that is served, and has seen the whole history
    pub turn : (t : ℕ) → HasTurn t d.stage → (t ≡ serving) × (d.seen ≡ history)
    -- Lists: the entries of the number 0 are the opening
    pub opened : (0 < d.number → d.opening ≡ start) × (entries_of_pass 0 d.seen ≡ d.opening)
    -- Whole passes: of the numbers that its own passes gave, each is in what it handed out
    pub children : (k : ℕ) → 1 < k → k < numbers → times k d.handed_out ≡ count (parent k) (accounts d)
    pub handed_below : (k : ℕ) → numbers ≤ k → times k d.handed_out ≡ 0
    -- Whole passes: a reserved number has given none yet
    pub reserved_is_new : (m : ℕ) → d.reserved ≡ Some m → (k : ℕ) → 1 < k → k < numbers → parent k ≢ m
    -- Lists: after a join, what both had seen are pasts of what is seen
    pub both_past : ArePasts d.merged d.seen

module _ {S E B : Type 0} (stands : S → List (ℕ × E) → Type 0) (base : S → B) where
  -- the slot holds the value, which stands for the history and has the base with which the turn was made
  abbrev pub AtHome : B → List (ℕ × E) → List (maybe.Option (Option S)) → Type 0
  AtHome fixed history homes =
      (x : S) × (get_elem? homes 0 ≡ some (some (Some x))) × stands x history × (base x ≡ fixed)

  -- what the rule says of the lock as a whole
  pub record IsKept (fixed : B) (start history : List (ℕ × E)) (parent : ℕ → ℕ) (tickets serving made numbers : ℕ)
      (homes : List (maybe.Option (Option S))) (views : List (View E B)) : Type 0 where
    -- Lists: word 2 is the length of the history less that of the opening
    pub entries : length history ≡ length start + made
    pub opening_kept : entries_of_pass 0 history ≡ start
    -- Numbers: no two views have, reserve or keep the same
    pub once : (k : ℕ) → 0 < k → total (claims k) views ≤ 1
    -- Numbers: word 3 is above every number that a view has, reserves or keeps, and above that of every entry
    pub fresh : (k : ℕ) → numbers ≤ k → (total (claims k) views ≡ 0) × (entries_of_pass k history ≡ [])
    pub started : 1 < numbers
    -- Whole passes: the pass that gave a number has a smaller one
    pub parents : (k : ℕ) → 1 < k → k < numbers → (0 < parent k) × (parent k < k)
    -- Tickets: they differ
    pub drawn : (k : ℕ) → total (ticket_count_of k) views ≤ 1
    -- Tickets: each is at least the one served
    pub from_serving : (k : ℕ) → k < serving → total (ticket_count_of k) views ≡ 0
    -- Tickets: each is below the ticket word
    pub below_next : (k : ℕ) → tickets ≤ k → total (ticket_count_of k) views ≡ 0
    -- Tickets: serving plus the number of views with a ticket is the ticket word
    pub counted : serving + total ticket_held_of views ≡ tickets
    pub narrow : tickets < 18446744073709551616
    -- New entries: word 2 is at most serving, or one more where the turn's entry is made
    pub one_a_turn : made ≤ serving + total entry_made_of views
    pub each_seat : (j : ℕ) (d : View E B) → get_elem? views j ≡ some d
        → Fits fixed start history serving numbers parent d
    -- The value: it is at home, or out with the one seat that has the turn
    pub value : AtHome fixed history homes ⊎ TurnTaken views

  -- there is one history, and some words, for which all this holds
  pub record IsOrdered (fixed : B) (start : List (ℕ × E)) (s : State (Option S) (View E B)) : Type 0 where
    pub history : List (ℕ × E)
    pub tickets : ℕ
    pub serving : ℕ
    pub made : ℕ
    pub numbers : ℕ
    -- which pass gave a number
    pub parent : ℕ → ℕ
    pub words : s.words ≡ tickets ∷ serving ∷ made ∷ numbers ∷ []
    pub one_slot : length s.homes ≡ 1
    pub kept : IsKept fixed start history parent tickets serving made numbers s.homes s.views
