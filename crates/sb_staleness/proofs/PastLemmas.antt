-- The first entries of a history, the newest first, as a loop goes on to the next one.
use Rattle.std.proofs.Common.{◌≡◌, ℕ, ◌+◌, ◌<◌, List, [], ◌∷◌, ◌++◌, length, get_or, take, drop, reverse}
use Rattle.std.proofs.Common.{sym, ap, ◌∙◌, subst}
use Rattle.std.proofs.lemmas.List.{take_more, reverse-append, take-append-drop}
use Rattle.sb_base.specs.declared.entry.Entry.{Entry}
use Rattle.sb_history.specs.Contents.{Start}
use Rattle.sb_history.specs.Visibility.{Delays, AnswersWithin, IsStaleWithin}

-- the first entries, the newest first
abbrev pub past_at : ℕ → List Entry → List Entry
past_at place history = reverse (take place history)

-- one more entry
past_more : (history : List Entry) (place : ℕ) (d : Entry) → place < length history
    → past_at (place + 1) history ≡ get_or history place d ∷ past_at place history
past_more history place d lt =
    ap reverse (take_more history place d lt) ∙ reverse-append (take place history) (get_or history place d ∷ [])

within_past : (block_size : ℕ) (start : Start) (delays : Delays) (newer past : List Entry)
    → IsStaleWithin block_size start delays (newer ++ past) → IsStaleWithin block_size start delays past
within_past block_size start delays [] past within = within
within_past block_size start delays (entry ∷ newer) past within =
    within_past block_size start delays newer past within.1

-- each entry of a history within the delays is one that such a store may answer
pub within_at : (block_size : ℕ) (start : Start) (delays : Delays) (history : List Entry) (place : ℕ) (d : Entry)
    → place < length history → IsStaleWithin block_size start delays (reverse history)
    → AnswersWithin block_size start delays (past_at place history) (get_or history place d).kind
within_at block_size start delays history place d lt within =
    let parts : reverse history ≡ reverse (drop (place + 1) history) ++ past_at (place + 1) history =
    ap reverse (sym (take-append-drop (place + 1) history))
    ∙ reverse-append (take (place + 1) history) (drop (place + 1) history) in
    let front = within_past block_size start delays (reverse (drop (place + 1) history)) (past_at (place + 1) history)
    (subst (IsStaleWithin block_size start delays) parts within) in
    (subst (IsStaleWithin block_size start delays) (past_more history place d lt) front).0
