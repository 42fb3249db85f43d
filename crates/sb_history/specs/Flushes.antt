-- Flushes, their marks, and where they began.
use Rattle.std.specs.Prelude.{ℕ, suc, nat_eq, if◌then◌else◌, List, [], ◌∷◌, length, Option, Some, None, unwrap_or, max}
use Rattle.sb_base.specs.declared.entry.EntryKind.{EntryKind}
use Rattle.sb_base.specs.declared.entry.EntryKind.TheVariants.{FlushBegin, FlushDone}
use Rattle.sb_base.specs.declared.entry.Entry.{Entry}

-- the last number of a counter of 64 bits
abbrev pub last_number : ℕ
last_number = 18446744073709551615

-- how many flushes have begun after an entry
abbrev pub flushes_after : EntryKind → ℕ → ℕ
flushes_after (FlushBegin mark) before = suc before
flushes_after kind before = before

-- how many flushes have begun
abbrev pub flushes_begun : List Entry → ℕ
flushes_begun [] = 0
flushes_begun (entry ∷ past) = flushes_after entry.kind (flushes_begun past)

-- where the last flush with this mark began, after an entry at a place
abbrev pub flush_place_after : ℕ → ℕ → EntryKind → Option ℕ → Option ℕ
flush_place_after mark place (FlushBegin of) before = if nat_eq of mark then Some place else before
flush_place_after mark place kind before = before

-- where the last flush with this mark began
abbrev pub flush_place : List Entry → ℕ → Option ℕ
flush_place [] mark = None
flush_place (entry ∷ past) mark = flush_place_after mark (length past) entry.kind (flush_place past mark)

-- the last place at which a flush that is done began, after an entry
abbrev pub flushed_place_after : List Entry → EntryKind → ℕ → ℕ
flushed_place_after past (FlushDone mark) before = max before (unwrap_or (flush_place past mark) 0)
flushed_place_after past kind before = before

-- the last place at which a flush that is done began, and 0 without one
abbrev pub flushed_place : List Entry → ℕ
flushed_place [] = 0
flushed_place (entry ∷ past) = flushed_place_after past entry.kind (flushed_place past)

-- how many flushes had begun before the entry at a place
abbrev pub epoch_at : List Entry → ℕ → ℕ
epoch_at [] place = 0
epoch_at (entry ∷ past) place = if nat_eq place (length past) then flushes_begun past else epoch_at past place
