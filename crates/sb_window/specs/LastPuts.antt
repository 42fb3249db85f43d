-- The last puts of blocks, and for how long they are kept.
use Rattle.std.specs.Prelude.{ℕ, ◌≤◌, ◌+◌, min, Bool, true, ◌||◌, nat_eq, nat_lt, if◌then◌else◌, List, [], ◌∷◌, Option}
use Rattle.std.specs.Prelude.{Some, None}
use Rattle.std.specs.List.{filter}
use Rattle.std.specs.Ordering.{nat_cmp}
use Rattle.std.specs.FinMap.{FinMap, entries, from_sorted}
use Rattle.sb_window.specs.declared.last_put.Ending.{Ending}
use Rattle.sb_window.specs.declared.last_put.LastPut.{LastPut}

-- the last put of each block that has one
abbrev pub LastPuts : Type 0
LastPuts = FinMap nat_cmp LastPut

-- when a put ended, if it did
abbrev pub end_of : Option Ending → Option ℕ
end_of None = None
end_of (Some ending) = Some ending.reading

-- what ended then is kept at a reading: while it has not ended, and for a time after that, or for ever where that is 0
abbrev pub is_end_kept : ℕ → ℕ → Option ℕ → Bool
is_end_kept time now None = true
is_end_kept time now (Some end) = nat_eq time 0 || nat_lt now (end + time)

-- the put is kept at a reading
abbrev pub is_kept : ℕ → ℕ → LastPut → Bool
is_kept time now put = is_end_kept time now (end_of put.ending)

-- the puts that are kept at a reading
abbrev pub kept_puts : ℕ → ℕ → LastPuts → LastPuts
kept_puts time now puts = from_sorted (filter (λ e. is_kept time now e.1) (entries puts))

-- the earlier of two ends, where there are two
abbrev pub earlier : Option ℕ → Option ℕ → Option ℕ
earlier None other = other
earlier (Some end) None = Some end
earlier (Some end) (Some other) = Some (min end other)

-- the earliest end of some puts, if any ended
abbrev pub earliest_end : List (ℕ × LastPut) → Option ℕ
earliest_end [] = None
earliest_end (e ∷ es) = earlier (end_of e.1.ending) (earliest_end es)

-- what ended did so by a reading
abbrev pub EndBy : ℕ → Option ℕ → Type 0
EndBy reading None = Unit {0}
EndBy reading (Some end) = end ≤ reading

abbrev pub AllEndBy : ℕ → List (ℕ × LastPut) → Type 0
AllEndBy reading [] = Unit {0}
AllEndBy reading (e ∷ es) = EndBy reading (end_of e.1.ending) × AllEndBy reading es

-- a put, if it is kept at a reading
abbrev pub if_kept : ℕ → ℕ → Option LastPut → Option LastPut
if_kept time now None = None
if_kept time now (Some put) = if is_kept time now put then Some put else None
