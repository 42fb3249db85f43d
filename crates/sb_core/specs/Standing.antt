-- What a core under a lock stands for. The history of a lock and that of a disk are both newest first.
use Rattle.std.specs.Prelude.{ℕ, zero, suc, ◌≡◌, Bool, true, false, if◌then◌else◌, List, [], ◌∷◌, Option, Some, None}
use Rattle.sb_base.specs.declared.entry.Entry.{Entry}
use Rattle.sb_base.specs.declared.entry.EntryKind.{EntryKind}
use Rattle.sb_base.specs.declared.entry.EntryKind.TheVariants.{KnownZero, FlushBegin, Closing}
use Rattle.sb_core.specs.declared.machine.Core.{Core}
use Rattle.sb_core.specs.declared.standing.Timed.{Timed}
use Rattle.sb_core.specs.declared.standing.Fixed.{Fixed}
use Rattle.sb_core.specs.Cores.{marks_of, closed_of, last_mark_of, Represents}

-- an entry by the number of its pass
abbrev pub entry_at : ℕ × Timed → Entry
entry_at x = record { pass = x.0; reading = x.1.reading; kind = x.1.kind }

-- the entries of a lock's history
abbrev pub entries_in : List (ℕ × Timed) → List Entry
entries_in [] = []
entries_in (x ∷ xs) = entry_at x ∷ entries_in xs

-- what happened, at a reading
abbrev pub timed : ℕ → EntryKind → Timed
timed reading kind = record { reading = reading; kind = kind }

-- the part of a core that no event changes
abbrev pub fixed_of : Core → Fixed
fixed_of core = record { geometry = core.geometry; settings = core.settings }

-- whether a disk was closed, after an entry and after a history
abbrev pub closed_after : EntryKind → Bool → Bool
closed_after Closing before = true
closed_after kind before = before

abbrev pub is_closed : List Entry → Bool
is_closed [] = false
is_closed (entry ∷ past) = closed_after entry.kind (is_closed past)

-- the mark of the last flush that has begun, after an entry and after a history
abbrev pub last_mark_after : EntryKind → Option ℕ → Option ℕ
last_mark_after (FlushBegin mark) before = Some mark
last_mark_after kind before = before

abbrev pub last_mark_in : List Entry → Option ℕ
last_mark_in [] = None
last_mark_in (entry ∷ past) = last_mark_after entry.kind (last_mark_in past)

-- a core under a lock stands for a history: it represents it, and knows whether the disk was closed and the mark of the
-- last flush
pub record StandsFor (core : Core) (past : List Entry) : Type 0 where
  pub represents : Represents core past
  pub closed : closed_of core ≡ is_closed past
  pub last_mark : last_mark_of core ≡ last_mark_in past

-- the opening list of a lock: that of the blocks that are marked, each entry of pass 0
abbrev pub timed_opening : (ℕ → Bool) → ℕ → List (ℕ × Timed)
timed_opening marks zero = []
timed_opening marks (suc n) =
    if marks n then (0, timed 0 (KnownZero n)) ∷ timed_opening marks n else timed_opening marks n

-- the opening list of a core to which nothing has happened
abbrev pub opening_of : Core → List (ℕ × Timed)
opening_of core = timed_opening (marks_of core) core.geometry.blocks

-- an event adds this entry to every history that the core represented and whose last mark it has
abbrev pub AddsByMark : Core → Core → Entry → Type 0
AddsByMark old new entry =
    (past : List Entry) → last_mark_of old ≡ last_mark_in past → Represents old past → Represents new (entry ∷ past)

-- what workers are told by goes on by an entry
pub record Signals (old new : Core) (k : EntryKind) : Type 0 where
  pub closed : closed_of new ≡ closed_after k (closed_of old)
  pub last_mark : last_mark_of new ≡ last_mark_after k (last_mark_of old)
