-- What the store may come to hold, and what a flush promises of it.
use Rattle.std.specs.Prelude.{ℕ, if◌then◌else◌, List, [], ◌∷◌, Option, Some, None, Contains}
use Rattle.sb_base.specs.declared.entry.EntryKind.{EntryKind}
use Rattle.sb_base.specs.declared.entry.EntryKind.TheVariants.{FlushDone}
use Rattle.sb_base.specs.declared.entry.Entry.{Entry}
use Rattle.sb_history.specs.Contents.{Start}
use Rattle.sb_history.specs.Values.{values_since}
use Rattle.sb_history.specs.Puts.{Put, puts_of, is_acknowledged}
use Rattle.sb_history.specs.Flushes.{flush_place, flushed_place}

-- the last content of a block that a put acknowledged, by its start and its puts
abbrev pub acked_of : List ℕ → List Put → List ℕ
acked_of start [] = start
acked_of start (put ∷ puts) = if is_acknowledged put.ending then put.content else acked_of start puts

-- the last content of a block that a put acknowledged, or what it held at the start
abbrev pub acked_content : Start → List Entry → ℕ → List ℕ
acked_content start past block = acked_of (start block) (puts_of past block)

-- the contents that were put since the last one that was acknowledged, and that one, the newest first
abbrev pub possible_of : List ℕ → List Put → List (List ℕ)
possible_of start [] = start ∷ []
possible_of start (put ∷ puts) = put.content ∷ (if is_acknowledged put.ending then [] else possible_of start puts)

-- what the store may come to hold of a block if nothing more is asked of it
abbrev pub possible_contents : Start → List Entry → ℕ → List (List ℕ)
possible_contents start past block = possible_of (start block) (puts_of past block)

-- the store may come to hold of each block only what the block held since a place
abbrev pub OnlyHeldSince : Start → Option ℕ → List Entry → Type 0
OnlyHeldSince start None past = ⊥
OnlyHeldSince start (Some place) past =
    (block : ℕ) (content : List ℕ) → Contains (possible_contents start past block) content
    → Contains (values_since start place past block) content

-- at the end of a flush the store may come to hold only what each block held since the flush began
abbrev pub FlushIsDurable : Start → List Entry → EntryKind → Type 0
FlushIsDurable start past (FlushDone mark) = OnlyHeldSince start (flush_place past mark) past
FlushIsDurable start past kind = Unit {0}

-- at the end of each flush the store may come to hold only what each block held since the flush began
abbrev pub FlushesAreDurable : Start → List Entry → Type 0
FlushesAreDurable start [] = Unit {0}
FlushesAreDurable start (entry ∷ past) = FlushIsDurable start past entry.kind × FlushesAreDurable start past

-- at each moment the store may come to hold only what each block held since the last flush that is done began
abbrev pub IsCrashDurable : Start → List Entry → Type 0
IsCrashDurable start [] = OnlyHeldSince start (Some 0) []
IsCrashDurable start (entry ∷ past) =
    OnlyHeldSince start (Some (flushed_place (entry ∷ past))) (entry ∷ past) × IsCrashDurable start past
