-- The writes of a block that no put has acknowledged: they make it dirty, and keep flushes waiting.
use Rattle.std.specs.Prelude.{ℕ, Bool, true, false, not, ◌&&◌, nat_eq, nat_le, if◌then◌else◌, List, [], ◌∷◌, length}
use Rattle.std.specs.Prelude.{filter, Option, Some, None, unwrap_or, max}
use Rattle.std.specs.List.{list_all}
use Rattle.sb_base.specs.declared.entry.EntryKind.{EntryKind}
use Rattle.sb_base.specs.declared.entry.EntryKind.TheVariants.{Write, PutEnd}
use Rattle.sb_base.specs.declared.entry.Entry.{Entry}
use Rattle.sb_history.specs.Contents.{is_zeros}
use Rattle.sb_history.specs.Puts.{Put, puts_of, newest_is_open, put_open, newest_place}
use Rattle.sb_history.specs.Flushes.{last_number, flush_place}
use Rattle.sb_history.specs.Cache.{Found, outcome, is_known_zero, cached_content}

-- there is none
abbrev pub is_nil : {X : Type 0} → List X → Bool
is_nil [] = true
is_nil (x ∷ xs) = false

-- the unacknowledged writes of a block after an entry at a place. A write that leaves zeros where the store is known to
-- hold zeros owes nothing. An ok end of a put acknowledges what was written before the put began.
abbrev pub unacked_after : ℕ → ℕ → ℕ → Bool → Option (List ℕ) → List Put → EntryKind → List ℕ → List ℕ
unacked_after block_size block place known_zero cached puts (Write part bytes) before =
    if nat_eq part.block block
    then (if (known_zero && not (newest_is_open puts)) && is_zeros (outcome block_size cached part bytes)
    then [] else place ∷ before)
    else before
unacked_after block_size block place known_zero cached puts (PutEnd of ok) before =
    if nat_eq of block
    then (if ok then filter (λ write. nat_le (newest_place puts) write) before else before) else before
unacked_after block_size block place known_zero cached puts kind before = before

-- the places of the writes of a block that no put has acknowledged, the newest first
abbrev pub unacked_writes : ℕ → Found → List Entry → ℕ → List ℕ
unacked_writes block_size found [] block = []
unacked_writes block_size found (entry ∷ past) block =
    unacked_after block_size block (length past) (is_known_zero block_size found past block)
    (cached_content block_size found past block) (puts_of past block) entry.kind
    (unacked_writes block_size found past block)

-- the block has unacknowledged writes, and no put of it is open
abbrev pub is_dirty : ℕ → Found → List Entry → ℕ → Bool
is_dirty block_size found past block =
    not (is_nil (unacked_writes block_size found past block)) && not (put_open past block)

-- the reading of the entry at a place
abbrev pub reading_at : List Entry → ℕ → ℕ
reading_at [] place = 0
reading_at (entry ∷ past) place = if nat_eq place (length past) then entry.reading else reading_at past place

-- the last of a list of places, newest first
abbrev pub oldest : List ℕ → Option ℕ
oldest [] = None
oldest (place ∷ []) = Some place
oldest (place ∷ places) = oldest places

-- the reading of the last failed end of a put of the block, after an entry at a reading
abbrev pub failed_after : ℕ → ℕ → EntryKind → ℕ → ℕ
failed_after block reading (PutEnd of ok) before = if nat_eq of block then (if ok then before else reading) else before
failed_after block reading kind before = before

-- the reading of the last failed end of a put of the block, 0 without one
abbrev pub last_failed : List Entry → ℕ → ℕ
last_failed [] block = 0
last_failed (entry ∷ past) block = failed_after block entry.reading entry.kind (last_failed past block)

-- the reading since which a dirty block is dirty: that of its oldest unacknowledged write, or of a later failed put
abbrev pub dirty_since : ℕ → Found → List Entry → ℕ → ℕ
dirty_since block_size found past block =
    max (reading_at past (unwrap_or (oldest (unacked_writes block_size found past block)) 0)) (last_failed past block)

-- no unacknowledged write stands before the flush of this mark, which began at this place; the last mark stands for all
abbrev pub is_unstamped_by : ℕ → ℕ → List ℕ → Bool
is_unstamped_by mark place writes =
    if nat_eq mark last_number then is_nil writes else list_all (λ write. nat_le place write) writes

-- a flush of this mark has begun, and an unacknowledged write stands before it
abbrev pub is_stamped_by : ℕ → Option ℕ → List ℕ → Bool
is_stamped_by mark None writes = false
is_stamped_by mark (Some place) writes = not (is_unstamped_by mark place writes)

-- the flush of this mark has to wait for the block
abbrev pub is_stamped : ℕ → Found → List Entry → ℕ → ℕ → Bool
is_stamped block_size found past mark block =
    is_stamped_by mark (flush_place past mark) (unacked_writes block_size found past block)
