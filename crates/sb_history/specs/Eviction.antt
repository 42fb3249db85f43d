-- Which blocks take an entry of the cache, and which of them is dropped next.
use Rattle.std.specs.Prelude.{ℕ, zero, suc, ◌+◌, Bool, false, not, ◌&&◌, ◌||◌, nat_eq, nat_lt, if◌then◌else◌, List, []}
use Rattle.std.specs.Prelude.{◌∷◌, length, Option, Some, None, is_some, is_none, min}
use Rattle.sb_base.specs.declared.entry.EntryKind.{EntryKind}
use Rattle.sb_base.specs.declared.entry.EntryKind.TheVariants.{KnownZero, Read, Write, GetEnd, Dropped}
use Rattle.sb_base.specs.declared.entry.Entry.{Entry}
use Rattle.sb_history.specs.Puts.{put_open}
use Rattle.sb_history.specs.Gets.{fetch_of}
use Rattle.sb_history.specs.Flushes.{last_number}
use Rattle.sb_history.specs.Cache.{Found, cached_content}
use Rattle.sb_history.specs.Writes.{is_nil, unacked_writes}

-- the body that a cache file had of a block still waits to be verified, after an entry
abbrev pub unverified_after : ℕ → EntryKind → Bool → Bool
unverified_after block (KnownZero of) before = if nat_eq of block then false else before
unverified_after block (Write part bytes) before = if nat_eq part.block block then false else before
unverified_after block (GetEnd of answer verify taken) before =
    if nat_eq of block then (if taken then false else before) else before
unverified_after block (Dropped of) before = if nat_eq of block then false else before
unverified_after block kind before = before

-- the body that a cache file had of a block still waits to be verified
abbrev pub is_unverified : Found → List Entry → ℕ → Bool
is_unverified found [] block = is_some (found.body block)
is_unverified found (entry ∷ past) block = unverified_after block entry.kind (is_unverified found past block)

-- the block takes an entry of the cache: it is cached or unverified, or a GET of it is open
abbrev pub is_occupied : ℕ → Found → List Entry → ℕ → Bool
is_occupied block_size found past block =
    is_some (cached_content block_size found past block) ||
    (is_unverified found past block || is_some (fetch_of past block))

-- a use of a block
pub record Use : Type 0 where
  pub place : ℕ
  pub reading : ℕ

-- the last use of a block after an entry at a place and a reading
abbrev pub use_after : ℕ → ℕ → ℕ → EntryKind → Use → Use
use_after block place reading (Read part bytes) before =
    if nat_eq part.block block then record { place = min place last_number; reading = reading } else before
use_after block place reading (Write part bytes) before =
    if nat_eq part.block block then record { place = min place last_number; reading = reading } else before
use_after block place reading (GetEnd of answer verify taken) before =
    if nat_eq of block
    then (if taken then record { place = min place last_number; reading = reading } else before) else before
use_after block place reading kind before = before

-- the last read, write or taken answer of a block
abbrev pub last_use : List Entry → ℕ → Use
last_use [] block = record { place = 0; reading = 0 }
last_use (entry ∷ past) block = use_after block (length past) entry.reading entry.kind (last_use past block)

-- how many of the first n numbers pass a test
abbrev pub count : (ℕ → Bool) → ℕ → ℕ
count test zero = 0
count test (suc n) = if test n then 1 + count test n else count test n

-- the first, or else the other
abbrev pub first_of : Option ℕ → Option ℕ → Option ℕ
first_of None other = other
first_of (Some n) other = Some n

-- the lowest of the first n numbers that passes a test
abbrev pub lowest : (ℕ → Bool) → ℕ → Option ℕ
lowest test zero = None
lowest test (suc n) = first_of (lowest test n) (if test n then Some n else None)

-- the one of less weight, the first at a tie
abbrev pub lighter : (ℕ → ℕ) → Option ℕ → ℕ → Option ℕ
lighter weight None n = Some n
lighter weight (Some best) n = if nat_lt (weight n) (weight best) then Some n else Some best

-- of the first n numbers that pass a test, the one of least weight, the lowest at a tie
abbrev pub lightest : (ℕ → Bool) → (ℕ → ℕ) → ℕ → Option ℕ
lightest test weight zero = None
lightest test weight (suc n) = if test n then lighter weight (lightest test weight n) n else lightest test weight n

-- the block is unverified, and no GET of it is open
abbrev pub waits_unverified : Found → List Entry → ℕ → Bool
waits_unverified found past block = is_unverified found past block && is_none (fetch_of past block)

-- the block is cached, owes the store nothing, and no put of it is open
abbrev pub is_clean : ℕ → Found → List Entry → ℕ → Bool
is_clean block_size found past block =
    is_some (cached_content block_size found past block) &&
    (is_nil (unacked_writes block_size found past block) && not (put_open past block))

-- the block that is dropped next: the lowest unverified one, else the clean one whose last use is the oldest
abbrev pub victim_of : ℕ → ℕ → Found → List Entry → Option ℕ
victim_of block_size blocks found past =
    first_of (lowest (waits_unverified found past) blocks)
    (lightest (is_clean block_size found past) (λ block. (last_use past block).place) blocks)
