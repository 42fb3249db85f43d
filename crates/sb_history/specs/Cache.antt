-- What a history says of the cache: which blocks are known to be zeros in the store, and what is cached.
use Rattle.std.specs.Prelude.{ℕ, Bool, true, false, ◌&&◌, nat_eq, if◌then◌else◌, List, [], ◌∷◌, Option, Some, None, unwrap_or}
use Rattle.sb_base.specs.declared.part.Part.{Part}
use Rattle.sb_base.specs.declared.entry.Shown.{Shown}
use Rattle.sb_base.specs.declared.entry.Shown.TheVariants as shown
use Rattle.sb_base.specs.declared.entry.EntryKind.{EntryKind}
use Rattle.sb_base.specs.declared.entry.EntryKind.TheVariants.{KnownZero, Write, GetEnd, PutBegin, PutEnd, Dropped}
use Rattle.sb_base.specs.declared.entry.Entry.{Entry}
use Rattle.sb_history.specs.Contents.{zeros, is_zeros, overlay}
use Rattle.sb_history.specs.Puts.{Put, puts_of, newest_is_zeros}

-- what a mount finds: the bodies that a cache file had of some blocks
pub record Found : Type 0 where
  pub body : ℕ → Option (List ℕ)

-- the content that a taken answer gives; Same gives what the cache file had
abbrev pub answer_content : ℕ → Option (List ℕ) → Shown → List ℕ
answer_content block_size found shown.Absent = zeros block_size
answer_content block_size found (shown.Bytes bytes) = bytes
answer_content block_size found shown.Same = unwrap_or found (zeros block_size)
answer_content block_size found shown.Failed = zeros block_size

-- what a write leaves of what is cached; what is not cached is zeros
abbrev pub outcome : ℕ → Option (List ℕ) → Part → List ℕ → List ℕ
outcome block_size cached part bytes = overlay (unwrap_or cached (zeros block_size)) part.offset bytes

-- the block is known to be zeros after a taken answer
abbrev pub zero_shown : ℕ → Option (List ℕ) → Shown → Bool → Bool
zero_shown block_size found shown.Absent before = true
zero_shown block_size found answer before =
    if is_zeros (answer_content block_size found answer) then before else false

-- the block is known to be zeros after an entry
abbrev pub zero_after : ℕ → ℕ → Option (List ℕ) → List Put → EntryKind → Bool → Bool
zero_after block_size block found puts (KnownZero of) before = if nat_eq of block then true else before
zero_after block_size block found puts (GetEnd of answer verify taken) before =
    if nat_eq of block then (if taken then zero_shown block_size found answer before else before) else before
zero_after block_size block found puts (PutBegin of content) before =
    if nat_eq of block then (if is_zeros content then before else false) else before
zero_after block_size block found puts (PutEnd of ok) before =
    if nat_eq of block then (if ok then (if newest_is_zeros puts then true else before) else before) else before
zero_after block_size block found puts kind before = before

-- the block is known to be zeros in the store: it was so at the opening, or its object was absent or put as zeros, and
-- nothing else was put or shown since
abbrev pub is_known_zero : ℕ → Found → List Entry → ℕ → Bool
is_known_zero block_size found [] block = false
is_known_zero block_size found (entry ∷ past) block =
    zero_after block_size block (found.body block) (puts_of past block) entry.kind
    (is_known_zero block_size found past block)

-- what is cached after a write: zeros in an uncached block that is known to be zeros aren't
abbrev pub cached_unless_zeros : Bool → Option (List ℕ) → List ℕ → Option (List ℕ)
cached_unless_zeros known_zero (Some content) written = Some written
cached_unless_zeros known_zero None written = if known_zero && is_zeros written then None else Some written

-- what is cached of a block after an entry
abbrev pub cached_after : ℕ → ℕ → Option (List ℕ) → Bool → EntryKind → Option (List ℕ) → Option (List ℕ)
cached_after block_size block found known_zero (Write part bytes) before =
    if nat_eq part.block block
    then cached_unless_zeros known_zero before (outcome block_size before part bytes) else before
cached_after block_size block found known_zero (GetEnd of answer verify taken) before =
    if nat_eq of block then (if taken then Some (answer_content block_size found answer) else before) else before
cached_after block_size block found known_zero (Dropped of) before = if nat_eq of block then None else before
cached_after block_size block found known_zero kind before = before

-- what is cached of a block
abbrev pub cached_content : ℕ → Found → List Entry → ℕ → Option (List ℕ)
cached_content block_size found [] block = None
cached_content block_size found (entry ∷ past) block =
    cached_after block_size block (found.body block) (is_known_zero block_size found past block) entry.kind
    (cached_content block_size found past block)
