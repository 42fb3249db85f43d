-- Worked histories over tiny blocks, the newest entry first.
use Rattle.std.specs.Prelude.{ℕ, ◌≡◌, ◌+◌, ◌*◌, ◌≤◌, zero, suc, Bool, true, false, nat_eq, if◌then◌else◌, List, [], ◌∷◌}
use Rattle.std.specs.Prelude.{length, Option, Some, None}
use Rattle.md5.specs.Md5.{md5}
use Rattle.sb_base.specs.declared.part.Part.{Part}
use Rattle.sb_base.specs.declared.geometry.Geometry.{Geometry}
use Rattle.sb_base.specs.declared.settings.Settings.{Settings}
use Rattle.sb_base.specs.declared.line.Expect.{Expect}
use Rattle.sb_base.specs.declared.line.Why.TheVariants.{Spaced}
use Rattle.sb_base.specs.declared.entry.Shown.TheVariants as shown
use Rattle.sb_base.specs.declared.entry.EntryKind.{EntryKind}
use Rattle.sb_base.specs.declared.entry.EntryKind.TheVariants.{KnownZero, Read, Write, FlushBegin, FlushDone, GetBegin}
use Rattle.sb_base.specs.declared.entry.EntryKind.TheVariants.{GetEnd, PutBegin, PutEnd, Dropped, Waited}
use Rattle.sb_base.specs.declared.entry.Entry.{Entry}
use Rattle.sb_history.specs.Contents.{Start, zeros}
use Rattle.sb_history.specs.Visibility.{Delays}
use Rattle.sb_history.specs.Cache.{Found, cached_content, is_known_zero}
use Rattle.sb_history.specs.AccessRules.{last_reading, MayFollow}

-- an entry of pass 1 at a reading
abbrev pub at : ℕ → EntryKind → Entry
at reading kind = record { pass = 1; reading = reading; kind = kind }

-- one delay for both
abbrev pub both : ℕ → Delays
both delay = record { order = delay; show = delay }

-- a disk of 16 blocks of one byte; puts are spaced by 500 ms, MD5s kept for 10 s, and one block is cached
abbrev pub tiny : Geometry
tiny = record { block_size = 1; blocks = 16 }

abbrev pub spaced : Settings
spaced =
    record {
      min_write_delay = 500;
      md5_time = 10000;
      md5_size = 10000;
      cache_size = 1;
      write_delay = 250;
      clean_time = 0;
      max_dirty = 0;
      stale_limit = 5000;
      read_ahead = 0;
      read_ahead_trigger = 0;
      threads = 1;
      clients = 1;
    }

-- three contents of a block of one byte
abbrev pub a : List ℕ
a = 1 ∷ []

abbrev pub b : List ℕ
b = 2 ∷ []

abbrev pub c : List ℕ
c = 3 ∷ []

-- block 0 begins as a, the others as zeros
abbrev pub a_at_0 : Start
a_at_0 block = if nat_eq block 0 then a else zeros 1

-- all of a block of one byte
abbrev pub all_of : ℕ → Part
all_of block = record { block = block; offset = 0; length = 1 }

-- the digest of a content that was put by the end of this reading is expected
abbrev pub expects : List ℕ → ℕ → Option Expect
expects content since = Some (record { digest = md5 content; since = since })

-- b is written over block 0, flushed by a put that ends at 1,000, and then dropped, to read block 1; block 1 is dropped
abbrev pub b_flushed : List Entry
b_flushed =
    at 1000 (Dropped 1)
    ∷ at 1000 (Read (all_of 1) (zeros 1))
    ∷ at 1000 (GetEnd 1 shown.Absent None true)
    ∷ at 1000 (GetBegin 1 None None)
    ∷ at 1000 (Dropped 0)
    ∷ at 1000 (FlushDone 0)
    ∷ at 1000 (PutEnd 0 true)
    ∷ at 1000 (PutBegin 0 b)
    ∷ at 1000 (FlushBegin 0)
    ∷ at 1000 (Write (all_of 0) b)
    ∷ []

-- then n GETs of block 0, the first at 1,000 and the others 100 apart, which all show the start
abbrev pub start_shown : ℕ → List Entry
start_shown zero = b_flushed
start_shown (suc n) =
    at (1000 + n * 100) (GetEnd 0 (shown.Bytes a) None false) ∷ at (1000 + n * 100) (GetBegin 0 (expects b 1000) None) ∷
    start_shown n

-- two such GETs, and one at 1,200 that shows b, which is read
abbrev pub shown_twice : List Entry
shown_twice =
    at 1200 (Read (all_of 0) b)
    ∷ at 1200 (GetEnd 0 (shown.Bytes b) None true)
    ∷ at 1200 (GetBegin 0 (expects b 1000) None)
    ∷ start_shown 2

-- 51 such GETs, the last at 6,000
abbrev pub shown_for_good : List Entry
shown_for_good = start_shown 51

-- the put of b fails, c is written, and the next flush waits for the spacing to be over
abbrev pub spacing_awaited : List Entry
spacing_awaited =
    at 1000 (Waited (Spaced 1500))
    ∷ at 1000 (FlushBegin 1)
    ∷ at 1000 (Write (all_of 0) c)
    ∷ at 1000 (PutEnd 0 false)
    ∷ at 1000 (PutBegin 0 b)
    ∷ at 1000 (FlushBegin 0)
    ∷ at 1000 (Write (all_of 0) b)
    ∷ []

-- then c is put 500 ms later, and a GET that begins at the put's end shows b, the next one c
abbrev pub failed_put_shown : List Entry
failed_put_shown =
    at 1600 (Read (all_of 0) c)
    ∷ at 1600 (GetEnd 0 (shown.Bytes c) None true)
    ∷ at 1600 (GetBegin 0 (expects c 1500) None)
    ∷ at 1500 (GetEnd 0 (shown.Bytes b) None false)
    ∷ at 1500 (GetBegin 0 (expects c 1500) None)
    ∷ at 1500 (Dropped 1)
    ∷ at 1500 (Read (all_of 1) (zeros 1))
    ∷ at 1500 (GetEnd 1 shown.Absent None true)
    ∷ at 1500 (GetBegin 1 None None)
    ∷ at 1500 (Dropped 0)
    ∷ at 1500 (FlushDone 1)
    ∷ at 1500 (PutEnd 0 true)
    ∷ at 1500 (PutBegin 0 c)
    ∷ spacing_awaited

-- a read of what a write replaced
abbrev pub old_value_read : List Entry
old_value_read = at 1 (Read (all_of 0) a) ∷ at 0 (Write (all_of 0) b) ∷ []

-- b is written, a flush begins, and the put of b begins
abbrev pub put_begun : List Entry
put_begun = at 2 (PutBegin 0 b) ∷ at 1 (FlushBegin 0) ∷ at 0 (Write (all_of 0) b) ∷ []

-- a flush that ends while the put of what was written is open
abbrev pub flushed_too_early : List Entry
flushed_too_early = at 2 (FlushDone 0) ∷ put_begun

-- a flush that ends after that put failed
abbrev pub flushed_after_failure : List Entry
flushed_after_failure = at 2 (FlushDone 0) ∷ at 2 (PutEnd 0 false) ∷ put_begun

-- a flush that ends after that put ended ok
abbrev pub flushed_in_order : List Entry
flushed_in_order = at 2 (FlushDone 0) ∷ at 2 (PutEnd 0 true) ∷ put_begun

-- zeros are written over block 3 and flushed
abbrev pub zeros_flushed : List Entry
zeros_flushed =
    at 2 (FlushDone 0) ∷ at 2 (PutEnd 3 true) ∷ at 2 (PutBegin 3 (zeros 1)) ∷ at 1 (FlushBegin 0) ∷ at 0
    (Write (all_of 3) (zeros 1)) ∷ []

-- a disk of eight blocks of two bytes, all zeros
abbrev pub small : Geometry
small = record { block_size = 2; blocks = 8 }

abbrev pub spaced_by_5 : Settings
spaced_by_5 =
    record {
      min_write_delay = 5;
      md5_time = 10;
      md5_size = 4;
      cache_size = 1;
      write_delay = 0;
      clean_time = 0;
      max_dirty = 0;
      stale_limit = 0;
      read_ahead = 0;
      read_ahead_trigger = 0;
      threads = 1;
      clients = 1;
    }

abbrev pub all_zeros : Start
all_zeros block = zeros 2

-- no cache file
abbrev pub nothing_found : Found
nothing_found = record { body = λ block. None }

-- all of block 3
abbrev pub block_3 : Part
block_3 = record { block = 3; offset = 0; length = 2 }

abbrev pub six : List ℕ
six = 6 ∷ 7 ∷ []

-- a write, its put, a drop, a GET whose stale answer is refused, one whose answer is taken, and a read
abbrev pub stale_refused : List Entry
stale_refused =
    at 15 (Read block_3 six)
    ∷ at 15 (GetEnd 3 (shown.Bytes six) None true)
    ∷ at 14 (GetBegin 3 (expects six 8) None)
    ∷ at 10 (GetEnd 3 shown.Absent None false)
    ∷ at 9 (GetBegin 3 (expects six 8) None)
    ∷ at 8 (Dropped 3)
    ∷ at 8 (PutEnd 3 true)
    ∷ at 5 (PutBegin 3 six)
    ∷ at 5 (Write block_3 six)
    ∷ []

-- a GET, a write of the whole block before its answer, the answer, and a read that misses the write
abbrev pub write_during_get : List Entry
write_during_get =
    at 3 (Read block_3 (0 ∷ 0 ∷ [])) ∷ at 2 (GetEnd 3 shown.Absent None true) ∷ at 1 (Write block_3 six) ∷ at 0
    (GetBegin 3 None None) ∷ []

-- zeros written to a block that is known to be zeros at the opening
abbrev pub zeros_written : List Entry
zeros_written = at 1 (Write block_3 (0 ∷ 0 ∷ [])) ∷ at 0 (KnownZero 3) ∷ []

-- zeros written to a block of which nothing is known
abbrev pub zeros_written_blindly : List Entry
zeros_written_blindly = at 1 (Write block_3 (0 ∷ 0 ∷ [])) ∷ []

-- the rules without the one that no write stands while a GET of its block is open
abbrev pub MayWriteDuringGet : Found → List Entry → EntryKind → Type 0
MayWriteDuringGet found past (Write part bytes) =
    (part.offset + length bytes ≤ 2) × (cached_content 2 found past part.block ≡ None
    → is_known_zero 2 found past part.block ≡ false → (part.offset ≡ 0) × (length bytes ≡ 2))
MayWriteDuringGet found past kind = Unit {0}

-- an entry is a write
abbrev pub is_write : EntryKind → Bool
is_write (Write part bytes) = true
is_write kind = false

-- an entry may follow by the rules without that one
abbrev pub MayFollowWithout : Bool → Settings → Found → List Entry → Entry → Type 0
MayFollowWithout true settings found past entry = MayWriteDuringGet found past entry.kind
MayFollowWithout false settings found past entry =
    MayFollow small settings found past entry.pass entry.reading entry.kind

-- each entry may follow its past by the rules without that one, and readings never fall
abbrev pub FollowsAllButOne : Settings → Found → List Entry → Type 0
FollowsAllButOne settings found [] = Unit {0}
FollowsAllButOne settings found (entry ∷ past) =
    MayFollowWithout (is_write entry.kind) settings found past entry × (last_reading past ≤ entry.reading)
    × FollowsAllButOne settings found past
