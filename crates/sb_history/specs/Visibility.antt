-- Which versions of a block the store may show: bounded staleness. This is a model of a store, and no claim about S3.
use Rattle.std.specs.Prelude.{ℕ, ◌≡◌, ◌+◌, Bool, false, not, ◌&&◌, nat_lt, nat_le, if◌then◌else◌, List, [], ◌∷◌, ◌++◌}
use Rattle.std.specs.Prelude.{map, filter, Option, Some, None, Contains}
use Rattle.std.specs.List.{list_any}
use Rattle.md5.specs.Md5.{md5}
use Rattle.sb_base.specs.declared.entry.Shown.{Shown}
use Rattle.sb_base.specs.declared.entry.Shown.TheVariants as shown
use Rattle.sb_base.specs.declared.entry.EntryKind.{EntryKind}
use Rattle.sb_base.specs.declared.entry.EntryKind.TheVariants.{KnownZero, GetEnd}
use Rattle.sb_base.specs.declared.entry.Entry.{Entry}
use Rattle.sb_history.specs.Contents.{Start, zeros}
use Rattle.sb_history.specs.Puts.{Ending, Put, puts_of}
use Rattle.sb_history.specs.Gets.{Fetch, fetch_of}

-- in milliseconds: how long puts may change places, and how long an old version may be shown
pub record Delays : Type 0 where
  pub order : ℕ
  pub show : ℕ

-- a put begins after this end of another one, by the delay at least
abbrev pub begins_after : ℕ → Put → Option Ending → Bool
begins_after delay later None = false
begins_after delay later (Some ending) =
    nat_lt ending.place later.place && nat_le (ending.reading + delay) later.reading

-- a later put supersedes an earlier one: it begins after the earlier one's end, ok or not, by the delay at least
abbrev pub supersedes : ℕ → Put → Put → Bool
supersedes delay later earlier = begins_after delay later earlier.ending

-- this is an ok end before a place, by the delay at least before a reading
abbrev pub is_settled_ending : ℕ → ℕ → ℕ → Option Ending → Bool
is_settled_ending delay place reading None = false
is_settled_ending delay place reading (Some ending) =
    ending.ok && (nat_lt ending.place place && nat_le (ending.reading + delay) reading)

-- a put has settled before a place and a reading: it ended ok, and the delay is over
abbrev pub is_settled : ℕ → ℕ → ℕ → Put → Bool
is_settled delay place reading put = is_settled_ending delay place reading put.ending

-- a settled put supersedes this one
abbrev pub is_superseded : Delays → ℕ → ℕ → List Put → Put → Bool
is_superseded delays place reading puts put =
    list_any (λ later. is_settled delays.show place reading later && supersedes delays.order later put) puts

-- what the store may show to a GET that began at a place and a reading: each put that no settled one supersedes, and
-- the content at the start where no put has settled
abbrev pub visible_contents : Delays → ℕ → ℕ → List ℕ → List Put → List (List ℕ)
visible_contents delays place reading start puts =
    map (λ put. put.content) (filter (λ put. not (is_superseded delays place reading puts put)) puts)
    ++ (if list_any (is_settled delays.show place reading) puts then [] else start ∷ [])

-- an answer is one of these contents, or has the digest of one
abbrev pub ShowsOneOf : ℕ → List (List ℕ) → Option (List ℕ) → Shown → Type 0
ShowsOneOf block_size contents verify shown.Absent = Contains contents (zeros block_size)
ShowsOneOf block_size contents verify (shown.Bytes bytes) = Contains contents bytes
ShowsOneOf block_size contents (Some digest) shown.Same =
    (content : List ℕ) × Contains contents content × (md5 content ≡ digest)
ShowsOneOf block_size contents None shown.Same = ⊥
ShowsOneOf block_size contents verify shown.Failed = Unit {0}

-- the answer to a GET is a version that was visible when it began
abbrev pub ShowsVisible : ℕ → List ℕ → Delays → List Put → Option Fetch → Option (List ℕ) → Shown → Type 0
ShowsVisible block_size start delays puts None verify answer = Unit {0}
ShowsVisible block_size start delays puts (Some fetch) verify answer =
    ShowsOneOf block_size (visible_contents delays fetch.place fetch.reading start puts) verify answer

-- a store that is stale within the delays may answer so; what is known to be zeros at the opening is zeros
abbrev pub AnswersWithin : ℕ → Start → Delays → List Entry → EntryKind → Type 0
AnswersWithin block_size start delays past (GetEnd block answer verify taken) =
    ShowsVisible block_size (start block) delays (puts_of past block) (fetch_of past block) verify answer
AnswersWithin block_size start delays past (KnownZero block) = start block ≡ zeros block_size
AnswersWithin block_size start delays past kind = Unit {0}

-- each answer is that of a store which is stale only within the delays
abbrev pub IsStaleWithin : ℕ → Start → Delays → List Entry → Type 0
IsStaleWithin block_size start delays [] = Unit {0}
IsStaleWithin block_size start delays (entry ∷ past) =
    AnswersWithin block_size start delays past entry.kind × IsStaleWithin block_size start delays past
