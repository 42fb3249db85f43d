-- What a clock gave for the entries of one pass: a reading for each, and a pause after those that are to be tried
-- again. Entries and ticks are lists with the newest first.
use Rattle.std.specs.Prelude.{ℕ, ◌≡◌, ◌≢◌, ◌+◌, ◌-◌, ◌<◌, ◌≤◌, ◌⊎◌, Bool, true, false, nat_eq, nat_le, List, [], ◌∷◌, ◌++◌}
use Rattle.std.specs.Prelude.{Option, Some, None, max}
use Rattle.sb_base.specs.declared.geometry.Geometry.{Geometry}
use Rattle.sb_base.specs.declared.settings.Settings.{Settings}
use Rattle.sb_base.specs.declared.line.Expect.{Expect}
use Rattle.sb_base.specs.declared.line.Why.{Why}
use Rattle.sb_base.specs.declared.line.Why.TheVariants as why
use Rattle.sb_base.specs.declared.entry.EntryKind.{EntryKind}
use Rattle.sb_base.specs.declared.entry.EntryKind.TheVariants.{GetEnd, Waited}
use Rattle.sb_base.specs.declared.entry.Entry.{Entry}
use Rattle.sb_world.specs.declared.clock.Tick.{Tick}
use Rattle.sb_world.specs.declared.clock.Tick.TheVariants as tick
use Rattle.sb_history.specs.Gets.{Fetch, fetch_of}
use Rattle.sb_history.specs.Window.{answer_digest}
use Rattle.sb_history.specs.AccessRules.{last_reading}

-- who took the readings: the number of the pass, and whether it has the disk for itself, on one thread
pub record Caller : Type 0 where
  pub pass : ℕ
  pub alone : Bool

-- the pause after a wait: from the reading that was taken for it to the one that it waits for
abbrev pub wait_pause : Why → ℕ → Option ℕ
wait_pause (why.Busy block) taken = None
wait_pause (why.Spaced until) taken = Some (until - taken)
wait_pause (why.WindowFull until) taken = Some (until - taken)
wait_pause why.NoRoom taken = None

-- how long after a stale answer its GET is asked anew, in milliseconds
abbrev pub stale_pause : ℕ
stale_pause = 100

-- a GET that begins at a reading is late: it has to show no digest, or one whose put ended the stale limit before at
-- least
abbrev pub is_late : ℕ → ℕ → Option Expect → Bool
is_late limit begun None = true
is_late limit begun (Some expect) = nat_le (expect.since + limit) begun

-- an answer to a GET that isn't late has another digest than the expected one
abbrev pub DiffersInTime : ℕ → ℕ → Option Expect → Option (List ℕ) → Type 0
DiffersInTime limit begun (Some expect) (Some digest) =
    (digest ≢ expect.digest) × (is_late limit begun (Some expect) ≡ false)
DiffersInTime limit begun expect digest = ⊥

-- the GET that this answers is asked anew
abbrev pub IsAskedAnew : ℕ → Option Fetch → Option (List ℕ) → Type 0
IsAskedAnew limit None digest = ⊥
IsAskedAnew limit (Some fetch) digest = DiffersInTime limit fetch.reading fetch.expect digest

-- there is a pause of so long exactly where a fact holds
abbrev pub PausesWhere : Type 0 → ℕ → Option ℕ → Type 0
PausesWhere fact millis None = fact → ⊥
PausesWhere fact millis (Some pause) = fact × (pause ≡ millis)

-- the pause after an entry for which a reading was taken: after a wait for a reading, and after a stale answer
abbrev pub PausesAfter : Geometry → Settings → List Entry → ℕ → EntryKind → Option ℕ → Type 0
PausesAfter geometry settings past taken (Waited reason) pause = pause ≡ wait_pause reason taken
PausesAfter geometry settings past taken (GetEnd block answer verify took) pause =
    PausesWhere
    (IsAskedAnew settings.stale_limit (fetch_of past block) (answer_digest geometry.block_size verify answer))
    stale_pause pause
PausesAfter geometry settings past taken kind pause = pause ≡ None

-- on one thread the next reading is one that the pause has reached; it is known
abbrev pub Reaches : Bool → ℕ → Option ℕ → Type 0
Reaches false until next = Unit {0}
Reaches true until None = ⊥
Reaches true until (Some reading) = until ≤ reading

-- on one thread a reading that the pause has not reached was taken after it, and stands for no entry
abbrev pub FallsShort : Bool → ℕ → ℕ → List Tick → Type 0
FallsShort false until millis ticks = ⊥
FallsShort true until millis ticks =
    (short : ℕ) × (short < until) × (ticks ≡ tick.Taken short ∷ tick.Paused millis ∷ [])

-- the ticks of a pause, if any, before the next reading
abbrev pub PauseTicks : Bool → ℕ → Option ℕ → Option ℕ → List Tick → Type 0
PauseTicks alone taken next None ticks = ticks ≡ []
PauseTicks alone taken next (Some millis) ticks =
    ((ticks ≡ tick.Paused millis ∷ []) × Reaches alone (taken + millis) next)
    ⊎ FallsShort alone (taken + millis) millis ticks

-- the ticks of an entry with those of the entries before it: the reading taken for it, and those of its pause. The
-- entry's reading is the greater of that one and that of the entry before it.
abbrev pub IsTicked :
    Geometry → Settings → Bool → Option ℕ → List Entry → Entry → List Tick → (ℕ → List Tick → Type 0) → Type 0
IsTicked geometry settings alone next past entry ticks Rest =
    (taken : ℕ) × (pause : Option ℕ) × (after earlier : List Tick) × (ticks ≡ after ++ tick.Taken taken ∷ earlier)
    × (entry.reading ≡ max taken (last_reading past))
    × PausesAfter geometry settings past taken entry.kind pause × PauseTicks alone taken next pause after
    × Rest taken earlier

-- an entry of another pass has no ticks
abbrev pub IsTickedIf :
    Bool → Geometry → Settings → Bool → Option ℕ → List Entry → Entry → List Tick → (Option ℕ → List Tick → Type 0)
    → Type 0
IsTickedIf true geometry settings alone next past entry ticks Rest =
    IsTicked geometry settings alone next past entry ticks (λ taken. Rest (Some taken))
IsTickedIf false geometry settings alone next past entry ticks Rest = Rest next ticks

-- what a caller's clock gave for entries behind a history, where it took this reading next
abbrev pub ClockTrace : Geometry → Settings → Caller → List Entry → List Entry → Option ℕ → List Tick → Type 0
ClockTrace geometry settings caller before [] next ticks = ticks ≡ []
ClockTrace geometry settings caller before (entry ∷ entries) next ticks =
    IsTickedIf (nat_eq entry.pass caller.pass) geometry settings caller.alone next (entries ++ before) entry ticks
    (ClockTrace geometry settings caller before entries)

-- no entry is followed by a pause
abbrev pub NonePauses : Geometry → Settings → List Entry → List Entry → Type 0
NonePauses geometry settings before [] = Unit {0}
NonePauses geometry settings before (entry ∷ entries) =
    ((taken : ℕ) → PausesAfter geometry settings (entries ++ before) taken entry.kind None)
    × NonePauses geometry settings before entries

-- one reading was taken for each entry, and nothing else
abbrev pub OneReadingEach : List Entry → List Entry → List Tick → Type 0
OneReadingEach before [] ticks = ticks ≡ []
OneReadingEach before (entry ∷ entries) ticks =
    (taken : ℕ) × (earlier : List Tick) × (ticks ≡ tick.Taken taken ∷ earlier)
    × (entry.reading ≡ max taken (last_reading (entries ++ before))) × OneReadingEach before entries earlier
