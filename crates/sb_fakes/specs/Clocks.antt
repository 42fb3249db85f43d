-- How a clock in memory is moved.
use Rattle.std.specs.Prelude.{ℕ, ◌≡◌, ◌+◌, ◌^◌, min, List, Option, if◌then◌else◌}
use Rattle.sb_world.specs.declared.clock.Tick.{Tick}
use Rattle.sb_fakes.specs.declared.clock.HandClock.{HandClock}
use Rattle.sb_fakes.specs.declared.shared_clock.SharedClock.{SharedClock}

-- a clock is at this reading now, and its moment and whether it is stalled stay
abbrev pub IsMoved : ℕ → HandClock → HandClock → Type 0
IsMoved reading old now =
    (now.reading ≡ reading) × (now.moment ≡ old.moment) × (now.stalled ≡ old.stalled)

-- a clock was not moved
abbrev pub IsStill : HandClock → HandClock → Type 0
IsStill old now = IsMoved old.reading old now

-- the reading behind a pause of so many milliseconds, at most 2^62; that of a stalled clock stands still
abbrev pub paused : HandClock → ℕ → ℕ
paused clock millis = if clock.stalled then clock.reading else min (clock.reading + millis) (2 ^ 62)

-- the readings and pauses of a clock that others move too
abbrev pub shared_ticks : SharedClock → Option (List Tick)
shared_ticks clock = clock.ticks
