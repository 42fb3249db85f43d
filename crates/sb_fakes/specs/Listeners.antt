-- What a listener in memory tells, and how connections come there.
use Rattle.std.specs.Prelude.{ℕ, ◌≡◌, ◌+◌, ◌≤◌, List, Option, Some, None, Result, Ok, Err, length, map, reverse, take}
use Rattle.std.specs.Prelude.{slice_get}
use Rattle.sb_world.specs.Listeners.{Handed}
use Rattle.sb_fakes.specs.Told.{bytes_of}
use Rattle.sb_fakes.specs.Worlds.{told_list}
use Rattle.sb_fakes.specs.declared.conn.MemoryConn.{MemoryConn}
use Rattle.sb_fakes.specs.declared.listener.MemoryListener.{MemoryListener}

-- what came so far, the newest first: the inputs
abbrev pub came_at : MemoryListener → Option (List (Option (List ℕ)))
came_at listener = Some (map Some (reverse (take listener.at listener.inputs.items)))

-- the connections given back, the newest first, unless a growth was refused
abbrev pub gave_at : MemoryListener → Option (List (Handed MemoryConn MemoryConn))
gave_at listener = told_list listener.given.items listener.given_whole

-- a connection with the next input comes, and none just behind the last input; an accept that fails leaves the input
abbrev pub Comes : {S F : Type 0} → MemoryListener → MemoryListener → Result (Option (MemoryConn × S)) F → Type 0
Comes old now (Ok (Some found)) =
    (bytes_of found.0 ≡ slice_get old.inputs.items old.at) × (now.at ≡ old.at + 1)
Comes old now (Ok None) = (length old.inputs.items ≤ old.at) × (now.at ≡ old.at)
Comes old now (Err fault) = now.at ≡ old.at

-- the inputs stay
abbrev pub KeepsInputs : MemoryListener → MemoryListener → Type 0
KeepsInputs old now = now.inputs ≡ old.inputs

-- all that will come stays
abbrev pub KeepsComing : MemoryListener → MemoryListener → Type 0
KeepsComing old now = KeepsInputs old now × (now.at ≡ old.at)
