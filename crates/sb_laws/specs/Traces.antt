-- The calls and the ticks of some worked histories, the newest first.
use Rattle.std.specs.Prelude.{ℕ, List, [], ◌∷◌, Some, None, true}
use Rattle.sb_world.specs.declared.link.Call.{Call}
use Rattle.sb_world.specs.declared.link.Call.TheVariants as call
use Rattle.sb_world.specs.declared.link.GetReply.TheVariants as reply
use Rattle.sb_world.specs.declared.link.LinkFault.TheVariants as fault
use Rattle.sb_world.specs.declared.link.Meta.{Meta}
use Rattle.sb_world.specs.declared.clock.Tick.{Tick}
use Rattle.sb_world.specs.declared.clock.Tick.TheVariants.{Taken, Paused}
use Rattle.sb_history.specs.ClockTrace.{Caller}
use Rattle.sb_laws.specs.Histories.{a, b, c}

-- a block's name: its number as one byte
abbrev pub name_of : ℕ → List ℕ
name_of block = block ∷ []

-- the sizes of the tiny disk
abbrev pub sizes : Meta
sizes = record { size = 16; block_size = 1 }

-- the one caller of the disk
abbrev pub alone : Caller
alone = record { pass = 1; alone = true }

-- a put with the sizes, a GET of block 1, and three of block 0
abbrev pub shown_twice_calls : List Call
shown_twice_calls =
    call.Get (name_of 0) None (reply.Bytes b)
    ∷ call.Get (name_of 0) None (reply.Bytes a)
    ∷ call.Get (name_of 0) None (reply.Bytes a)
    ∷ call.Get (name_of 1) None reply.Absent
    ∷ call.Put (name_of 0) b (Some sizes) None
    ∷ []

-- a put that fails, one that doesn't, a GET of block 1, and two of block 0
abbrev pub failed_put_calls : List Call
failed_put_calls =
    call.Get (name_of 0) None (reply.Bytes c)
    ∷ call.Get (name_of 0) None (reply.Bytes b)
    ∷ call.Get (name_of 1) None reply.Absent
    ∷ call.Put (name_of 0) c (Some sizes) None
    ∷ call.Put (name_of 0) b (Some sizes) (Some (fault.Failed 503))
    ∷ []

-- zeros are put as a delete
abbrev pub zeros_calls : List Call
zeros_calls = call.Delete (name_of 3) None ∷ []

-- one reading for each of the entries up to the wait
abbrev pub ticks_before_wait : List Tick
ticks_before_wait = Taken 1000 ∷ Taken 1000 ∷ Taken 1000 ∷ Taken 1000 ∷ Taken 1000 ∷ Taken 1000 ∷ Taken 1000 ∷ []

-- a clock that moves by its pauses alone: 500 ms after the wait, and 100 after the stale answer
abbrev pub failed_put_ticks : List Tick
failed_put_ticks =
    Taken 1600
    ∷ Taken 1600
    ∷ Taken 1600
    ∷ Paused 100
    ∷ Taken 1500
    ∷ Taken 1500
    ∷ Taken 1500
    ∷ Taken 1500
    ∷ Taken 1500
    ∷ Taken 1500
    ∷ Taken 1500
    ∷ Taken 1500
    ∷ Taken 1500
    ∷ Taken 1500
    ∷ Paused 500
    ∷ ticks_before_wait

-- a clock that stands still: the reading after the pause stands for no entry
abbrev pub stalled_ticks : List Tick
stalled_ticks = Taken 1000 ∷ Paused 500 ∷ ticks_before_wait
