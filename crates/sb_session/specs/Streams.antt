-- What is told of the streams of a client.
use Rattle.std.specs.Prelude.{ℕ, List, Option}
use Rattle.sb_world.specs.Streams.{Takes, Holds}

-- the bytes that the source has left, and those that the sink holds
pub record Streams : Type 0 where
  pub left : Option (List ℕ)
  pub held : Option (List ℕ)

abbrev pub streams_at : Option (List ℕ) → Option (List ℕ) → Streams
streams_at left held = record { left = left; held = held }

-- these bytes were taken, and those were written
pub record Moves (before after : Streams) (input output : List ℕ) : Type 0 where
  pub taken : Takes before.left after.left input
  pub held : Holds before.held after.held output
