-- Puts and GETs as the code keeps them, in the words of histories.
use Rattle.std.specs.Prelude.{List, map, reverse, option_map}
use Rattle.sb_history.specs.Puts.{Ending, Put}
use Rattle.sb_history.specs.Gets.{Fetch}
use Rattle.sb_history.specs.Visibility as visibility
use Rattle.sb_staleness.specs.declared.delays.Delays.{Delays}
use Rattle.sb_staleness.specs.declared.begin.Begin.{Begin}
use Rattle.sb_staleness.specs.declared.puts.SeenEnding.{SeenEnding}
use Rattle.sb_staleness.specs.declared.puts.SeenPut.{SeenPut}

-- the delays of a store
abbrev pub delays_seen : Delays → visibility.Delays
delays_seen delays = record { order = delays.order; show = delays.show }

-- when a GET began
abbrev pub begin_seen : Fetch → Begin
begin_seen fetch = record { place = fetch.place; reading = fetch.reading }

-- how a put ended
abbrev pub ending_seen : SeenEnding → Ending
ending_seen ending = record { place = ending.place; reading = ending.reading; ok = ending.ok }

-- a put, with its content
abbrev pub put_seen : SeenPut → Put
put_seen put =
    record {
      content = put.content.now;
      pass = put.pass;
      place = put.place;
      reading = put.reading;
      ending = option_map ending_seen put.ending;
    }

-- the puts of a block, the newest first, of those that are kept with the oldest first
abbrev pub puts_seen : List SeenPut → List Put
puts_seen puts = reverse (map put_seen puts)
