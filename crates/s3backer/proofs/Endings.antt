-- What status 0 says of the input.
use Rattle.std.proofs.Common.{ℕ, ◌≡◌, ◌<◌, ◌⊎◌, [], length, Bool, true, false, if◌then◌else◌, List, Option, Result, Ok, Err, inl, inr}
use Rattle.sb_world.specs.Streams.{IsAtEnd}
use Rattle.sb_nbd.specs.declared.end.NbdEnd.{NbdEnd}
use Rattle.sb_nbd.specs.declared.end.NbdEnd.TheVariants as nbd
use Rattle.sb_nbd.specs.declared.export.Export.{Export}
use Rattle.sb_nbd.specs.declared.option.Asked.{Asked}
use Rattle.sb_nbd.specs.declared.answer.OptionAnswer.{OptionAnswer}
use Rattle.sb_nbd.specs.declared.answer.OptionAnswer.TheVariants as answer
use Rattle.sb_nbd.specs.Greetings.{StopsFlags}
use Rattle.sb_nbd.specs.OptionReading.{StopsOption}
use Rattle.sb_nbd.specs.OptionAnswers.{begins_transmission}
use Rattle.sb_crew.specs.Bases.{Base}
use Rattle.sb_crew.specs.Scenes.{Deed}
use Rattle.sb_crew.specs.declared.calls.FlushFault.{FlushFault}
use Rattle.sb_session.specs.declared.end.SessionEnd.{SessionEnd}
use Rattle.sb_session.specs.declared.end.SessionEnd.TheVariants as end
use Rattle.sb_session.specs.declared.haggling.Next.{Next}
use Rattle.sb_session.specs.declared.haggling.Next.TheVariants as next
use Rattle.sb_session.specs.Streams.{Streams}
use Rattle.sb_session.specs.Haggling.{end_of, next_of, most_answers, StopsHaggling}
use Rattle.sb_session.specs.Handshakes.{EndsHandshake}
use Rattle.sb_session.specs.Sessions.{Course}
use Rattle.s3backer.specs.Headline.{IsWhole, run_status}

flags_at_end : (now : Option (List ℕ)) (bytes : List ℕ) (reading : NbdEnd) → StopsFlags now bytes reading
    → end.Ended ≡ end_of reading → IsAtEnd now
flags_at_end now bytes nbd.Ended stops is = stops.1
flags_at_end now bytes (nbd.Cut got) stops is = absurd (cc)
flags_at_end now bytes (nbd.BadMagic magic) stops is = absurd (cc)
flags_at_end now bytes (nbd.BadFlags flags) stops is = absurd (cc)
flags_at_end now bytes (nbd.TooBig size) stops is = absurd (cc)
flags_at_end now bytes nbd.ReadFault stops is = absurd (cc)
flags_at_end now bytes nbd.WriteFault stops is = absurd (cc)

option_at_end : (now : Option (List ℕ)) (bytes : List ℕ) (reading : NbdEnd) → StopsOption now bytes reading
    → end.Ended ≡ end_of reading → IsAtEnd now
option_at_end now bytes nbd.Ended stops is = stops.1
option_at_end now bytes (nbd.Cut got) stops is = absurd (cc)
option_at_end now bytes (nbd.BadMagic magic) stops is = absurd (cc)
option_at_end now bytes (nbd.BadFlags flags) stops is = absurd (cc)
option_at_end now bytes (nbd.TooBig size) stops is = absurd (cc)
option_at_end now bytes nbd.ReadFault stops is = absurd (cc)
option_at_end now bytes nbd.WriteFault stops is = absurd (cc)

either_goes_on : (t : Bool) (x y : Next) (e : SessionEnd) → (if t then Ok x else Ok y) ≡ Err e → ⊥
either_goes_on true x y e is = cc
either_goes_on false x y e is = cc

-- no answer to an option ends the session as if the input had ended
answer_not_ended : (asked : Asked) (a : OptionAnswer) → next_of asked a ≡ Err end.Ended → ⊥
answer_not_ended asked answer.NoSuchExport is = cc
answer_not_ended asked answer.Abort is = cc
answer_not_ended asked answer.Export is =
    either_goes_on (begins_transmission asked.option answer.Export) next.Transmission next.Option end.Ended is
answer_not_ended asked answer.List is =
    either_goes_on (begins_transmission asked.option answer.List) next.Transmission next.Option end.Ended is
answer_not_ended asked (answer.Details details) is =
    either_goes_on (begins_transmission asked.option (answer.Details details)) next.Transmission next.Option end.Ended is
answer_not_ended asked (answer.Refused refusal) is =
    either_goes_on (begins_transmission asked.option (answer.Refused refusal)) next.Transmission next.Option end.Ended is

haggling_at_end : (export : Export) (flags : ℕ) (now : Option (List ℕ)) (tail out : List ℕ)
    → StopsHaggling export flags now tail out end.Ended → IsAtEnd now
haggling_at_end export flags now tail out (inl none) = option_at_end now tail none.reading none.stops none.end_is
haggling_at_end export flags now tail out (inr (inl answered)) =
    absurd (answer_not_ended answered.last.option.asked answered.last.answer answered.leads.to)
haggling_at_end export flags now tail out (inr (inr fails)) =
    absurd (let fault = fails.fault in cc)

handshake_at_end : (export : Export) (now : Option (List ℕ)) (taken written : List ℕ)
    → EndsHandshake export now taken written end.Ended → IsAtEnd now
handshake_at_end export now taken written (inl greeting) = absurd (let fault = greeting.fault in cc)
handshake_at_end export now taken written (inr (inl flags)) =
    flags_at_end now taken flags.reading flags.stops flags.end_is
handshake_at_end export now taken written (inr (inr options)) = by options.why where
  by : (StopsHaggling export options.flags now options.tail options.out end.Ended
      × (length options.options < most_answers))
      ⊎ ((end.Ended ≡ end.Spent) × (length options.options ≡ most_answers) × (options.tail ≡ []) × (options.out ≡ []))
      → IsAtEnd now
  by (inl stops) = haggling_at_end export options.flags now options.tail options.out stops.0
  by (inr spent) = absurd (let is = spent.0 in cc)

-- a session that ended between two messages left nothing of its input
course_at_end : (read_only : Bool) (base : Base) (before after : Streams) (deed : Deed)
    → Course read_only base before after end.Ended deed → IsAtEnd after.left
course_at_end read_only base before after deed (inl unserved) =
    handshake_at_end _ after.left unserved.0.bytes unserved.0.out unserved.0.why
course_at_end read_only base before after deed (inr served) = served.stops.1

pub read_whole : {read_only : Bool} {base : Base} {before after : Streams} {deed : Deed} (ended : SessionEnd)
    (flushed : Result Unit FlushFault) → Course read_only base before after ended deed
    → run_status ended flushed ≡ 0 → IsWhole ended after.left
read_whole end.Disconnected flushed course zero = tt
read_whole end.Aborted flushed course zero = tt
read_whole {read_only} {base} {before} {after} {deed} end.Ended flushed course zero =
    course_at_end read_only base before after deed course
read_whole (end.NoSuchExport size) flushed course zero = absurd (cc)
read_whole (end.Fault fault) flushed course zero = absurd (cc)
read_whole end.Spent flushed course zero = absurd (cc)
