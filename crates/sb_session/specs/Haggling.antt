-- The options of a session (NBD protocol, "Option haggling"). Lists are newest first.
use Rattle.std.specs.Prelude.{ℕ, ◌≡◌, ◌≤◌, ◌<◌, ◌+◌, ◌*◌, ◌⊎◌, Bool, if◌then◌else◌, List, [], ◌∷◌, ◌++◌, length, Option, Result, Ok, Err}
use Rattle.std.specs.List.{AllByRecursion}
use Rattle.sb_base.specs.declared.geometry.Geometry.{Geometry}
use Rattle.sb_nbd.specs.declared.end.NbdEnd.{NbdEnd}
use Rattle.sb_nbd.specs.declared.end.NbdEnd.TheVariants as nbd
use Rattle.sb_nbd.specs.declared.export.Export.{Export}
use Rattle.sb_nbd.specs.declared.option.Asked.{Asked}
use Rattle.sb_nbd.specs.declared.answer.OptionAnswer.{OptionAnswer}
use Rattle.sb_nbd.specs.declared.answer.OptionAnswer.TheVariants as answer
use Rattle.sb_nbd.specs.Options as options
use Rattle.sb_nbd.specs.OptionReading.{StopsOption}
use Rattle.sb_nbd.specs.OptionAnswers.{HasAnswer, answer_bytes, begins_transmission}
use Rattle.sb_session.specs.Streams.{Streams, Moves}
use Rattle.sb_session.specs.declared.haggling.Next.{Next}
use Rattle.sb_session.specs.declared.haggling.Next.TheVariants as next
use Rattle.sb_session.specs.declared.end.SessionEnd.{SessionEnd}
use Rattle.sb_session.specs.declared.end.SessionEnd.TheVariants.{Aborted, Ended, NoSuchExport, Fault, Spent}

-- how many options and requests a session answers at most, 2^40, a limit of this server
abbrev pub most_answers : ℕ
most_answers = 1099511627776

-- the flags of a disk: that it has flags (bit 0), is read-only (bit 1), can be flushed (bit 2), takes FUA (bit 3),
-- TRIM (bit 5) and WRITE_ZEROES (bit 6), and may be served to several connections at once (bit 8)
abbrev pub transmission_flags : Bool → ℕ
transmission_flags read_only = if read_only then 367 else 365

-- what is told of a disk
abbrev pub export_of : Geometry → Bool → Export
export_of geometry read_only = record {
  size = geometry.block_size * geometry.blocks;
  block_size = geometry.block_size;
  flags = transmission_flags read_only;
}

-- the end of a session by the end of a reading
abbrev pub end_of : NbdEnd → SessionEnd
end_of nbd.Ended = Ended
end_of other = Fault other

-- an option, and how it is answered
pub record Haggle : Type 0 where
  pub option : options.Option
  pub answer : OptionAnswer

-- the bytes of its answer, to a client with these flags
abbrev pub haggle_bytes : Export → ℕ → Haggle → List ℕ
haggle_bytes export flags x = answer_bytes export flags x.option.asked.option x.answer

-- an option has the answer of the table
pub record IsHaggle (x : Haggle) : Type 0 where
  pub option : options.IsOption x.option
  pub answer : HasAnswer x.option x.answer

-- what an answer leads to: the end of the session, the transmission, or another option
abbrev pub next_of : Asked → OptionAnswer → Result Next SessionEnd
next_of asked answer.NoSuchExport = Err (NoSuchExport asked.length)
next_of asked answer.Abort = Err Aborted
next_of asked other = if begins_transmission asked.option other then Ok next.Transmission else Ok next.Option

-- an option is answered by the table, and that leads to this
pub record LeadsTo (result : Result Next SessionEnd) (x : Haggle) : Type 0 where
  pub haggle : IsHaggle x
  pub to : next_of x.option.asked x.answer ≡ result

-- the bytes of options, in the order of time
abbrev pub asked_bytes : List Haggle → List ℕ
asked_bytes [] = []
asked_bytes (x ∷ xs) = asked_bytes xs ++ options.option_bytes x.option

-- the bytes of their answers, in the order of time
abbrev pub answered_bytes : Export → ℕ → List Haggle → List ℕ
answered_bytes export flags [] = []
answered_bytes export flags (x ∷ xs) = answered_bytes export flags xs ++ haggle_bytes export flags x

-- a front of some bytes
abbrev pub IsFrontOf : List ℕ → List ℕ → Type 0
IsFrontOf front bytes = (after : List ℕ) × (bytes ≡ front ++ after)

-- no option came, and nothing was written
pub record NoOption (now : Option (List ℕ)) (tail out : List ℕ) (end : SessionEnd) : Type 0 where
  pub reading : NbdEnd
  pub stops : StopsOption now tail reading
  pub end_is : end ≡ end_of reading
  pub nothing_written : out ≡ []

-- an option came whose answer ends the session: ABORT, or EXPORT_NAME with another name
pub record AnswerEnds (export : Export) (flags : ℕ) (tail out : List ℕ) (end : SessionEnd) : Type 0 where
  pub last : Haggle
  pub leads : LeadsTo (Err end) last
  pub tail_is : tail ≡ options.option_bytes last.option
  pub out_is : out ≡ haggle_bytes export flags last

-- an option came whose answer couldn't be written
pub record AnswerFails (export : Export) (flags : ℕ) (tail out : List ℕ) (end : SessionEnd) : Type 0 where
  pub last : Haggle
  pub haggle : IsHaggle last
  pub tail_is : tail ≡ options.option_bytes last.option
  pub front : IsFrontOf out (haggle_bytes export flags last)
  pub fault : end ≡ Fault nbd.WriteFault

-- the bytes that were taken for an option, and those that were written, end the session so
abbrev pub StopsHaggling : Export → ℕ → Option (List ℕ) → List ℕ → List ℕ → SessionEnd → Type 0
StopsHaggling export flags now tail out end =
    NoOption now tail out end ⊎ (AnswerEnds export flags tail out end ⊎ AnswerFails export flags tail out end)

-- one option was answered
pub record Haggles (export : Export) (flags : ℕ) (before after : Streams) (to : Next) : Type 0 where
  pub option : Haggle
  pub leads : LeadsTo (Ok to) option
  pub moved : Moves before after (options.option_bytes option.option) (haggle_bytes export flags option)

-- the session ended at an option
pub record HaggleStops (export : Export) (flags : ℕ) (before after : Streams) (end : SessionEnd) : Type 0 where
  pub tail : List ℕ
  pub out : List ℕ
  pub moved : Moves before after tail out
  pub stops : StopsHaggling export flags after.left tail out end

-- what one option came to
abbrev pub HaggleEnds : Export → ℕ → Streams → Streams → Result Next SessionEnd → Type 0
HaggleEnds export flags before after (Ok to) = Haggles export flags before after to
HaggleEnds export flags before after (Err end) = HaggleStops export flags before after end

-- so many options were answered, each of which led to another
pub record Negotiates (export : Export) (flags : ℕ) (before after : Streams) (n : ℕ) : Type 0 where
  pub options : List Haggle
  pub count : length options ≡ n
  pub answered : AllByRecursion (LeadsTo (Ok next.Option)) options
  pub moved : Moves before after (asked_bytes options) (answered_bytes export flags options)

-- options were answered until one began the transmission, so many in all
pub record Begins (export : Export) (flags : ℕ) (before after : Streams) (n : ℕ) : Type 0 where
  pub options : List Haggle
  pub last : Haggle
  pub count : length options + 1 ≡ n
  pub within : n ≤ most_answers
  pub answered : AllByRecursion (LeadsTo (Ok next.Option)) options
  pub begins : LeadsTo (Ok next.Transmission) last
  pub moved : Moves before after (asked_bytes (last ∷ options)) (answered_bytes export flags (last ∷ options))

-- options were answered until the session ended, and what was taken and written behind them
pub record NegotiationStops (export : Export) (flags : ℕ) (before after : Streams) (end : SessionEnd) : Type 0 where
  pub options : List Haggle
  pub answered : AllByRecursion (LeadsTo (Ok next.Option)) options
  pub within : length options ≤ most_answers
  pub tail : List ℕ
  pub out : List ℕ
  pub moved : Moves before after (asked_bytes options ++ tail) (answered_bytes export flags options ++ out)
  pub why : (StopsHaggling export flags after.left tail out end × (length options < most_answers))
      ⊎ ((end ≡ Spent) × (length options ≡ most_answers) × (tail ≡ []) × (out ≡ []))

-- what all options came to: how many were answered, or the end of the session
abbrev pub NegotiationEnds : Export → ℕ → Streams → Streams → Result ℕ SessionEnd → Type 0
NegotiationEnds export flags before after (Ok n) = Begins export flags before after n
NegotiationEnds export flags before after (Err end) = NegotiationStops export flags before after end
