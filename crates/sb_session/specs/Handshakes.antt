-- The handshake of a session.
use Rattle.std.specs.Prelude.{ℕ, ◌≡◌, ◌≤◌, ◌<◌, ◌+◌, ◌⊎◌, List, [], ◌∷◌, ◌++◌, length, Option, Result, Ok, Err}
use Rattle.std.specs.Int.{w32, to_be_bytes}
use Rattle.std.specs.List.{AllByRecursion}
use Rattle.sb_nbd.specs.declared.end.NbdEnd.{NbdEnd}
use Rattle.sb_nbd.specs.declared.end.NbdEnd.TheVariants as nbd
use Rattle.sb_nbd.specs.declared.export.Export.{Export}
use Rattle.sb_nbd.specs.Numbers.{max_flags}
use Rattle.sb_nbd.specs.Greetings.{greeting_bytes, StopsFlags}
use Rattle.sb_session.specs.Streams.{Streams, Moves}
use Rattle.sb_session.specs.Haggling.{end_of, most_answers, Haggle, LeadsTo, asked_bytes, answered_bytes, IsFrontOf}
use Rattle.sb_session.specs.Haggling.{StopsHaggling}
use Rattle.sb_session.specs.declared.haggling.Next.TheVariants as next
use Rattle.sb_session.specs.declared.end.SessionEnd.{SessionEnd}
use Rattle.sb_session.specs.declared.end.SessionEnd.TheVariants.{Fault, Spent}

-- what a client sends before its requests: its flags, and options
abbrev pub opening_bytes : ℕ → List Haggle → List ℕ
opening_bytes flags options = to_be_bytes w32 flags ++ asked_bytes options

-- the greeting and the answers to options
abbrev pub handshake_bytes : Export → ℕ → List Haggle → List ℕ
handshake_bytes export flags options = greeting_bytes ++ answered_bytes export flags options

-- options that a session has behind it as its transmission begins: the newest one began it
pub record AreHaggled (last : Haggle) (options : List Haggle) : Type 0 where
  pub answered : AllByRecursion (LeadsTo (Ok next.Option)) options
  pub begins : LeadsTo (Ok next.Transmission) last

-- the handshake was taken, and answered, with so many options
pub record Opened (export : Export) (before after : Streams) (n : ℕ) : Type 0 where
  pub flags : ℕ
  pub known : flags ≤ max_flags
  pub options : List Haggle
  pub last : Haggle
  pub count : length options + 1 ≡ n
  pub within : n ≤ most_answers
  pub haggled : AreHaggled last options
  pub moved : Moves before after (opening_bytes flags (last ∷ options)) (handshake_bytes export flags (last ∷ options))

-- the greeting couldn't be written
pub record GreetingFails (taken written : List ℕ) (end : SessionEnd) : Type 0 where
  pub none : taken ≡ []
  pub front : IsFrontOf written greeting_bytes
  pub fault : end ≡ Fault nbd.WriteFault

-- no flags came, or unknown ones
pub record FlagsEnd (now : Option (List ℕ)) (taken written : List ℕ) (end : SessionEnd) : Type 0 where
  pub written_is : written ≡ greeting_bytes
  pub reading : NbdEnd
  pub stops : StopsFlags now taken reading
  pub end_is : end ≡ end_of reading

-- flags came, and options that were answered, and then the session ended
pub record OptionsEnd (export : Export) (now : Option (List ℕ)) (taken written : List ℕ)
    (end : SessionEnd) : Type 0 where
  pub flags : ℕ
  pub known : flags ≤ max_flags
  pub options : List Haggle
  pub answered : AllByRecursion (LeadsTo (Ok next.Option)) options
  pub within : length options ≤ most_answers
  pub tail : List ℕ
  pub out : List ℕ
  pub taken_is : taken ≡ to_be_bytes w32 flags ++ (asked_bytes options ++ tail)
  pub written_is : written ≡ greeting_bytes ++ (answered_bytes export flags options ++ out)
  -- behind the last option that was answered, or because no more are answered
  pub why : (StopsHaggling export flags now tail out end × (length options < most_answers))
      ⊎ ((end ≡ Spent) × (length options ≡ most_answers) × (tail ≡ []) × (out ≡ []))

-- why a handshake ended, by what it took and wrote
abbrev pub EndsHandshake : Export → Option (List ℕ) → List ℕ → List ℕ → SessionEnd → Type 0
EndsHandshake export now taken written end =
    GreetingFails taken written end ⊎ (FlagsEnd now taken written end ⊎ OptionsEnd export now taken written end)

-- a handshake that ended the session
pub record Unopened (export : Export) (before after : Streams) (end : SessionEnd) : Type 0 where
  pub bytes : List ℕ
  pub out : List ℕ
  pub moved : Moves before after bytes out
  pub why : EndsHandshake export after.left bytes out end

-- what the handshake came to: how many options were answered, or the end of the session
abbrev pub OpeningEnds : Export → Streams → Streams → Result ℕ SessionEnd → Type 0
OpeningEnds export before after (Ok n) = Opened export before after n
OpeningEnds export before after (Err end) = Unopened export before after end
