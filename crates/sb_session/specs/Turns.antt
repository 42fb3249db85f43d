-- What answering requests took, did and wrote.
use Rattle.std.specs.Prelude.{ℕ, ◌≡◌, ◌≢◌, ◌≤◌, ◌+◌, ◌⊎◌, Bool, List, [], ◌++◌, length, Option, Result, Ok, Err}
use Rattle.sb_world.specs.Streams.{IsAtEnd}
use Rattle.sb_nbd.specs.declared.end.NbdEnd.{NbdEnd}
use Rattle.sb_nbd.specs.declared.end.NbdEnd.TheVariants as nbd
use Rattle.sb_nbd.specs.Requests.{Request, request_bytes}
use Rattle.sb_nbd.specs.RequestReading.{StopsRequest}
use Rattle.sb_crew.specs.Bases.{Base}
use Rattle.sb_crew.specs.Scenes.{Deed}
use Rattle.sb_session.specs.Streams.{Streams, Moves}
use Rattle.sb_session.specs.declared.end.SessionEnd.{SessionEnd}
use Rattle.sb_session.specs.declared.end.SessionEnd.TheVariants.{Disconnected, Ended, Fault, Spent}
use Rattle.sb_session.specs.Transcripts.{Exchange, IsTranscript, deed_in, asking_bytes, replying_bytes}
use Rattle.sb_session.specs.Inputs.{IsDisc}
use Rattle.sb_session.specs.Haggling.{most_answers}

-- the bytes behind the requests that were answered, of which no more were taken, end the session by this fault
abbrev pub StopsByFault : Option (List ℕ) → List ℕ → NbdEnd → Type 0
StopsByFault now tail nbd.Ended = ⊥
StopsByFault now tail nbd.WriteFault = tail ≡ []
StopsByFault now tail reading = StopsRequest now tail reading

-- the bytes behind the requests that were answered, of which no more were taken, end the session so
abbrev pub StopsBy : Option (List ℕ) → List ℕ → SessionEnd → Type 0
StopsBy now tail Disconnected = (r : Request) × IsDisc r × (tail ≡ request_bytes r)
StopsBy now tail Ended = (tail ≡ []) × IsAtEnd now
StopsBy now tail (Fault reading) = StopsByFault now tail reading
StopsBy now tail Spent = tail ≡ []
StopsBy now tail other = ⊥

-- all replies were written, or before a fault of the sink a front of them
pub record WritesOut (end : SessionEnd) (replies out : List ℕ) : Type 0 where
  pub missing : List ℕ
  pub front : replies ≡ out ++ missing
  pub all : end ≢ Fault nbd.WriteFault → missing ≡ []

-- so many requests were taken and answered
pub record Serves (read_only : Bool) (base : Base) (before after : Streams) (did : Deed → Type 0) (n : ℕ) : Type 0 where
  pub transcript : List Exchange
  pub count : length transcript ≡ n
  pub answered : IsTranscript read_only base transcript
  pub done : did (deed_in transcript)
  pub moved : Moves before after (asking_bytes transcript) (replying_bytes transcript)

-- so many requests were taken and answered, and then the session ended
pub record Stopped (read_only : Bool) (base : Base) (before after : Streams) (did : Deed → Type 0) (end : SessionEnd)
    (n : ℕ) : Type 0 where
  pub transcript : List Exchange
  pub count : length transcript ≡ n
  pub answered : IsTranscript read_only base transcript
  pub done : did (deed_in transcript)
  pub tail : List ℕ
  pub out : List ℕ
  pub moved : Moves before after (asking_bytes transcript ++ tail) out
  pub stops : StopsBy after.left tail end
  pub writes : WritesOut end (replying_bytes transcript) out

-- how one turn ends the session: before a request was answered, or at the writing of its reply
pub record TurnStops (read_only : Bool) (base : Base) (before after : Streams) (did : Deed → Type 0) (end : SessionEnd) : Type 0 where
  pub n : ℕ
  pub within : n ≤ 1
  pub one : n ≡ 1 → end ≡ Fault nbd.WriteFault
  pub unspent : end ≢ Spent
  pub stopped : Stopped read_only base before after did end n

-- one request was answered, or the session ended
abbrev pub TurnEnds : Bool → Base → Streams → Streams → (Deed → Type 0) → Result Unit SessionEnd → Type 0
TurnEnds read_only base before after did (Ok done) = Serves read_only base before after did 1
TurnEnds read_only base before after did (Err end) = TurnStops read_only base before after did end

-- how the turns of a session end, before which so many options were answered: as spent after 2^40 answers in all
pub record TurnsEnd (read_only : Bool) (base : Base) (options : ℕ) (before after : Streams) (did : Deed → Type 0)
    (end : SessionEnd) : Type 0 where
  pub n : ℕ
  pub within : n + options ≤ most_answers
  pub spent : end ≡ Spent → n + options ≡ most_answers
  pub unspent : n + options ≡ most_answers → (end ≡ Spent) ⊎ (end ≡ Fault nbd.WriteFault)
  pub stopped : Stopped read_only base before after did end n
