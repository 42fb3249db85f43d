-- What a session took, did and wrote.
use Rattle.std.specs.Prelude.{ℕ, ◌≡◌, ◌≤◌, ◌+◌, ◌⊎◌, Bool, List, ◌∷◌, ◌++◌, length, Some}
use Rattle.sb_nbd.specs.Numbers.{max_flags}
use Rattle.sb_crew.specs.Bases.{Base}
use Rattle.sb_crew.specs.Scenes.{Deed, nothing}
use Rattle.sb_session.specs.declared.end.SessionEnd.{SessionEnd}
use Rattle.sb_session.specs.declared.end.SessionEnd.TheVariants.{Fault, Spent}
use Rattle.sb_nbd.specs.declared.end.NbdEnd.TheVariants.{WriteFault}
use Rattle.sb_session.specs.Streams.{Streams, Moves}
use Rattle.sb_session.specs.Transcripts.{Exchange, IsTranscript, deed_in, asking_bytes, replying_bytes, requests_of}
use Rattle.sb_session.specs.Inputs.{IsInput}
use Rattle.sb_session.specs.Haggling.{Haggle, export_of, most_answers}
use Rattle.sb_session.specs.Handshakes.{Unopened, AreHaggled, opening_bytes, handshake_bytes}
use Rattle.sb_session.specs.Turns.{StopsBy, WritesOut}

-- a session behind its handshake: what it took, did and wrote from its first byte on
pub record Served (read_only : Bool) (base : Base) (before after : Streams) (end : SessionEnd)
    (deed : Deed) : Type 0 where
  pub flags : ℕ
  pub known : flags ≤ max_flags
  -- the options, of which the last one began the transmission
  pub options : List Haggle
  pub last : Haggle
  pub haggled : AreHaggled last options
  pub transcript : List Exchange
  pub answered : IsTranscript read_only base transcript
  pub deed_is : deed ≡ deed_in transcript
  -- the bytes behind the last request that was answered, and those that were written behind the handshake
  pub tail : List ℕ
  pub out : List ℕ
  pub moved : Moves before after (opening_bytes flags (last ∷ options) ++ (asking_bytes transcript ++ tail))
      (handshake_bytes (export_of base.geometry read_only) flags (last ∷ options) ++ out)
  pub stops : StopsBy after.left tail end
  pub writes : WritesOut end (replying_bytes transcript) out
  -- each option that was answered counts
  pub within : length transcript + (length options + 1) ≤ most_answers
  pub spent : end ≡ Spent → length transcript + (length options + 1) ≡ most_answers
  pub unspent : length transcript + (length options + 1) ≡ most_answers → (end ≡ Spent) ⊎ (end ≡ Fault WriteFault)
  -- where what is left is told, these are all requests up to what ends the session
  pub input : (rest : List ℕ) → after.left ≡ Some rest → (bytes : List ℕ)
      × (before.left ≡ Some (opening_bytes flags (last ∷ options) ++ bytes))
      × IsInput bytes (requests_of transcript) end

-- a session's handshake ended it and the disk wasn't called, or requests were answered
abbrev pub Course : Bool → Base → Streams → Streams → SessionEnd → Deed → Type 0
Course read_only base before after end deed =
    (Unopened (export_of base.geometry read_only) before after end × (deed ≡ nothing))
    ⊎ Served read_only base before after end deed

-- what a session did
pub record SessionTold (read_only : Bool) (base : Base) (before after : Streams) (did : Deed → Type 0)
    (end : SessionEnd) : Type 0 where
  pub deed : Deed
  pub done : did deed
  pub course : Course read_only base before after end deed
