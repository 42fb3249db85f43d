-- Bodies of responses (RFC 9112, section 6).
use Rattle.std.specs.Prelude.{ℕ, ◌≡◌, ◌≤◌, ◌<◌, ◌+◌, Bool, true, false, List, [], ◌∷◌, ◌++◌, length, All, Option, Some}
use Rattle.std.specs.Prelude.{Result, Ok, Err}
use Rattle.sb_world.specs.declared.wire.Connection.{Connection}
use Rattle.sb_http.specs.declared.framing.Framing.{Framing}
use Rattle.sb_http.specs.declared.framing.Framing.TheVariants.{Empty, Sized, Chunked, ToEnd}
use Rattle.sb_http.specs.declared.fault.HttpFault.{HttpFault}
use Rattle.sb_http.specs.declared.fault.HttpFault.TheVariants.{BodyCut, TooLong}
use Rattle.sb_http.specs.Takings.{Takes, IsOutside}
use Rattle.sb_http.specs.Chunks.{Chunk, IsChunk, print_chunks, content_of, Place, IsPlace, print_place, content_at}
use Rattle.sb_http.specs.Chunks.{EndsChunks}

-- whole chunks within the limit and the place behind them, where the reading ends
pub record IsChunked (limit : ℕ) (taken content left : List ℕ) (ended : Bool)
    (result : Result ℕ HttpFault) : Type 0 where
  pub chunks : List Chunk
  pub place : Place
  pub all : All IsChunk chunks
  pub fits : length (content_of chunks) ≤ limit
  pub reached : IsPlace limit (length (content_of chunks)) place
  pub bytes : taken ≡ print_chunks chunks ++ print_place place
  pub carried : content ≡ content_of chunks ++ content_at place
  pub ends : EndsChunks limit (length (content_of chunks) + length (content_at place)) place left ended result

-- a body of a length that was declared
abbrev pub IsSized : ℕ → ℕ → List ℕ → List ℕ → Bool → Result ℕ HttpFault → Type 0
IsSized size limit content left ended (Ok count) =
    (size ≤ limit) × (length content ≡ size) × (count ≡ size) × (ended ≡ false)
IsSized size limit content left ended (Err (BodyCut want count)) =
    (size ≤ limit) × (length content < size) × (count ≡ length content) × (want ≡ Some size)
    × (left ≡ []) × (ended ≡ true)
IsSized size limit content left ended (Err (TooLong bound)) =
    (limit < size) × (bound ≡ limit) × (content ≡ []) × (ended ≡ false)
IsSized size limit content left ended (Err fault) =
    IsOutside fault × (size ≤ limit) × (length content ≤ size) × (ended ≡ false)

-- a body to the end of the input
abbrev pub IsToEnd : ℕ → List ℕ → List ℕ → List ℕ → Bool → Result ℕ HttpFault → Type 0
IsToEnd limit taken content left ended (Ok count) =
    (taken ≡ content) × (length content ≤ limit) × (count ≡ length content) × (left ≡ []) × (ended ≡ true)
IsToEnd limit taken content left ended (Err (TooLong bound)) =
    (byte : ℕ) × (taken ≡ content ++ byte ∷ []) × (length content ≡ limit) × (bound ≡ limit) × (ended ≡ false)
IsToEnd limit taken content left ended (Err fault) =
    IsOutside fault × (taken ≡ content) × (length content ≤ limit) × (ended ≡ false)

-- what was taken of a body, what it carried, and what is left behind it, at the input's end or before it
abbrev pub IsBody : Framing → ℕ → List ℕ → List ℕ → List ℕ → Bool → Result ℕ HttpFault → Type 0
IsBody Empty limit taken content left ended result =
    (taken ≡ []) × (content ≡ []) × (result ≡ Ok 0) × (ended ≡ false)
IsBody (Sized size) limit taken content left ended result =
    (taken ≡ content) × IsSized size limit content left ended result
IsBody Chunked limit taken content left ended result = IsChunked limit taken content left ended result
IsBody ToEnd limit taken content left ended result = IsToEnd limit taken content left ended result

-- a body was read behind the old bytes of a vector, or the reading ended
pub record ReadsBody (framing : Framing) (limit : ℕ) (before now : Option (List Connection)) (ahead old new : List ℕ)
    (result : Result ℕ HttpFault) : Type 0 where
  pub taken : List ℕ
  pub content : List ℕ
  pub left : List ℕ
  pub ended : Bool
  pub takes : Takes before now ahead left taken ended
  pub room : new ≡ old ++ content
  pub body : IsBody framing limit taken content left ended result
