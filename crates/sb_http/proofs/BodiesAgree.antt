-- The same bytes are one body.
use Rattle.std.proofs.Common.{ℕ, ◌≡◌, ◌≤◌, ◌<◌, ◌+◌, ◌∙◌, Bool, true, List, [], ◌∷◌, ◌++◌, length, ap, sym}
use Rattle.std.proofs.Common.{refl, arith, Option, Some, None, Result, Ok, Err, append-nil, append_assoc, length-append}
use Rattle.sb_http.specs.declared.framing.Framing.{Framing}
use Rattle.sb_http.specs.declared.framing.Framing.TheVariants.{Empty, Sized, Chunked, ToEnd}
use Rattle.sb_http.specs.declared.fault.HttpFault.{HttpFault}
use Rattle.sb_http.specs.declared.fault.HttpFault.TheVariants.{WireFault, HeadCut, HeadTooLong, BadHead, TooManyHeaders}
use Rattle.sb_http.specs.declared.fault.HttpFault.TheVariants.{BadLength, BodyCut, BadChunk, TooLong, Memory}
use Rattle.sb_http.specs.Chunks.{EndsChunks, IsOver, Place, content_at, content_of, in_content, in_end, in_size}
use Rattle.sb_http.specs.Chunks.{in_trailer, print_chunks, print_place}
use Rattle.sb_http.specs.Bodies.{IsBody, IsSized, IsToEnd}
use Rattle.sb_http.specs.Laws.{GoesByBytes}
use Rattle.sb_http.proofs.Fronts.{same_front}
use Rattle.sb_http.proofs.Places.{EndsAt, Kind, at_end, bad, cut, over}
use Rattle.sb_http.proofs.ChunksAgree.{Ended, chunks_agree}

-- a body behind which these bytes lie, none where the input ended and nothing was left
pub record BodyTo (framing : Framing) (limit : ℕ) (bytes content : List ℕ)
    (result : Result ℕ HttpFault) : Type 0 where
  pub taken : List ℕ
  pub behind : List ℕ
  pub left : List ℕ
  pub ended : Bool
  pub parts : bytes ≡ taken ++ behind
  pub whole : ended ≡ true → left ≡ [] → behind ≡ []
  pub body : IsBody framing limit taken content left ended result

-- what is answered where the reading ends so, behind so much of the body
abbrev answer_of : Option ℕ → ℕ → ℕ → Kind → Result ℕ HttpFault
answer_of want limit got at_end = Ok got
answer_of want limit got bad = Err (BadChunk got)
answer_of want limit got cut = Err (BodyCut want got)
answer_of want limit got over = Err (TooLong limit)

-- how a body of a declared length ends
abbrev EndsSized : Kind → ℕ → ℕ → List ℕ → List ℕ → Type 0
EndsSized at_end size limit content behind = (size ≤ limit) × (length content ≡ size)
EndsSized bad size limit content behind = ⊥
EndsSized cut size limit content behind = (size ≤ limit) × (length content < size) × (behind ≡ [])
EndsSized over size limit content behind = (limit < size) × (content ≡ [])

sized_ends : (size limit : ℕ) (content behind left : List ℕ) (ended : Bool) (result : Result ℕ HttpFault)
    → (ended ≡ true → left ≡ [] → behind ≡ []) → IsSized size limit content left ended result → GoesByBytes result
    → (k : Kind) × EndsSized k size limit content behind × (result ≡ answer_of (Some size) limit (length content) k)
sized_ends size limit content behind left ended (Ok count) w h g = (at_end, (h.0, h.1), ap Ok (h.2 ∙ sym h.1))
sized_ends size limit content behind left ended (Err (BodyCut want count)) w h g =
    (cut, (h.0, h.1, w h.5 h.4), ap (λ f. Err f) (ap (λ o. BodyCut o count) h.3 ∙ ap (λ n. BodyCut (Some size) n) h.2))
sized_ends size limit content behind left ended (Err (TooLong bound)) w h g =
    (over, (h.0, h.2), ap (λ n. Err (TooLong n)) h.1)
sized_ends size limit content behind left ended (Err WireFault) w h g = absurd g
sized_ends size limit content behind left ended (Err Memory) w h g = absurd g
sized_ends size limit content behind left ended (Err TooManyHeaders) w h g = absurd h.0
sized_ends size limit content behind left ended (Err (HeadCut n)) w h g = absurd h.0
sized_ends size limit content behind left ended (Err HeadTooLong) w h g = absurd h.0
sized_ends size limit content behind left ended (Err BadHead) w h g = absurd h.0
sized_ends size limit content behind left ended (Err (BadLength text)) w h g = absurd h.0
sized_ends size limit content behind left ended (Err (BadChunk n)) w h g = absurd h.0

sized_agree : (k l : Kind) (size limit : ℕ) (content carried r q : List ℕ) → EndsSized k size limit content r
    → EndsSized l size limit carried q → content ++ r ≡ carried ++ q → (k ≡ l) × (content ≡ carried)
sized_agree bad l size limit content carried r q h i e = absurd h
sized_agree k bad size limit content carried r q h i e = absurd i
sized_agree at_end at_end size limit content carried r q h i e =
    (refl, (same_front content carried r q (omega (arith, h.1, i.1)) e).0)
sized_agree at_end cut size limit content carried r q h i e =
    absurd (omega (
      arith,
      h.1,
      i.1,
      length-append content r,
      length-append carried q,
      ap (λ (xs : List ℕ). length xs) e,
      ap (λ (xs : List ℕ). length xs) i.2,
    ))
sized_agree at_end over size limit content carried r q h i e = absurd (omega (arith, h.0, i.0))
sized_agree cut at_end size limit content carried r q h i e =
    absurd (omega (
      arith,
      i.1,
      h.1,
      length-append content r,
      length-append carried q,
      ap (λ (xs : List ℕ). length xs) e,
      ap (λ (xs : List ℕ). length xs) h.2,
    ))
sized_agree cut cut size limit content carried r q h i e =
    (refl, sym (append-nil content) ∙ ap (λ xs. content ++ xs) (sym h.2) ∙ e ∙ ap (λ xs. carried ++ xs) i.2 ∙ append-nil carried)
sized_agree cut over size limit content carried r q h i e = absurd (omega (arith, h.0, i.0))
sized_agree over at_end size limit content carried r q h i e = absurd (omega (arith, h.0, i.0))
sized_agree over cut size limit content carried r q h i e = absurd (omega (arith, h.0, i.0))
sized_agree over over size limit content carried r q h i e = (refl, h.1 ∙ sym i.1)

-- how a body to the end ends
abbrev EndsToEnd : Kind → ℕ → List ℕ → List ℕ → List ℕ → Type 0
EndsToEnd at_end limit taken content behind = (taken ≡ content) × (length content ≤ limit) × (behind ≡ [])
EndsToEnd bad limit taken content behind = ⊥
EndsToEnd cut limit taken content behind = ⊥
EndsToEnd over limit taken content behind =
    (byte : ℕ) × (taken ≡ content ++ byte ∷ []) × (length content ≡ limit)

to_end_ends : (limit : ℕ) (taken content behind left : List ℕ) (ended : Bool) (result : Result ℕ HttpFault)
    → (ended ≡ true → left ≡ [] → behind ≡ []) → IsToEnd limit taken content left ended result → GoesByBytes result
    → (k : Kind) × EndsToEnd k limit taken content behind × (result ≡ answer_of None limit (length content) k)
to_end_ends limit taken content behind left ended (Ok count) w h g = (at_end, (h.0, h.1, w h.4 h.3), ap Ok h.2)
to_end_ends limit taken content behind left ended (Err (TooLong bound)) w h g =
    (over, (h.0, h.1, h.2), ap (λ n. Err (TooLong n)) h.3)
to_end_ends limit taken content behind left ended (Err WireFault) w h g = absurd g
to_end_ends limit taken content behind left ended (Err Memory) w h g = absurd g
to_end_ends limit taken content behind left ended (Err TooManyHeaders) w h g = absurd h.0
to_end_ends limit taken content behind left ended (Err (HeadCut n)) w h g = absurd h.0
to_end_ends limit taken content behind left ended (Err HeadTooLong) w h g = absurd h.0
to_end_ends limit taken content behind left ended (Err BadHead) w h g = absurd h.0
to_end_ends limit taken content behind left ended (Err (BadLength text)) w h g = absurd h.0
to_end_ends limit taken content behind left ended (Err (BadChunk n)) w h g = absurd h.0
to_end_ends limit taken content behind left ended (Err (BodyCut want n)) w h g = absurd h.0

-- a body that ended isn't too long
ended_not_long : (limit : ℕ) (taken content other carried r q : List ℕ) → EndsToEnd at_end limit taken content r
    → EndsToEnd over limit other carried q → taken ++ r ≡ other ++ q → ⊥
ended_not_long limit taken content other carried r q h i e =
    omega (
      arith,
      h.1,
      i.2,
      ap (λ (xs : List ℕ). length xs) h.0,
      ap (λ (xs : List ℕ). length xs) h.2,
      ap (λ (xs : List ℕ). length xs) i.1,
      length-append carried (i.0 ∷ []),
      length-append taken r,
      length-append other q,
      ap (λ (xs : List ℕ). length xs) e,
    )

to_end_agree : (k l : Kind) (limit : ℕ) (taken content other carried r q : List ℕ)
    → EndsToEnd k limit taken content r → EndsToEnd l limit other carried q → taken ++ r ≡ other ++ q
    → (k ≡ l) × (content ≡ carried)
to_end_agree bad l limit taken content other carried r q h i e = absurd h
to_end_agree cut l limit taken content other carried r q h i e = absurd h
to_end_agree k bad limit taken content other carried r q h i e = absurd i
to_end_agree k cut limit taken content other carried r q h i e = absurd i
to_end_agree at_end at_end limit taken content other carried r q h i e = (
  refl,
  sym h.0 ∙ sym (append-nil taken) ∙ ap (λ xs. taken ++ xs) (sym h.2) ∙ e ∙ ap (λ xs. other ++ xs) i.2
      ∙ append-nil other ∙ i.0,
)
to_end_agree at_end over limit taken content other carried r q h i e =
    absurd (ended_not_long limit taken content other carried r q h i e)
to_end_agree over at_end limit taken content other carried r q h i e =
    absurd (ended_not_long limit other carried taken content q r i h (sym e))
to_end_agree over over limit taken content other carried r q h i e =
    let joined : content ++ (h.0 ∷ r) ≡ carried ++ (i.0 ∷ q) =
    sym (append_assoc content (h.0 ∷ []) r) ∙ ap (λ xs. xs ++ r) (sym h.1) ∙ e ∙ ap (λ xs. xs ++ q) i.1
    ∙ append_assoc carried (i.0 ∷ []) q in
    (refl, (same_front content carried (h.0 ∷ r) (i.0 ∷ q) (omega (arith, h.2, i.2)) joined).0)

over_at : (place : Place) (limit count : ℕ) → IsOver limit (count + length (content_at place)) place
    → IsOver limit count place
over_at (in_size bytes) limit count h = (h.0, h.1, omega (arith, h.2))
over_at (in_content line size bytes) limit count h = absurd h
over_at (in_end line content bytes) limit count h = absurd h
over_at (in_trailer line bytes) limit count h = absurd h

-- how chunks end
place_ends : (limit count got : ℕ) (place : Place) (behind left : List ℕ) (ended : Bool) (result : Result ℕ HttpFault)
    → (ended ≡ true → left ≡ [] → behind ≡ []) → count + length (content_at place) ≡ got
    → EndsChunks limit (count + length (content_at place)) place left ended result → GoesByBytes result
    → (k : Kind) × EndsAt k limit count place behind × (result ≡ answer_of None limit got k)
place_ends limit count got place behind left ended (Ok n) w is h g = (at_end, h.0, ap Ok (h.1 ∙ is))
place_ends limit count got place behind left ended (Err (BadChunk n)) w is h g =
    (bad, h.0, ap (λ m. Err (BadChunk m)) (h.1 ∙ is))
place_ends limit count got place behind left ended (Err (BodyCut want n)) w is h g = (
  cut,
  (h.0, w h.4 h.3),
  ap (λ f. Err f) (ap (λ o. BodyCut o n) h.1 ∙ ap (λ m. BodyCut None m) (h.2 ∙ is)),
)
place_ends limit count got place behind left ended (Err (TooLong bound)) w is h g =
    (over, over_at place limit count h.0, ap (λ m. Err (TooLong m)) h.1)
place_ends limit count got place behind left ended (Err WireFault) w is h g = absurd g
place_ends limit count got place behind left ended (Err Memory) w is h g = absurd g
place_ends limit count got place behind left ended (Err TooManyHeaders) w is h g = absurd h.0
place_ends limit count got place behind left ended (Err (HeadCut n)) w is h g = absurd h.0
place_ends limit count got place behind left ended (Err HeadTooLong) w is h g = absurd h.0
place_ends limit count got place behind left ended (Err BadHead) w is h g = absurd h.0
place_ends limit count got place behind left ended (Err (BadLength text)) w is h g = absurd h.0

-- what a body in chunks is, and how it ends
chunks_end : (limit : ℕ) (bytes content : List ℕ) (result : Result ℕ HttpFault)
    → (a : BodyTo Chunked limit bytes content result) → GoesByBytes result
    → (k : Kind) × Ended limit 0 (length (content_of a.body.chunks)) bytes a.body.chunks a.body.place k a.behind
    × (result ≡ answer_of None limit (length content) k)
chunks_end limit bytes content result a g =
    let len : length (content_of a.body.chunks) + length (content_at a.body.place) ≡ length content =
    sym (length-append (content_of a.body.chunks) (content_at a.body.place))
    ∙ ap (λ (xs : List ℕ). length xs) (sym a.body.carried) in
    let ends = place_ends limit (length (content_of a.body.chunks)) (length content) a.body.place a.behind a.left a.ended
    result a.whole len a.body.ends g in (
      ends.0,
      record {
        all = a.body.all;
        counts = omega arith;
        fits = a.body.fits;
        at = a.body.reached;
        ends = ends.1;
        parts = a.parts ∙ ap (λ xs. xs ++ a.behind) a.body.bytes
            ∙ append_assoc (print_chunks a.body.chunks) (print_place a.body.place) a.behind;
      },
      ends.2,
    )

chunked_agree : (limit : ℕ) (bytes : List ℕ) (content carried : List ℕ) (one other : Result ℕ HttpFault)
    → BodyTo Chunked limit bytes content one → BodyTo Chunked limit bytes carried other → GoesByBytes one
    → GoesByBytes other → (one ≡ other) × (content ≡ carried)
chunked_agree limit bytes content carried one other a b g j =
    let h = chunks_end limit bytes content one a g in
    let i = chunks_end limit bytes carried other b j in
    let same = chunks_agree limit 0 _ _ bytes a.body.chunks b.body.chunks a.body.place b.body.place h.0 i.0 a.behind
    b.behind h.1 i.1 in
    let carries : content ≡ carried = a.body.carried ∙ same.1 ∙ sym b.body.carried in (
      h.2 ∙ ap (λ k. answer_of None limit (length content) k) same.0
          ∙ ap (λ (xs : List ℕ). answer_of None limit (length xs) i.0) carries ∙ sym i.2,
      carries,
    )

-- two bodies of the same bytes are one
pub bodies_agree : (framing : Framing) (limit : ℕ) (bytes : List ℕ) (content carried : List ℕ)
    (one other : Result ℕ HttpFault)
    → BodyTo framing limit bytes content one → BodyTo framing limit bytes carried other → GoesByBytes one
    → GoesByBytes other → (one ≡ other) × (content ≡ carried)
bodies_agree Empty limit bytes content carried one other a b g j =
    (a.body.2 ∙ sym b.body.2, a.body.1 ∙ sym b.body.1)
bodies_agree (Sized size) limit bytes content carried one other a b g j =
    let h = sized_ends size limit content a.behind a.left a.ended one a.whole a.body.1 g in
    let i = sized_ends size limit carried b.behind b.left b.ended other b.whole b.body.1 j in
    let same = sized_agree h.0 i.0 size limit content carried a.behind b.behind h.1 i.1
    (ap (λ xs. xs ++ a.behind) (sym a.body.0) ∙ sym a.parts ∙ b.parts ∙ ap (λ xs. xs ++ b.behind) b.body.0) in (
      h.2 ∙ ap (λ k. answer_of (Some size) limit (length content) k) same.0
          ∙ ap (λ (xs : List ℕ). answer_of (Some size) limit (length xs) i.0) same.1 ∙ sym i.2,
      same.1,
    )
bodies_agree Chunked limit bytes content carried one other a b g j =
    chunked_agree limit bytes content carried one other a b g j
bodies_agree ToEnd limit bytes content carried one other a b g j =
    let h = to_end_ends limit a.taken content a.behind a.left a.ended one a.whole a.body g in
    let i = to_end_ends limit b.taken carried b.behind b.left b.ended other b.whole b.body j in
    let same = to_end_agree h.0 i.0 limit a.taken content b.taken carried a.behind b.behind h.1 i.1
    (sym a.parts ∙ b.parts) in (
      h.2 ∙ ap (λ k. answer_of None limit (length content) k) same.0
          ∙ ap (λ (xs : List ℕ). answer_of None limit (length xs) i.0) same.1 ∙ sym i.2,
      same.1,
    )
