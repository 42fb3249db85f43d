-- The same bytes have one answer.
use Rattle.std.proofs.Common.{ℕ, ◌≡◌, ◌⊎◌, ◌∙◌, Bool, true, false, List, [], ◌∷◌, ◌++◌, length, ap}
use Rattle.std.proofs.Common.{sym, subst, refl, arith, inl, inr, append_assoc, Option, Some, None, Result}
use Rattle.std.proofs.Common.{Ok, Err}
use Rattle.std.specs.List.{list_any}
use Rattle.httparse.specs.Grammar.{ResponseHead, print_response, status_code}
use Rattle.sb_sign.specs.declared.request.Pair.{Pair}
use Rattle.sb_world.specs.Told.{Gains}
use Rattle.sb_world.specs.declared.wire.Connection.{Connection}
use Rattle.sb_http.specs.declared.framing.Framing.{Framing}
use Rattle.sb_http.specs.declared.fault.HttpFault.{HttpFault}
use Rattle.sb_http.specs.declared.fault.HttpFault.TheVariants.{WireFault, HeadCut, HeadTooLong, BadHead, TooManyHeaders}
use Rattle.sb_http.specs.declared.fault.HttpFault.TheVariants.{BadLength, BodyCut, BadChunk, TooLong, Memory}
use Rattle.sb_http.specs.declared.response.Response.{Response}
use Rattle.sb_http.specs.Bodies.{IsBody}
use Rattle.sb_http.specs.Fields.{IsFraming, IsFramingBy, IsRefused, framing_by, first_length, has_no_body, is_chunked}
use Rattle.sb_http.specs.Fields.{refused_length}
use Rattle.sb_http.specs.Heads.{print_heads}
use Rattle.sb_http.specs.Responses.{AreHeads, Exchanges, StopsAtLength}
use Rattle.sb_http.specs.Responses.{StopsInBody, StopsInHeads, bound_of, connection, pairs_of, print_all}
use Rattle.sb_http.specs.Laws.{AnswersAgree, AnswersTo, ExchangesAgree, GoesByBytes, IsOfBytes, IsSame, IsSameFault, Receives}
use Rattle.sb_http.proofs.BodiesAgree.{BodyTo, bodies_agree}
use Rattle.sb_http.proofs.HeadsAgree.{Final, Stops, final_not_stops, one_head, one_stop}

-- the framing of a head

refused_agree : (refused : Option (List ℕ)) (framing : Framing) (one other : Result Framing HttpFault)
    → IsRefused refused one (λ f. f ≡ framing) → IsRefused refused other (λ f. f ≡ framing) → GoesByBytes one
    → GoesByBytes other → one ≡ other
refused_agree None framing (Ok f) (Ok g) h i u v = ap Ok (h ∙ sym i)
refused_agree None framing (Ok f) (Err g) h i u v = absurd i
refused_agree None framing (Err f) other h i u v = absurd h
refused_agree (Some text) framing (Ok f) other h i u v = absurd h
refused_agree (Some text) framing (Err f) (Ok g) h i u v = absurd i
refused_agree (Some text) framing (Err f) (Err g) h i u v = ap (λ x. Err x) (tells f h u ∙ sym (tells g i v)) where
  tells : (f : HttpFault) → IsRefused (Some text) (Err f) (λ x. x ≡ framing) → IsOfBytes f → f ≡ BadLength text
  tells (BadLength other) h u = ap (λ t. BadLength t) h
  tells Memory h u = absurd u
  tells WireFault h u = absurd h
  tells TooManyHeaders h u = absurd h
  tells (HeadCut n) h u = absurd h
  tells HeadTooLong h u = absurd h
  tells BadHead h u = absurd h
  tells (BodyCut want n) h u = absurd h
  tells (BadChunk n) h u = absurd h
  tells (TooLong n) h u = absurd h

framing_agrees : (none chunked : Bool) (pairs : List Pair) (one other : Result Framing HttpFault)
    → IsFramingBy none chunked pairs one → IsFramingBy none chunked pairs other → GoesByBytes one → GoesByBytes other
    → one ≡ other
framing_agrees true chunked pairs one other h i u v = h ∙ sym i
framing_agrees false true pairs one other h i u v = h ∙ sym i
framing_agrees false false pairs one other h i u v =
    refused_agree (refused_length pairs) (framing_by (first_length pairs)) one other h i u v

-- what comes behind the head that counts
data Tail : Type 0 where
  refused : (fault : HttpFault) → Tail
  body : (result : Result ℕ HttpFault) → Tail

abbrev ByBytes : Tail → Type 0
ByBytes (refused fault) = IsOfBytes fault
ByBytes (body result) = GoesByBytes result

record Behind (bodiless : Bool) (limit : ℕ) (h : ResponseHead) (bytes content : List ℕ) (framing : Framing)
    (result : Result ℕ HttpFault) : Type 0 where
  framed : IsFraming bodiless (status_code h) (pairs_of h) (Ok framing)
  read : BodyTo framing (bound_of (status_code h) limit) bytes content result

abbrev IsTail : Bool → ℕ → ResponseHead → List ℕ → List ℕ → Tail → Type 0
IsTail bodiless limit h bytes content (refused fault) =
    IsFraming bodiless (status_code h) (pairs_of h) (Err fault) × (content ≡ [])
IsTail bodiless limit h bytes content (body result) =
    (framing : Framing) × Behind bodiless limit h bytes content framing result

not_both : (framing : Framing) (fault : HttpFault) → Path (Result Framing HttpFault) (Ok framing) (Err fault) → ⊥
not_both framing fault e = cc e

framed_same : (f g : Framing) → Path (Result Framing HttpFault) (Ok f) (Ok g) → f ≡ g
framed_same f g e = cc e

refused_same : (f g : HttpFault) → Path (Result Framing HttpFault) (Err f) (Err g) → f ≡ g
refused_same f g e = cc e

tails_agree : (bodiless : Bool) (limit : ℕ) (h : ResponseHead) (bytes content carried : List ℕ) (one other : Tail)
    → IsTail bodiless limit h bytes content one → IsTail bodiless limit h bytes carried other → ByBytes one
    → ByBytes other → (one ≡ other) × (content ≡ carried)
tails_agree bodiless limit h bytes content carried (refused f) (refused g) a b u v = (
  ap refused (refused_same f g (framing_agrees (has_no_body bodiless (status_code h)) (list_any is_chunked (pairs_of h))
      (pairs_of h) (Err f) (Err g) a.0 b.0 u v)),
  a.1 ∙ sym b.1,
)
tails_agree bodiless limit h bytes content carried (refused f) (body r) a b u v =
    absurd (not_both b.0 f (framing_agrees (has_no_body bodiless (status_code h)) (list_any is_chunked (pairs_of h))
    (pairs_of h) (Ok b.0) (Err f) b.1.framed a.0 tt u))
tails_agree bodiless limit h bytes content carried (body r) (refused f) a b u v =
    absurd (not_both a.0 f (framing_agrees (has_no_body bodiless (status_code h)) (list_any is_chunked (pairs_of h))
    (pairs_of h) (Ok a.0) (Err f) a.1.framed b.0 tt v))
tails_agree bodiless limit h bytes content carried (body r) (body q) a b u v =
    let same = framed_same b.0 a.0 (framing_agrees (has_no_body bodiless (status_code h))
    (list_any is_chunked (pairs_of h)) (pairs_of h) (Ok b.0) (Ok a.0) b.1.framed a.1.framed tt tt) in
    let both = bodies_agree a.0 (bound_of (status_code h) limit) bytes content carried r q a.1.read
    (subst (λ f. BodyTo f (bound_of (status_code h) limit) bytes carried q) same b.1.read) u v in
    (ap body both.0, both.1)

-- the answer that these make
abbrev Makes : ResponseHead → Tail → Result Response HttpFault → Type 0
Makes h (refused fault) one = one ≡ Err fault
Makes h (body (Err fault)) one = one ≡ Err fault
Makes h (body (Ok count)) one =
    (r : Response) × (one ≡ Ok r) × (r.status ≡ status_code h) × (r.headers.items ≡ pairs_of h) × (r.length ≡ count)

fault_same : (fault : HttpFault) → IsSameFault fault fault
fault_same TooManyHeaders = tt
fault_same WireFault = refl
fault_same Memory = refl
fault_same (HeadCut n) = refl
fault_same HeadTooLong = refl
fault_same BadHead = refl
fault_same (BadLength text) = refl
fault_same (BodyCut want n) = refl
fault_same (BadChunk n) = refl
fault_same (TooLong n) = refl

same_fault : (fault : HttpFault) (one other : Result Response HttpFault) → one ≡ Err fault → other ≡ Err fault
    → IsSame one other
same_fault fault one other e f =
    subst (λ r. IsSame r other) (sym e) (subst (λ r. IsSame (Err fault) r) (sym f) (fault_same fault))

same_made : (h : ResponseHead) (t : Tail) (one other : Result Response HttpFault) → Makes h t one → Makes h t other
    → IsSame one other
same_made h (refused fault) one other a b = same_fault fault one other a b
same_made h (body (Err fault)) one other a b = same_fault fault one other a b
same_made h (body (Ok count)) one other a b =
    subst (λ r. IsSame r other) (sym a.1) (subst (λ r. IsSame (Ok a.0) r) (sym b.1)
    (a.2 ∙ sym b.2, a.3 ∙ sym b.3, a.4 ∙ sym b.4))

by_bytes : (h : ResponseHead) (t : Tail) (one : Result Response HttpFault) → Makes h t one → GoesByBytes one → ByBytes t
by_bytes h (refused fault) one a g = subst GoesByBytes a g
by_bytes h (body (Err fault)) one a g = subst GoesByBytes a g
by_bytes h (body (Ok count)) one a g = tt

-- an answer ends in the heads, or behind the head that counts
data View (bodiless : Bool) (limit : ℕ) (bytes content : List ℕ) (one : Result Response HttpFault) : Type 0 where
  stopped : (passed : List ResponseHead) (front left behind : List ℕ) (ended : Bool) (fault : HttpFault)
      → Stops 0 bytes passed front left behind ended fault → content ≡ [] → one ≡ Err fault
      → View bodiless limit bytes content one
  finished : (passed : List ResponseHead) (h : ResponseHead) (tail : List ℕ) (t : Tail) → Final 0 bytes passed h tail
      → IsTail bodiless limit h tail content t → Makes h t one → View bodiless limit bytes content one

nothing_behind : (left unseen : List ℕ) (ended : Bool) → (ended ≡ true → unseen ≡ [])
    → (ended ≡ true → left ≡ [] → left ++ unseen ≡ [])
nothing_behind left unseen ended w e none = ap (λ xs. xs ++ unseen) none ∙ w e

final_of : (bytes taken rest : List ℕ) (passed : List ResponseHead) (h : ResponseHead) (tail : List ℕ)
    → AreHeads passed h → bytes ≡ taken ++ rest → taken ++ rest ≡ print_all passed h ++ tail
    → Final 0 bytes passed h tail
final_of bytes taken rest passed h tail heads parts is = record {
  interim = heads.interim;
  few = omega (arith, heads.few);
  head = heads.head;
  final = heads.final;
  parts = parts ∙ is ∙ append_assoc (print_heads passed) (print_response h) tail;
}

body_to : (framing : Framing) (bound : ℕ) (taken left unseen content : List ℕ) (ended : Bool)
    (result : Result ℕ HttpFault) → (ended ≡ true → unseen ≡ []) → IsBody framing bound taken content left ended result
    → BodyTo framing bound (taken ++ (left ++ unseen)) content result
body_to framing bound taken left unseen content ended result w is = record {
  taken = taken;
  behind = left ++ unseen;
  left = left;
  ended = ended;
  parts = refl;
  whole = nothing_behind left unseen ended w;
  body = is;
}

behind_heads : (passed : List ResponseHead) (h : ResponseHead) (taken bytes_of_body rest : List ℕ)
    → taken ≡ print_all passed h ++ bytes_of_body → taken ++ rest ≡ print_all passed h ++ (bytes_of_body ++ rest)
behind_heads passed h taken bytes_of_body rest e =
    ap (λ xs. xs ++ rest) e ∙ append_assoc (print_all passed h) bytes_of_body rest

view_of : (bodiless : Bool) (limit : ℕ) (bytes content : List ℕ) (one : Result Response HttpFault)
    → AnswersTo bodiless limit bytes content one → View bodiless limit bytes content one
view_of bodiless limit bytes content (Ok r) a =
    let x = a.answer in
    finished x.passed x.h (x.bytes_of_body ++ (a.left ++ a.unseen)) (body (Ok r.length))
    (final_of bytes a.taken (a.left ++ a.unseen) x.passed x.h _ x.heads a.parts
    (behind_heads x.passed x.h a.taken x.bytes_of_body (a.left ++ a.unseen) x.bytes)) (
      x.body.framing,
      record {
        framed = x.body.framed;
        read = body_to x.body.framing _ x.bytes_of_body a.left a.unseen content a.ended (Ok r.length) a.whole x.body.body;
      },
    )
    (r, refl, x.status, x.fields, refl)
view_of bodiless limit bytes content (Err fault) a = by a.answer where
  by : StopsInHeads a.taken content a.left a.ended fault
      ⊎ (StopsAtLength bodiless a.taken content a.ended fault
      ⊎ StopsInBody bodiless limit a.taken content a.left a.ended fault)
      → View bodiless limit bytes content (Err fault)
  by (inl x) =
      stopped x.passed x.front a.left (a.left ++ a.unseen) a.ended fault
      (record {
        interim = x.interim;
        count = length x.passed;
        counts = omega arith;
        ends = x.ends;
        whole = nothing_behind a.left a.unseen a.ended a.whole;
        parts = a.parts ∙ ap (λ xs. xs ++ (a.left ++ a.unseen)) x.bytes
            ∙ append_assoc (print_heads x.passed) x.front (a.left ++ a.unseen);
      })
      x.none refl
  by (inr (inl x)) =
      finished x.passed x.h (a.left ++ a.unseen) (refused fault)
      (final_of bytes a.taken (a.left ++ a.unseen) x.passed x.h _ x.heads a.parts
      (ap (λ xs. xs ++ (a.left ++ a.unseen)) x.bytes))
      (x.framed, x.none) refl
  by (inr (inr x)) =
      finished x.passed x.h (x.bytes_of_body ++ (a.left ++ a.unseen)) (body (Err fault))
      (final_of bytes a.taken (a.left ++ a.unseen) x.passed x.h _ x.heads a.parts
      (behind_heads x.passed x.h a.taken x.bytes_of_body (a.left ++ a.unseen) x.bytes)) (
        x.body.framing,
        record {
          framed = x.body.framed;
          read = body_to x.body.framing _ x.bytes_of_body a.left a.unseen content a.ended (Err fault) a.whole x.body.body;
        },
      )
      refl

views_agree : (bodiless : Bool) (limit : ℕ) (bytes content carried : List ℕ) (one other : Result Response HttpFault)
    → View bodiless limit bytes content one → View bodiless limit bytes carried other → GoesByBytes one
    → GoesByBytes other → IsSame one other × (content ≡ carried)
views_agree bodiless limit bytes content carried one other (stopped xs a l r e f s n is) (stopped ys b m q d g t k also) u v =
    let same = one_stop 0 bytes xs ys a l r e f b m q d g s t (subst GoesByBytes is u) (subst GoesByBytes also v) in
    (subst (λ x. IsSame x other) (sym is) (subst (λ x. IsSame (Err f) x) (sym also) same), n ∙ sym k)
views_agree bodiless limit bytes content carried one other (stopped xs a l r e f s n is) (finished ys h q t w i m) u v =
    absurd (final_not_stops 0 bytes ys xs h q a l r e f w s (subst GoesByBytes is u))
views_agree bodiless limit bytes content carried one other (finished ys h q t w i m) (stopped xs a l r e f s n is) u v =
    absurd (final_not_stops 0 bytes ys xs h q a l r e f w s (subst GoesByBytes is v))
views_agree bodiless limit bytes content carried one other (finished xs h r s a i m) (finished ys k q t b j n) u v =
    let same = one_head 0 bytes xs ys h k r q a b in
    let moved = subst (λ x. IsTail bodiless limit x r carried t) (sym same.0)
    (subst (λ x. IsTail bodiless limit k x carried t) (sym same.1) j) in
    let made = subst (λ x. Makes x t other) (sym same.0) n in
    let tails = tails_agree bodiless limit h r content carried s t i moved (by_bytes h s one m u) (by_bytes h t other made v) in
    (same_made h s one other m (subst (λ x. Makes h x other) (sym tails.0) made), tails.1)

pub answers_agree : AnswersAgree
answers_agree bodiless limit bytes content carried one other a b g j =
    views_agree bodiless limit bytes content carried one other (view_of bodiless limit bytes content one a)
    (view_of bodiless limit bytes carried other b) g j

-- what was received on the newest connection that is told
newest_is : (before now : Option (List Connection)) (c : Connection) (bytes : List ℕ) → Gains before now (c ∷ [])
    → (r : Receives bytes now) → r.newest ≡ c
newest_is before now c bytes gains r =
    let told = gains.told (r.newest ∷ r.older) r.connected in
    cc told.2

answers_to : (bodiless : Bool) (limit : ℕ) (bytes : List ℕ) (before now : Option (List Connection))
    (request old new : List ℕ) (one : Result Response HttpFault)
    → Exchanges bodiless limit before now request old new one → Receives bytes now → GoesByBytes one
    → (content : List ℕ) × (new ≡ old ++ content) × AnswersTo bodiless limit bytes content one
answers_to bodiless limit bytes before now request old new one (inl x) r g = absurd (subst GoesByBytes x.failed g)
answers_to bodiless limit bytes before now request old new one (inr x) r g =
    let same = newest_is before now (connection request x.received x.ended) bytes x.connected r in (
      x.content,
      x.room,
      record {
        taken = x.taken;
        left = x.left;
        unseen = r.unseen;
        ended = x.ended;
        parts = r.parts ∙ ap (λ c. c.received ++ r.unseen) same ∙ ap (λ xs. xs ++ r.unseen) x.parts
            ∙ append_assoc x.taken x.left r.unseen;
        whole = λ e. r.whole (ap (λ c. c.ended) same ∙ e);
        answer = x.answer;
      },
    )

pub exchanges_agree : ExchangesAgree
exchanges_agree bodiless limit bytes old before now request new one early late question room other a b r q g j =
    let x = answers_to bodiless limit bytes before now request old new one a r g in
    let y = answers_to bodiless limit bytes early late question old room other b q j in
    let same = answers_agree bodiless limit bytes x.0 y.0 one other x.2 y.2 g j in
    (same.0, x.1 ∙ ap (λ xs. old ++ xs) same.1 ∙ sym y.1)
