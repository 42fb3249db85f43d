-- The same bytes begin with one row of heads.
use Rattle.std.proofs.Common.{ℕ, ◌≡◌, ◌≤◌, ◌<◌, ◌+◌, ◌∙◌, Bool, true, false, All, List, [], ◌∷◌, ◌++◌, length, ap}
use Rattle.std.proofs.Common.{sym, subst, refl, arith, inl, inr, append-nil, append_assoc, length-append}
use Rattle.std.proofs.lemmas.List.Elements.{All-head, All-tail}
use Rattle.httparse.specs.Grammar.{HasNoResponse, MayBecomeResponse, NeverHasResponse, ResponseHead}
use Rattle.httparse.specs.Grammar.{print_response, status_code}
use Rattle.httparse.proofs.GrammarLemmas.{response_unique}
use Rattle.sb_http.specs.declared.fault.HttpFault.{HttpFault}
use Rattle.sb_http.specs.declared.fault.HttpFault.TheVariants.{WireFault, HeadCut, HeadTooLong, BadHead, TooManyHeaders}
use Rattle.sb_http.specs.declared.fault.HttpFault.TheVariants.{BadLength, BodyCut, BadChunk, TooLong, Memory}
use Rattle.sb_http.specs.Heads.{EndsHead, EndsHeads, IsHead, IsInterim, is_interim, print_heads}
use Rattle.httparse.specs.Spans.{ResponseOverflows}
use Rattle.sb_http.specs.Laws.{IsOfBytes, IsOfHead, IsSameFault}
use Rattle.sb_http.proofs.Fronts.{shorter_front}

-- how the bytes of a head end that is none
data HeadKind : Type 0 where
  cut long bad lines : HeadKind

abbrev HeadEnds : HeadKind → List ℕ → List ℕ → Type 0
HeadEnds cut front behind =
    HasNoResponse front × MayBecomeResponse front × (length front < 16384) × (behind ≡ [])
HeadEnds long front behind = HasNoResponse front × MayBecomeResponse front × (length front ≡ 16384)
HeadEnds bad front behind = NeverHasResponse front × (length front ≤ 16384)
HeadEnds lines front behind = ResponseOverflows 64 front

abbrev fault_of : HeadKind → ℕ → HttpFault
fault_of cut count = HeadCut count
fault_of long count = HeadTooLong
fault_of bad count = BadHead
fault_of lines count = TooManyHeaders

head_ends : (front left behind : List ℕ) (ended : Bool) (fault : HttpFault) → (ended ≡ true → left ≡ [] → behind ≡ [])
    → EndsHead front left ended fault → IsOfBytes fault
    → (k : HeadKind) × HeadEnds k front behind × (fault ≡ fault_of k (length front))
head_ends front left behind ended (HeadCut count) w h g = (cut, (h.0, h.1, h.2, w h.5 h.4), ap HeadCut h.3)
head_ends front left behind ended HeadTooLong w h g = (long, (h.0, h.1, h.2), refl)
head_ends front left behind ended BadHead w h g = (bad, (h.0, h.1), refl)
head_ends front left behind ended WireFault w h g = absurd g
head_ends front left behind ended Memory w h g = absurd g
head_ends front left behind ended TooManyHeaders w h g = (lines, h.1, refl)
head_ends front left behind ended (BadLength text) w h g = absurd h.0
head_ends front left behind ended (BodyCut want n) w h g = absurd h.0
head_ends front left behind ended (BadChunk n) w h g = absurd h.0
head_ends front left behind ended (TooLong n) w h g = absurd h.0

to_bytes : (bytes front behind : List ℕ) → bytes ≡ front ++ behind → behind ≡ [] → bytes ≡ front
to_bytes bytes front behind e none = e ∙ ap (λ xs. front ++ xs) none ∙ append-nil front

-- where a head stands, the reading doesn't end in it
not_a_head : (k : HeadKind) (bytes front behind : List ℕ) (h : ResponseHead) (tail : List ℕ)
    → HeadEnds k front behind → bytes ≡ front ++ behind → IsHead h → bytes ≡ print_response h ++ tail → ⊥
not_a_head cut bytes front behind h tail ends e is at =
    ends.0 h tail (is.grammar, sym (to_bytes bytes front behind e ends.3) ∙ at)
not_a_head long bytes front behind h tail ends e is at =
    let part = shorter_front (print_response h) front tail behind (omega (arith, is.size, ends.2)) (sym at ∙ e) in
    ends.0 h part.0 (is.grammar, part.1)
not_a_head bad bytes front behind h tail ends e is at = ends.0 behind h tail (is.grammar, sym e ∙ at)
not_a_head lines bytes front behind h tail ends e is at =
    omega (arith, ends behind h tail (is.grammar, sym e ∙ at), is.lines)

-- what may become a head isn't bad
never_may : (front more : List ℕ) (b : List ℕ) → NeverHasResponse front → b ≡ front ++ more → MayBecomeResponse b → ⊥
never_may front more b never e may =
    let longer : b ++ may.0 ≡ front ++ (more ++ may.0) = ap (λ xs. xs ++ may.0) e ∙ append_assoc front more may.0 in
    never (more ++ may.0) may.1 [] (may.2.0, sym longer ∙ may.2.1)

bad_not_cut : (bytes a b r q : List ℕ) → HeadEnds bad a r → HeadEnds cut b q → bytes ≡ a ++ r → bytes ≡ b ++ q → ⊥
bad_not_cut bytes a b r q h i e f = never_may a r b h.0 (sym (to_bytes bytes b q f i.3) ∙ e) i.1

bad_not_long : (bytes a b r q : List ℕ) → HeadEnds bad a r → HeadEnds long b q → bytes ≡ a ++ r → bytes ≡ b ++ q → ⊥
bad_not_long bytes a b r q h i e f =
    let part = shorter_front a b r q (omega (arith, h.1, i.2)) (sym e ∙ f) in
    never_may a part.0 b h.0 part.1 i.1

long_not_cut : (bytes a b r q : List ℕ) → HeadEnds long a r → HeadEnds cut b q → bytes ≡ a ++ r → bytes ≡ b ++ q → ⊥
long_not_cut bytes a b r q h i e f =
    omega (arith, h.2, i.2, ap (λ (xs : List ℕ). length xs) (sym (to_bytes bytes b q f i.3) ∙ e), length-append a r)

any_of_head : (k : HeadKind) (count : ℕ) → IsOfHead (fault_of k count)
any_of_head cut count = tt
any_of_head long count = tt
any_of_head bad count = tt
any_of_head lines count = tt

-- two ends in a head of the same bytes are one
same_end : (k l : HeadKind) (bytes a b r q : List ℕ) → HeadEnds k a r → HeadEnds l b q → bytes ≡ a ++ r
    → bytes ≡ b ++ q → IsSameFault (fault_of k (length a)) (fault_of l (length b))
same_end cut cut bytes a b r q h i e f =
    ap (λ (xs : List ℕ). HeadCut (length xs)) (sym (to_bytes bytes a r e h.3) ∙ to_bytes bytes b q f i.3)
same_end cut long bytes a b r q h i e f = absurd (long_not_cut bytes b a q r i h f e)
same_end cut bad bytes a b r q h i e f = absurd (bad_not_cut bytes b a q r i h f e)
same_end long cut bytes a b r q h i e f = absurd (long_not_cut bytes a b r q h i e f)
same_end long long bytes a b r q h i e f = refl
same_end long bad bytes a b r q h i e f = absurd (bad_not_long bytes b a q r i h f e)
same_end bad cut bytes a b r q h i e f = absurd (bad_not_cut bytes a b r q h i e f)
same_end bad long bytes a b r q h i e f = absurd (bad_not_long bytes a b r q h i e f)
same_end bad bad bytes a b r q h i e f = refl
same_end lines l bytes a b r q h i e f = any_of_head l (length b)
same_end cut lines bytes a b r q h i e f = tt
same_end long lines bytes a b r q h i e f = tt
same_end bad lines bytes a b r q h i e f = tt

-- the head that counts, behind those of interim responses, of which some were passed before
pub record Final (before : ℕ) (bytes : List ℕ) (passed : List ResponseHead) (h : ResponseHead)
    (tail : List ℕ) : Type 0 where
  pub interim : All IsInterim passed
  pub few : before + length passed ≤ 8
  pub head : IsHead h
  pub final : is_interim (status_code h) ≡ false
  pub parts : bytes ≡ print_heads passed ++ (print_response h ++ tail)

-- the reading ended in the heads
pub record Stops (before : ℕ) (bytes : List ℕ) (passed : List ResponseHead) (front left behind : List ℕ)
    (ended : Bool) (fault : HttpFault) : Type 0 where
  pub interim : All IsInterim passed
  pub count : ℕ
  pub counts : count ≡ before + length passed
  pub ends : EndsHeads count front left ended fault
  pub whole : ended ≡ true → left ≡ [] → behind ≡ []
  pub parts : bytes ≡ print_heads passed ++ (front ++ behind)

print_first : (h : ResponseHead) (heads : List ResponseHead) (tail : List ℕ)
    → print_heads (h ∷ heads) ++ tail ≡ print_response h ++ (print_heads heads ++ tail)
print_first h heads tail = append_assoc (print_response h) (print_heads heads) tail

final_rest : (before : ℕ) (bytes : List ℕ) (p : ResponseHead) (passed : List ResponseHead) (h : ResponseHead)
    (tail : List ℕ)
    → Final before bytes (p ∷ passed) h tail
    → Final (before + 1) (print_heads passed ++ (print_response h ++ tail)) passed h tail
final_rest before bytes p passed h tail f = record {
  interim = All-tail IsInterim p passed f.interim;
  few = omega (arith, f.few);
  head = f.head;
  final = f.final;
  parts = refl;
}

stops_rest : (before : ℕ) (bytes : List ℕ) (p : ResponseHead) (passed : List ResponseHead)
    (front left behind : List ℕ) (ended : Bool) (fault : HttpFault)
    → Stops before bytes (p ∷ passed) front left behind ended fault
    → Stops (before + 1) (print_heads passed ++ (front ++ behind)) passed front left behind ended fault
stops_rest before bytes p passed front left behind ended fault s = record {
  interim = All-tail IsInterim p passed s.interim;
  count = s.count;
  counts = omega (arith, s.counts);
  ends = s.ends;
  whole = s.whole;
  parts = refl;
}

same_head : (bytes : List ℕ) (h k : ResponseHead) (r q : List ℕ) → IsHead h → IsHead k
    → bytes ≡ print_response h ++ r → bytes ≡ print_response k ++ q → (h ≡ k) × (r ≡ q)
same_head bytes h k r q a b e f = response_unique bytes h k r q (a.grammar, e) (b.grammar, f)

not_interim : (h k : ResponseHead) → h ≡ k → IsInterim k → is_interim (status_code h) ≡ false → ⊥
not_interim h k e is final = true_is_not_false (sym is.1 ∙ ap (λ x. is_interim (status_code x)) (sym e) ∙ final) where
  true_is_not_false : true ≡ false → ⊥
  true_is_not_false e = cc e

final_at : (before : ℕ) (bytes : List ℕ) (p : ResponseHead) (passed : List ResponseHead) (h : ResponseHead)
    (tail : List ℕ) → Final before bytes (p ∷ passed) h tail
    → bytes ≡ print_response p ++ (print_heads passed ++ (print_response h ++ tail))
final_at before bytes p passed h tail f = f.parts ∙ print_first p passed (print_response h ++ tail)

stops_at : (before : ℕ) (bytes : List ℕ) (p : ResponseHead) (passed : List ResponseHead)
    (front left behind : List ℕ) (ended : Bool) (fault : HttpFault)
    → Stops before bytes (p ∷ passed) front left behind ended fault
    → bytes ≡ print_response p ++ (print_heads passed ++ (front ++ behind))
stops_at before bytes p passed front left behind ended fault s = s.parts ∙ print_first p passed (front ++ behind)

move_final : (before : ℕ) (bytes next : List ℕ) (passed : List ResponseHead) (h : ResponseHead) (tail : List ℕ)
    → bytes ≡ next → Final before bytes passed h tail → Final before next passed h tail
move_final before bytes next passed h tail e f = subst (λ xs. Final before xs passed h tail) e f

move_stops : (before : ℕ) (bytes next : List ℕ) (passed : List ResponseHead) (front left behind : List ℕ)
    (ended : Bool) (fault : HttpFault) → bytes ≡ next → Stops before bytes passed front left behind ended fault
    → Stops before next passed front left behind ended fault
move_stops before bytes next passed front left behind ended fault e s =
    subst (λ xs. Stops before xs passed front left behind ended fault) e s

-- the head that counts is one
pub one_head : (before : ℕ) (bytes : List ℕ) (xs ys : List ResponseHead) (h k : ResponseHead) (r q : List ℕ)
    → Final before bytes xs h r → Final before bytes ys k q → (h ≡ k) × (r ≡ q)
one_head before bytes [] [] h k r q f g = same_head bytes h k r q f.head g.head f.parts g.parts
one_head before bytes [] (y ∷ ys) h k r q f g =
    let y_is = All-head IsInterim y ys g.interim in
    let same = same_head bytes h y r _ f.head y_is.0 f.parts (final_at before bytes y ys k q g) in
    absurd (not_interim h y same.0 y_is f.final)
one_head before bytes (x ∷ xs) [] h k r q f g =
    let x_is = All-head IsInterim x xs f.interim in
    let same = same_head bytes k x q _ g.head x_is.0 g.parts (final_at before bytes x xs h r f) in
    absurd (not_interim k x same.0 x_is g.final)
one_head before bytes (x ∷ xs) (y ∷ ys) h k r q f g =
    let same = same_head bytes x y _ _ (All-head IsInterim x xs f.interim).0 (All-head IsInterim y ys g.interim).0
    (final_at before bytes x xs h r f) (final_at before bytes y ys k q g) in
    one_head (before + 1) (print_heads xs ++ (print_response h ++ r)) xs ys h k r q (final_rest before bytes x xs h r f)
    (move_final (before + 1) _ _ ys k q (sym same.1) (final_rest before bytes y ys k q g))

-- where the reading ends in the heads, no head stands there
not_here : (count : ℕ) (bytes front left behind : List ℕ) (ended : Bool) (fault : HttpFault) (h : ResponseHead)
    (tail : List ℕ)
    → (ended ≡ true → left ≡ [] → behind ≡ []) → EndsHeads count front left ended fault → IsOfBytes fault → count ≤ 8
    → bytes ≡ front ++ behind → IsHead h → bytes ≡ print_response h ++ tail → ⊥
not_here count bytes front left behind ended fault h tail w (inl in_head) g few e is at =
    let ends = head_ends front left behind ended fault w in_head.1 g in
    not_a_head ends.0 bytes front behind h tail ends.1 e is at
not_here count bytes front left behind ended fault h tail w (inr many) g few e is at =
    omega (arith, many.0, few)

ends_count : (count : ℕ) (front left : List ℕ) (ended : Bool) (fault : HttpFault)
    → EndsHeads count front left ended fault → count ≤ 9
ends_count count front left ended fault (inl in_head) = omega (arith, in_head.0)
ends_count count front left ended fault (inr many) = omega (arith, many.0)

-- where a head counts, the reading doesn't end in the heads
pub final_not_stops : (before : ℕ) (bytes : List ℕ) (xs ys : List ResponseHead) (h : ResponseHead) (r : List ℕ)
    (front left behind : List ℕ) (ended : Bool) (fault : HttpFault)
    → Final before bytes xs h r → Stops before bytes ys front left behind ended fault → IsOfBytes fault → ⊥
final_not_stops before bytes [] [] h r front left behind ended fault f s g =
    not_here s.count bytes front left behind ended fault h r s.whole s.ends g (omega (arith, s.counts, f.few)) s.parts f.head f.parts
final_not_stops before bytes [] (y ∷ ys) h r front left behind ended fault f s g =
    let y_is = All-head IsInterim y ys s.interim in
    let same = same_head bytes h y r _ f.head y_is.0 f.parts (stops_at before bytes y ys front left behind ended fault s) in
    not_interim h y same.0 y_is f.final
final_not_stops before bytes (x ∷ xs) [] h r front left behind ended fault f s g =
    let x_is = All-head IsInterim x xs f.interim in
    not_here s.count bytes front left behind ended fault x _ s.whole s.ends g (omega (arith, s.counts, f.few)) s.parts x_is.0
    (final_at before bytes x xs h r f)
final_not_stops before bytes (x ∷ xs) (y ∷ ys) h r front left behind ended fault f s g =
    let same = same_head bytes x y _ _ (All-head IsInterim x xs f.interim).0 (All-head IsInterim y ys s.interim).0
    (final_at before bytes x xs h r f) (stops_at before bytes y ys front left behind ended fault s) in
    final_not_stops (before + 1) (print_heads xs ++ (print_response h ++ r)) xs ys h r front left behind ended fault
    (final_rest before bytes x xs h r f)
    (move_stops (before + 1) _ _ ys front left behind ended fault (sym same.1)
    (stops_rest before bytes y ys front left behind ended fault s)) g

as_faults : (f g fault other : HttpFault) → fault ≡ f → other ≡ g → IsSameFault f g → IsSameFault fault other
as_faults f g fault other e d same =
    subst (λ x. IsSameFault x other) (sym e) (subst (λ x. IsSameFault f x) (sym d) same)

-- the reading ends in the heads in one way
pub one_stop : (before : ℕ) (bytes : List ℕ) (xs ys : List ResponseHead)
    (front left behind : List ℕ) (ended : Bool) (fault : HttpFault)
    (start kept rest : List ℕ) (over : Bool) (other : HttpFault)
    → Stops before bytes xs front left behind ended fault → Stops before bytes ys start kept rest over other
    → IsOfBytes fault → IsOfBytes other → IsSameFault fault other
one_stop before bytes [] [] front left behind ended fault start kept rest over other s t g j = by s.ends t.ends where
  by : EndsHeads s.count front left ended fault → EndsHeads t.count start kept over other → IsSameFault fault other
  by (inl a) (inl b) =
      let one = head_ends front left behind ended fault s.whole a.1 g in
      let two = head_ends start kept rest over other t.whole b.1 j in
      as_faults _ _ fault other one.2 two.2 (same_end one.0 two.0 bytes front start behind rest one.1 two.1 s.parts t.parts)
  by (inl a) (inr b) = absurd (omega (arith, a.0, b.0, s.counts, t.counts))
  by (inr a) (inl b) = absurd (omega (arith, a.0, b.0, s.counts, t.counts))
  by (inr a) (inr b) = as_faults BadHead BadHead fault other a.2 b.2 refl
one_stop before bytes [] (y ∷ ys) front left behind ended fault start kept rest over other s t g j =
    let most = ends_count t.count start kept over other t.ends in
    absurd (not_here s.count bytes front left behind ended fault y _ s.whole s.ends g
    (omega (arith, s.counts, t.counts, most)) s.parts (All-head IsInterim y ys t.interim).0
    (stops_at before bytes y ys start kept rest over other t))
one_stop before bytes (x ∷ xs) [] front left behind ended fault start kept rest over other s t g j =
    let most = ends_count s.count front left ended fault s.ends in
    absurd (not_here t.count bytes start kept rest over other x _ t.whole t.ends j
    (omega (arith, s.counts, t.counts, most)) t.parts (All-head IsInterim x xs s.interim).0
    (stops_at before bytes x xs front left behind ended fault s))
one_stop before bytes (x ∷ xs) (y ∷ ys) front left behind ended fault start kept rest over other s t g j =
    let same = same_head bytes x y _ _ (All-head IsInterim x xs s.interim).0 (All-head IsInterim y ys t.interim).0
    (stops_at before bytes x xs front left behind ended fault s)
    (stops_at before bytes y ys start kept rest over other t) in
    one_stop (before + 1) (print_heads xs ++ (front ++ behind)) xs ys front left behind ended fault start kept rest over other
    (stops_rest before bytes x xs front left behind ended fault s)
    (move_stops (before + 1) _ _ ys start kept rest over other (sym same.1)
    (stops_rest before bytes y ys start kept rest over other t)) g j
