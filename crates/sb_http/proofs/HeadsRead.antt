-- Heads that wait, and are taken.
use Rattle.std.proofs.Common.{ℕ, ◌≡◌, ◌≢◌, ◌≤◌, ◌+◌, ◌∙◌, true, false, All, List, [], ◌∷◌, ◌++◌, length, drop, Option}
use Rattle.std.proofs.Common.{Some, Ok, Err, ap, sym, subst, refl, arith, inl, inr, append-nil, length-append}
use Rattle.std.proofs.lemmas.Grind.{flat_map-append}
use Rattle.std.proofs.lemmas.List.Elements.{All-append, All-cons, All-nil}
use Rattle.httparse.specs.declared.spans.HeaderSpan.{HeaderSpan}
use Rattle.httparse.specs.declared.spans.ResponseSpans.{ResponseSpans}
use Rattle.httparse.specs.Grammar.{ResponseHead, print_response, HasNoResponse, MayBecomeResponse}
use Rattle.httparse.specs.Spans.{IsResponseAt}
use Rattle.sb_world.specs.declared.wire.Connection.{Connection}
use Rattle.sb_http.specs.declared.head.Head.{Head}
use Rattle.sb_http.specs.declared.head.TheConstants.{MAX_HEAD, MAX_INTERIM}
use Rattle.sb_http.specs.declared.fault.HttpFault.{HttpFault}
use Rattle.sb_http.specs.declared.fault.HttpFault.TheVariants.{HeadCut, BadHead, Memory}
use Rattle.sb_http.specs.Heads.{FindsHead, IsHead, IsInterim, ReadsHead, StopsInHead, TakesHead, print_heads}
use Rattle.sb_http.specs.Takings.{Takes, ReceivesInto, is_nothing}
use Rattle.sb_http.proofs.TakingsJoined.{something, takes_both, takes_received}

nothing_came : (bytes : List ℕ) → length bytes ≡ 0 → bytes ≡ []
nothing_came [] none = refl
nothing_came (b ∷ bytes) none = absurd (omega (arith, none))

-- more waits
more_waits : (a b c : Option (List Connection)) (p w new : List ℕ) (most count : ℕ)
    → Takes a b p [] w false → ReceivesInto b c w new most (Ok count) → Takes a c p [] new (is_nothing count)
more_waits a b c p w new most count before told =
    subst (λ xs. Takes a c p [] xs (is_nothing count)) (sym told.3) (takes_both before (takes_received told.4))

pub some_waits : (a b c : Option (List Connection)) (p w new : List ℕ) (most count : ℕ) → count ≢ 0
    → Takes a b p [] w false → ReceivesInto b c w new most (Ok count) → Takes a c p [] new false
some_waits a b c p w new most count some before told =
    subst (λ e. Takes a c p [] new e) (something count some) (more_waits a b c p w new most count before told)

pub length_more : (b c : Option (List Connection)) (w new : List ℕ) (most count : ℕ)
    → ReceivesInto b c w new most (Ok count) → length new ≡ length w + count
length_more b c w new most count told =
    ap (λ (xs : List ℕ). length xs) told.3 ∙ omega (arith, length-append w told.1, told.2)

-- the input ended in a head
pub cut_head : (a b c : Option (List Connection)) (p w seen came new : List ℕ) (most count : ℕ)
    → Takes a b p [] w false → seen ≡ w → came ≡ w → HasNoResponse seen × MayBecomeResponse seen
    → length w ≤ MAX_HEAD → length came ≢ MAX_HEAD → count ≡ 0 → ReceivesInto b c w new most (Ok count)
    → StopsInHead a c p (HeadCut (length came))
cut_head a b c p w seen came new most count before seen_is came_is unfinished small short none told =
    let took = more_waits a b c p w new most count before told in
    let same : new ≡ w = told.3 ∙ ap (λ xs. w ++ xs) (nothing_came told.1 (told.2 ∙ none)) ∙ append-nil w in
    let len : length came ≡ length w = ap (λ (xs : List ℕ). length xs) came_is in
    let at_end : Takes a c p [] w true = subst (λ n. Takes a c p [] w (is_nothing n)) none (subst
    (λ xs. Takes a c p [] xs (is_nothing count)) same took) in
    record {
      front = w;
      left = [];
      ended = true;
      takes = at_end;
      ends = (
        subst (λ xs. HasNoResponse xs) seen_is unfinished.0,
        subst (λ xs. MayBecomeResponse xs) seen_is unfinished.1,
        omega (arith, small, short, len),
        len,
        refl,
        refl,
      );
    }

-- the first of what waits
pub takes_part : {a b : Option (List Connection)} {p w : List ℕ} (bytes rest : List ℕ) → w ≡ bytes ++ rest
    → Takes a b p [] w false → Takes a b p rest bytes false
takes_part {w} bytes rest parts takes = record {
  received = takes.received;
  grows = takes.grows;
  joined = takes.joined ∙ append-nil w ∙ parts;
}

-- a head that waits is one within the limits
pub waits_whole : (a b : Option (List Connection)) (p w : List ℕ) (spans : List HeaderSpan) (found : ResponseSpans)
    → FindsHead a b p w spans (Ok found)
    → (h : ResponseHead) × IsHead h × IsResponseAt w spans found h × Takes a b p (drop found.len w)
    (print_response h) false
    × (length (drop found.len w) ≤ MAX_HEAD)
waits_whole a b p w spans found told =
    let h = told.0.0 in
    let at = told.0.1 in
    let whole : length w ≡ length (print_response h) + length (drop found.len w) =
    ap (λ (xs : List ℕ). length xs) at.reads.1 ∙ length-append (print_response h) (drop found.len w) in (
      h,
      record { grammar = at.reads.0; size = omega (arith, whole, told.1); lines = told.0.3 },
      at,
      takes_part (print_response h) (drop found.len w) at.reads.1 told.2,
      omega (arith, whole, told.1),
    )

-- want of memory for the fields of a head
pub no_memory : (a b : Option (List Connection)) (p w : List ℕ) → Takes a b p [] w false → StopsInHead a b p Memory
no_memory a b p w takes = record { front = w; left = []; ended = false; takes = takes; ends = (tt, refl) }

pub print_more : (heads : List ResponseHead) (h : ResponseHead)
    → print_heads (heads ++ h ∷ []) ≡ print_heads heads ++ print_response h
print_more heads h = flat_map-append print_response heads (h ∷ []) ∙ ap (λ ys. print_heads heads ++ ys)
    (append-nil (print_response h))

-- one more interim response
pub one_passed : (a b c : Option (List Connection)) (p q r : List ℕ) (heads : List ResponseHead) (h : ResponseHead)
    → All IsInterim heads → IsInterim h → Takes a b p q (print_heads heads) false
    → Takes b c q r (print_response h) false
    → All IsInterim (heads ++ h ∷ []) × (length (heads ++ h ∷ []) ≡ length heads + 1)
    × Takes a c p r (print_heads (heads ++ h ∷ [])) false
one_passed a b c p q r heads h all is before took = (
  All-append IsInterim heads (h ∷ []) all (All-cons IsInterim h [] is (All-nil IsInterim)),
  omega (arith, length-append heads (h ∷ [])),
  subst (λ bytes. Takes a c p r bytes false) (sym (print_more heads h)) (takes_both before took),
)

-- the head that counts, behind interim responses
pub head_read : (a b c : Option (List Connection)) (p q r : List ℕ) (heads : List ResponseHead) (head : Head)
    → All IsInterim heads → length heads ≤ MAX_INTERIM → Takes a b p q (print_heads heads) false
    → TakesHead b c q r (Ok (Some head)) → ReadsHead a c p r (Ok head)
head_read a b c p q r heads head all few before told =
    (heads, all, few, told.0, told.1, told.2, told.3, takes_both before told.4)

-- the reading ended in a head behind interim responses
pub head_stops : (a b c : Option (List Connection)) (p q r : List ℕ) (heads : List ResponseHead) (fault : HttpFault)
    → All IsInterim heads → length heads ≤ MAX_INTERIM → Takes a b p q (print_heads heads) false
    → StopsInHead b c q fault → ReadsHead a c p r (Err fault)
head_stops a b c p q r heads fault all few before stop =
    (heads, all, stop.front, stop.left, stop.ended, inl (few, stop.ends), takes_both before stop.takes)

-- an interim response too many
pub too_many_passed : (a b : Option (List Connection)) (p q r : List ℕ) (heads : List ResponseHead)
    → All IsInterim heads → length heads ≡ MAX_INTERIM + 1 → Takes a b p q (print_heads heads) false
    → ReadsHead a b p r (Err BadHead)
too_many_passed a b p q r heads all many before = (
  heads,
  all,
  [],
  q,
  false,
  inr (many, refl, refl, refl),
  subst (λ bytes. Takes a b p q bytes false)
      (sym (append-nil (print_heads heads))) before,
)
