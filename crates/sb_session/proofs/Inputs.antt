-- An input is read in one way.
use Rattle.std.proofs.Common.{ℕ, ◌≡◌, ◌≢◌, ◌<◌, ◌∙◌, ◌^◌, Bool, inl, inr, List, [], ◌∷◌, ◌++◌, Option, Some, length, true, false}
use Rattle.std.proofs.Common.{append_assoc, append-nil, ap, sym, subst, refl, arith, nat_eq, if◌then◌else◌}
use Rattle.std.specs.Int.{w32, to_be_bytes}
use Rattle.std.specs.List.{AllByRecursion}
use Rattle.std.proofs.lemmas.List.{length-append, append_cancel_left}
use Rattle.sb_nbd.specs.declared.wanted.Wanted.{Wanted}
use Rattle.sb_nbd.specs.Numbers.{max_payload, request_magic, write_type}
use Rattle.sb_nbd.specs.declared.end.NbdEnd.{NbdEnd}
use Rattle.sb_nbd.specs.declared.end.NbdEnd.TheVariants as nbd
use Rattle.sb_nbd.specs.Requests.{magic_bytes, fields_bytes, FitsFields, Request, IsRequest, request_bytes}
use Rattle.sb_nbd.specs.RequestReading.{IsCutRequest}
use Rattle.sb_nbd.proofs.OneForm.{one_request, split_same, same_4, same_fields, length-fields_same, regrouped}
use Rattle.sb_nbd.proofs.OneForm.{same_wanted_first}
use Rattle.sb_nbd.proofs.RequestParts.{length-magic_bytes, length-fields_bytes}
use Rattle.sb_nbd.proofs.Cuts.{long, no_cut}
use Rattle.sb_crew.specs.Bases.{Base}
use Rattle.sb_crew.specs.Scenes.{Deed}
use Rattle.sb_session.specs.Streams.{Streams}
use Rattle.sb_session.specs.declared.end.SessionEnd.{SessionEnd}
use Rattle.sb_session.specs.declared.end.SessionEnd.TheVariants.{Disconnected, Aborted, Ended, NoSuchExport, Fault}
use Rattle.sb_session.specs.declared.end.SessionEnd.TheVariants.{Spent}
use Rattle.sb_session.specs.Goals.{is_disc}
use Rattle.sb_session.specs.Transcripts.{Exchange, IsTranscript, asking_bytes, requests_of}
use Rattle.sb_session.specs.Turns.{Stopped, StopsBy, StopsByFault}
use Rattle.sb_session.specs.Inputs.{bytes_of, GoesOn, IsDisc, IsMalformed, EndsByFault, EndsInput, IsInput, IsOfInput}
use Rattle.sb_session.specs.Inputs.{IsByInput}

bytes_of-append : (xs ys : List Request) → bytes_of (xs ++ ys) ≡ bytes_of xs ++ bytes_of ys
bytes_of-append [] ys = refl
bytes_of-append (x ∷ xs) ys = ap (λ bytes. request_bytes x ++ bytes) (bytes_of-append xs ys)
    ∙ sym (append_assoc (request_bytes x) (bytes_of xs) (bytes_of ys))

asking_bytes-in_order : (xs : List Exchange) → asking_bytes xs ≡ bytes_of (requests_of xs)
asking_bytes-in_order [] = refl
asking_bytes-in_order (x ∷ xs) =
    ap (λ bytes. bytes ++ request_bytes x.request) (asking_bytes-in_order xs)
    ∙ ap (λ bytes. bytes_of (requests_of xs) ++ bytes) (sym (append-nil (request_bytes x.request)))
    ∙ sym (bytes_of-append (requests_of xs) (x.request ∷ []))

going_on_join : (xs ys : List Request) → AllByRecursion GoesOn xs
    → AllByRecursion GoesOn ys → AllByRecursion GoesOn (xs ++ ys)
going_on_join [] ys first second = second
going_on_join (x ∷ xs) ys first second = (first.0, going_on_join xs ys first.1 second)

transcript_goes_on : (read_only : Bool) (base : Base) (xs : List Exchange) → IsTranscript read_only base xs
    → AllByRecursion GoesOn (requests_of xs)
transcript_goes_on read_only base [] answered = tt
transcript_goes_on read_only base (x ∷ xs) answered =
    going_on_join (requests_of xs) (x.request ∷ []) (transcript_goes_on read_only base xs answered.1)
    (record { request = answered.0.request; goes_on = answered.0.goes_on }, tt)

magic_differs : (magic : ℕ) (r : Request) (x after : List ℕ) → magic < 2 ^ 32
    → request_bytes r ++ x ≡ to_be_bytes w32 magic ++ after → magic ≡ request_magic
unfolding magic_bytes
magic_differs magic r x after fits e =
    let first = split_same magic_bytes (to_be_bytes w32 magic) _ _ refl (sym (regrouped r x) ∙ e) in
    same_4 magic request_magic fits (omega arith) (sym first.0)

magic_first : (magic : ℕ) (x y : List ℕ) → magic < 2 ^ 32
    → to_be_bytes w32 magic ++ x ≡ magic_bytes ++ y → magic ≡ request_magic
unfolding magic_bytes
magic_first magic x y fits e =
    let first = split_same (to_be_bytes w32 magic) magic_bytes x y refl e in
    same_4 magic request_magic fits (omega arith) first.0

-- where a request stands, nothing that is none stands
no_malformed : (r : Request) (x : List ℕ) (end : NbdEnd) → IsRequest r → IsMalformed (request_bytes r ++ x) end → ⊥
no_malformed r x nbd.Ended is h = h
no_malformed r x (nbd.Cut got) is h = no_cut r x is h.2
no_malformed r x (nbd.BadMagic magic) is h = h.2 (magic_differs magic r x h.0 h.1 h.3)
no_malformed r x (nbd.BadFlags flags) is h = h
no_malformed r x (nbd.TooBig size) is h =
    let same = same_wanted_first r h.0 x h.1 h.2 is h.6 in
    let kind = ap (λ (w : Wanted). w.kind) same.0 ∙ h.3 in
    let asked = ap (λ k. if nat_eq k 1 then r.wanted.length else 0) kind in
    omega (arith, asked, is.within, ap (λ (w : Wanted). w.length) same.0, h.4, h.5)
no_malformed r x nbd.ReadFault is h = h
no_malformed r x nbd.WriteFault is h = h

length_magic : (magic : ℕ) → length (to_be_bytes w32 magic) ≡ 4
length_magic magic = refl

different : true ≡ false → ⊥
different e = cc

-- where a request stands, the input alone doesn't end the session by a fault
no_fault : (r : Request) (x : List ℕ) (end : NbdEnd) → IsRequest r → IsOfInput end
    → EndsByFault (request_bytes r ++ x) end → ⊥
no_fault r x nbd.Ended is by h = h
no_fault r x (nbd.Cut got) is by h = no_malformed r x (nbd.Cut got) is h
no_fault r x (nbd.BadMagic magic) is by h = no_malformed r x (nbd.BadMagic magic) is h
no_fault r x (nbd.BadFlags flags) is by h = h
no_fault r x (nbd.TooBig size) is by h = no_malformed r x (nbd.TooBig size) is h
no_fault r x nbd.ReadFault is by h = by
no_fault r x nbd.WriteFault is by h = by

-- where a request that isn't DISC stands, an input doesn't end
no_end : (r : Request) (x : List ℕ) (end : SessionEnd) → GoesOn r → IsByInput end
    → EndsInput (request_bytes r ++ x) end → ⊥
no_end r x Disconnected is by h =
    let same = (one_request r h.0 x h.1 is.request h.2.request h.3).0 in
    different (sym h.2.disc ∙ ap (λ (q : Request). is_disc q.wanted) (sym same) ∙ is.goes_on)
no_end r x Aborted is by h = h
no_end r x Ended is by h = omega (arith, ap length h, long r x)
no_end r x (NoSuchExport size) is by h = h
no_end r x (Fault reading) is by h = no_fault r x reading is.request by h
no_end r x Spent is by h = by

pub one_reading : (rs ss : List Request) (t u : List ℕ) (e f : SessionEnd)
    → IsByInput e → IsByInput f
    → AllByRecursion GoesOn rs → AllByRecursion GoesOn ss → EndsInput t e
    → EndsInput u f → bytes_of rs ++ t ≡ bytes_of ss ++ u → (rs ≡ ss) × (t ≡ u)
one_reading [] [] t u e f by other first second ends ends_too same = (refl, same)
one_reading [] (s ∷ ss) t u e f by other first second ends ends_too same =
    absurd (no_end s (bytes_of ss ++ u) e second.0 by
    (subst (λ tail. EndsInput tail e) (same ∙ append_assoc (request_bytes s) (bytes_of ss) u) ends))
one_reading (r ∷ rs) [] t u e f by other first second ends ends_too same =
    absurd (no_end r (bytes_of rs ++ t) f first.0 other
    (subst (λ tail. EndsInput tail f)
    (sym same ∙ append_assoc (request_bytes r) (bytes_of rs) t) ends_too))
one_reading (r ∷ rs) (s ∷ ss) t u e f by other first second ends ends_too same =
    let split = one_request r s (bytes_of rs ++ t) (bytes_of ss ++ u) first.0.request second.0.request
    (sym (append_assoc (request_bytes r) (bytes_of rs) t) ∙ same
    ∙ append_assoc (request_bytes s) (bytes_of ss) u) in
    let more = one_reading rs ss t u e f by other first.1 second.1 ends ends_too split.1 in
    (ap (λ q. q ∷ rs) split.0 ∙ ap (λ qs. s ∷ qs) more.0, more.1)

request_not_empty : (r : Request) (after bytes : List ℕ) → bytes ≡ request_bytes r ++ after → bytes ≡ [] → ⊥
request_not_empty r after bytes is none = omega (arith, ap length is, ap length none, long r after)

-- where a DISC stands, or nothing, there is no fault of the input
disc_no_fault : (r : Request) (after bytes : List ℕ) (end : NbdEnd) → IsDisc r → IsOfInput end
    → bytes ≡ request_bytes r ++ after → EndsByFault bytes end → ⊥
disc_no_fault r after bytes end is by first h =
    no_fault r after end is.request by (subst (λ all. EndsByFault all end) first h)

empty_no_fault : (bytes : List ℕ) (end : NbdEnd) → IsOfInput end → bytes ≡ [] → EndsByFault bytes end → ⊥
empty_no_fault bytes nbd.Ended by none h = h
empty_no_fault bytes (nbd.Cut got) by none h = omega (arith, ap length none, h.0, h.1)
empty_no_fault bytes (nbd.BadMagic magic) by none h =
    omega (arith, ap length none, ap length h.3, length-append (to_be_bytes w32 magic) h.0, length_magic magic)
empty_no_fault bytes (nbd.BadFlags flags) by none h = h
empty_no_fault bytes (nbd.TooBig size) by none h =
    omega (
      arith,
      ap length none,
      ap length h.6,
      length-append magic_bytes (fields_bytes h.0 ++ h.1),
      length-magic_bytes,
    )
empty_no_fault bytes nbd.ReadFault by none h = by
empty_no_fault bytes nbd.WriteFault by none h = by

-- bytes that begin with another magic begin with no other fault
magic_not_cut : (magic : ℕ) (after bytes : List ℕ) → magic < 2 ^ 32 → magic ≢ request_magic
    → bytes ≡ to_be_bytes w32 magic ++ after → IsCutRequest bytes → ⊥
magic_not_cut magic after bytes fits other is (inl short) =
    omega (arith, short, ap length is, length-append (to_be_bytes w32 magic) after, length_magic magic)
magic_not_cut magic after bytes fits other is (inr (inl h)) =
    other (magic_first magic after h.0 fits (sym is ∙ h.1))
magic_not_cut magic after bytes fits other is (inr (inr h)) =
    other (magic_first magic after (fields_bytes h.0 ++ h.1) fits (sym is ∙ h.3))

-- the fields of too long a WRITE begin no cut request
big_not_cut : (w : Wanted) (after bytes : List ℕ) → FitsFields w → w.kind ≡ write_type → max_payload < w.length
    → bytes ≡ magic_bytes ++ (fields_bytes w ++ after) → IsCutRequest bytes → ⊥
big_not_cut w after bytes fits kind big is (inl short) = omega (
  arith,
  short,
  ap length is,
  length-append magic_bytes (fields_bytes w ++ after),
  length-magic_bytes,
)
big_not_cut w after bytes fits kind big is (inr (inl h)) =
    let same = append_cancel_left magic_bytes (fields_bytes w ++ after) h.0 (sym is ∙ h.1) in
    omega (arith, h.2, ap length same, length-append (fields_bytes w) after, length-fields_bytes w)
big_not_cut w after bytes fits kind big is (inr (inr h)) =
    let same = append_cancel_left magic_bytes (fields_bytes w ++ after) (fields_bytes h.0 ++ h.1) (sym is ∙ h.3) in
    let fields = split_same (fields_bytes w) (fields_bytes h.0) after h.1 (length-fields_same w h.0) same in
    let wanted = same_fields w h.0 fits h.2 fields.0 in
    let asked = ap (λ k. if nat_eq k 1 then h.0.length else 0) (sym (ap (λ (v : Wanted). v.kind) wanted) ∙ kind) in
    omega (arith, asked, h.5, ap (λ (v : Wanted). v.length) wanted, big)

-- the input alone ends a session by one fault
same_fault : (bytes : List ℕ) (e f : NbdEnd) → IsOfInput e → IsOfInput f
    → EndsByFault bytes e → EndsByFault bytes f → e ≡ f
same_fault bytes nbd.Ended f by other h k = absurd h
same_fault bytes (nbd.BadFlags flags) f by other h k = absurd h
same_fault bytes nbd.ReadFault f by other h k = absurd by
same_fault bytes nbd.WriteFault f by other h k = absurd by
same_fault bytes (nbd.Cut got) nbd.Ended by other h k = absurd k
same_fault bytes (nbd.Cut got) (nbd.BadFlags flags) by other h k = absurd k
same_fault bytes (nbd.Cut got) nbd.ReadFault by other h k = absurd other
same_fault bytes (nbd.Cut got) nbd.WriteFault by other h k = absurd other
same_fault bytes (nbd.Cut got) (nbd.Cut size) by other h k = ap nbd.Cut (sym h.0 ∙ k.0)
same_fault bytes (nbd.Cut got) (nbd.BadMagic magic) by other h k =
    absurd (magic_not_cut magic k.0 bytes k.1 k.2 k.3 h.2)
same_fault bytes (nbd.Cut got) (nbd.TooBig size) by other h k =
    absurd (big_not_cut k.0 k.1 bytes k.2 k.3 (omega (arith, k.4, k.5)) k.6 h.2)
same_fault bytes (nbd.BadMagic magic) nbd.Ended by other h k = absurd k
same_fault bytes (nbd.BadMagic magic) (nbd.BadFlags flags) by other h k = absurd k
same_fault bytes (nbd.BadMagic magic) nbd.ReadFault by other h k = absurd other
same_fault bytes (nbd.BadMagic magic) nbd.WriteFault by other h k = absurd other
same_fault bytes (nbd.BadMagic magic) (nbd.Cut got) by other h k =
    absurd (magic_not_cut magic h.0 bytes h.1 h.2 h.3 k.2)
same_fault bytes (nbd.BadMagic magic) (nbd.BadMagic other_magic) by other h k =
    ap nbd.BadMagic (same_4 magic other_magic h.1 k.1
    (split_same (to_be_bytes w32 magic) (to_be_bytes w32 other_magic) h.0 k.0 refl (sym h.3 ∙ k.3)).0)
same_fault bytes (nbd.BadMagic magic) (nbd.TooBig size) by other h k =
    absurd (h.2 (magic_first magic h.0 (fields_bytes k.0 ++ k.1) h.1 (sym h.3 ∙ k.6)))
same_fault bytes (nbd.TooBig size) nbd.Ended by other h k = absurd k
same_fault bytes (nbd.TooBig size) (nbd.BadFlags flags) by other h k = absurd k
same_fault bytes (nbd.TooBig size) nbd.ReadFault by other h k = absurd other
same_fault bytes (nbd.TooBig size) nbd.WriteFault by other h k = absurd other
same_fault bytes (nbd.TooBig size) (nbd.Cut got) by other h k =
    absurd (big_not_cut h.0 h.1 bytes h.2 h.3 (omega (arith, h.4, h.5)) h.6 k.2)
same_fault bytes (nbd.TooBig size) (nbd.BadMagic magic) by other h k =
    absurd (k.2 (magic_first magic k.0 (fields_bytes h.0 ++ h.1) k.1 (sym k.3 ∙ h.6)))
same_fault bytes (nbd.TooBig size) (nbd.TooBig other_size) by other h k =
    let same = append_cancel_left magic_bytes (fields_bytes h.0 ++ h.1) (fields_bytes k.0 ++ k.1) (sym h.6 ∙ k.6) in
    let fields = split_same (fields_bytes h.0) (fields_bytes k.0) h.1 k.1 (length-fields_same h.0 k.0) same in
    ap nbd.TooBig (sym h.4 ∙ ap (λ (w : Wanted). w.length) (same_fields h.0 k.0 h.2 k.2 fields.0) ∙ k.4)

same_end : (bytes : List ℕ) (e f : SessionEnd) → IsByInput e → IsByInput f
    → EndsInput bytes e → EndsInput bytes f → e ≡ f
same_end bytes Aborted f by other h k = absurd h
same_end bytes (NoSuchExport size) f by other h k = absurd h
same_end bytes Spent f by other h k = absurd by
same_end bytes Disconnected Disconnected by other h k = refl
same_end bytes Disconnected Aborted by other h k = absurd k
same_end bytes Disconnected Ended by other h k = absurd (request_not_empty h.0 h.1 bytes h.3 k)
same_end bytes Disconnected (NoSuchExport size) by other h k = absurd k
same_end bytes Disconnected (Fault reading) by other h k =
    absurd (disc_no_fault h.0 h.1 bytes reading h.2 other h.3 k)
same_end bytes Disconnected Spent by other h k = absurd other
same_end bytes Ended Disconnected by other h k = absurd (request_not_empty k.0 k.1 bytes k.3 h)
same_end bytes Ended Aborted by other h k = absurd k
same_end bytes Ended Ended by other h k = refl
same_end bytes Ended (NoSuchExport size) by other h k = absurd k
same_end bytes Ended (Fault reading) by other h k = absurd (empty_no_fault bytes reading other h k)
same_end bytes Ended Spent by other h k = absurd other
same_end bytes (Fault reading) Disconnected by other h k =
    absurd (disc_no_fault k.0 k.1 bytes reading k.2 by k.3 h)
same_end bytes (Fault reading) Aborted by other h k = absurd k
same_end bytes (Fault reading) Ended by other h k = absurd (empty_no_fault bytes reading by k h)
same_end bytes (Fault reading) (NoSuchExport size) by other h k = absurd k
same_end bytes (Fault reading) (Fault other_reading) by other h k =
    ap Fault (same_fault bytes reading other_reading by other h k)
same_end bytes (Fault reading) Spent by other h k = absurd other

pub one_input : (bytes : List ℕ) (rs ss : List Request) (e f : SessionEnd)
    → IsByInput e → IsByInput f → IsInput bytes rs e → IsInput bytes ss f → (rs ≡ ss) × (e ≡ f)
one_input bytes rs ss e f by other first second =
    let same = one_reading rs ss first.tail second.tail e f by other first.going_on second.going_on
    first.ends second.ends (sym first.whole ∙ second.whole) in (
      same.0,
      same_end second.tail e f by other
          (subst (λ tail. EndsInput tail e) same.1 first.ends) second.ends,
    )

-- where what is left is told, the bytes that ended reading and those that are left begin no request
malformed : (now : Option (List ℕ)) (tail rest : List ℕ) (reading : NbdEnd) → now ≡ Some rest
    → StopsByFault now tail reading → EndsByFault (tail ++ rest) reading
malformed now tail rest nbd.Ended told stops = absurd stops
malformed now tail rest (nbd.Cut got) told stops =
    let whole = ap (λ bytes. tail ++ bytes) (stops.3 rest told) ∙ append-nil tail in
    (ap length whole ∙ stops.0, stops.1, subst IsCutRequest (sym whole) stops.2)
malformed now tail rest (nbd.BadMagic magic) told stops =
    (rest, stops.1, stops.2, ap (λ bytes. bytes ++ rest) stops.0)
malformed now tail rest (nbd.BadFlags flags) told stops = absurd stops
malformed now tail rest (nbd.TooBig size) told stops = (
  stops.0,
  rest,
  stops.1,
  stops.3,
  stops.4,
  stops.5,
  ap (λ bytes. bytes ++ rest) stops.2
      ∙ append_assoc magic_bytes (fields_bytes stops.0) rest,
)
malformed now tail rest nbd.ReadFault told stops = tt
malformed now tail rest nbd.WriteFault told stops = tt

ends_input : (now : Option (List ℕ)) (tail rest : List ℕ) (end : SessionEnd)
    → now ≡ Some rest → StopsBy now tail end → EndsInput (tail ++ rest) end
ends_input now tail rest Disconnected told stops =
    (stops.0, rest, stops.1, ap (λ bytes. bytes ++ rest) stops.2)
ends_input now tail rest Aborted told stops = absurd stops
ends_input now tail rest Ended told stops = ap (λ bytes. bytes ++ rest) stops.0 ∙ stops.1 rest told
ends_input now tail rest (NoSuchExport size) told stops = absurd stops
ends_input now tail rest (Fault reading) told stops = malformed now tail rest reading told stops
ends_input now tail rest Spent told stops = tt

-- the requests that a session answered are all there are, up to what ended it
pub all_answered : (read_only : Bool) (base : Base) (before after : Streams) (did : Deed → Type 0) (end : SessionEnd) (n : ℕ)
    (rest : List ℕ) → after.left ≡ Some rest → (s : Stopped read_only base before after did end n)
    → (bytes : List ℕ) × (before.left ≡ Some bytes) × IsInput bytes (requests_of s.transcript) end
all_answered read_only base before after did end n rest told s = (
  _,
  s.moved.taken.told rest told,
  record {
    tail = s.tail ++ rest;
    whole = append_assoc (asking_bytes s.transcript) s.tail rest
        ∙ ap (λ bytes. bytes ++ (s.tail ++ rest)) (asking_bytes-in_order s.transcript);
    going_on = transcript_goes_on read_only base s.transcript s.answered;
    ends = ends_input after.left s.tail rest end told s.stops;
  },
)
