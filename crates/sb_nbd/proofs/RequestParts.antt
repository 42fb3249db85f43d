-- How the parts of a request join.
use Rattle.std.proofs.Common.{ℕ, ◌≡◌, List, ◌++◌, Option, Err, length, subst, refl, arith, append-nil, inl, inr}
use Rattle.std.proofs.lemmas.List.{length-append}
use Rattle.sb_world.specs.Streams.{Takes}
use Rattle.sb_nbd.specs.declared.wanted.Wanted.{Wanted}
use Rattle.sb_nbd.specs.declared.end.NbdEnd.{NbdEnd}
use Rattle.sb_nbd.specs.declared.end.NbdEnd.TheVariants.{Ended, Cut, BadMagic, BadFlags, TooBig, ReadFault, WriteFault}
use Rattle.sb_nbd.specs.Requests.{magic_bytes, fields_bytes, FitsFields}
use Rattle.sb_nbd.specs.RequestReading.{StopsRequest, ReadsFields, ReadsPayload}
use Rattle.sb_world.proofs.Streaming.{takes_both}

pub length-magic_bytes : length magic_bytes ≡ 4
unfolding magic_bytes
length-magic_bytes = refl

pub length-fields_bytes : (w : Wanted) → length (fields_bytes w) ≡ 24
unfolding fields_bytes
length-fields_bytes w = refl

-- the magic, and an end inside the fields
pub fields_stop : (a b c : Option (List ℕ)) (end : NbdEnd) → Takes a b magic_bytes
    → ReadsFields b c (Err end) → (bytes : List ℕ) × Takes a c bytes × StopsRequest c bytes end
fields_stop a b c Ended first more = absurd more
fields_stop a b c (Cut got) first more =
    let len = length-append magic_bytes more.0 in
    let short = more.2 in (
      magic_bytes ++ more.0,
      takes_both first more.1,
      (
        omega (arith, len, length-magic_bytes, short.count),
        omega (arith, short.count),
        inr (inl (more.0, refl, short.short)),
        short.ended,
      ),
    )
fields_stop a b c (BadMagic magic) first more = absurd more
fields_stop a b c (BadFlags flags) first more = absurd more
fields_stop a b c (TooBig of) first more = absurd more
fields_stop a b c ReadFault first more =
    (magic_bytes ++ more.0, takes_both first more.1, inr (inl (more.0, refl, more.2)))
fields_stop a b c WriteFault first more = absurd more

-- the magic and the fields, and an end inside the payload or before it
pub payload_stops : (a b c d : Option (List ℕ)) (w : Wanted) (room : List ℕ) (end : NbdEnd)
    → Takes a b magic_bytes → Takes b c (fields_bytes w) × FitsFields w → ReadsPayload c d w (Err end) room
    → (bytes : List ℕ) × Takes a d bytes × StopsRequest d bytes end
payload_stops a b c d w room Ended first then more = absurd more
payload_stops a b c d w room (Cut got) first then more =
    let len = length-append magic_bytes (fields_bytes w ++ more.0) in
    let len_more = length-append (fields_bytes w) more.0 in
    let short = more.2 in (
      magic_bytes ++ (fields_bytes w ++ more.0),
      takes_both first (takes_both then.0 more.1),
      (
        omega (arith, len, len_more, length-magic_bytes, length-fields_bytes w, short.count),
        omega (arith, short.count),
        inr (inr (w, more.0, then.1, refl, short.short, more.3)),
        short.ended,
      ),
    )
payload_stops a b c d w room (BadMagic magic) first then more = absurd more
payload_stops a b c d w room (BadFlags flags) first then more = absurd more
payload_stops a b c d w room (TooBig of) first then more = (
  _,
  takes_both first (subst (λ bytes. Takes b d bytes) (append-nil (fields_bytes w))
      (takes_both then.0 more.0)),
  (w, then.1, refl, more.1, more.2, more.3),
)
payload_stops a b c d w room ReadFault first then more = (
  _,
  takes_both first (takes_both then.0 more.1),
  inr (inr (w, more.0, then.1, refl, more.2, more.3)),
)
payload_stops a b c d w room WriteFault first then more = absurd more
