-- How the parts of an option join.
use Rattle.std.proofs.Common.{ℕ, ◌≡◌, List, ◌++◌, Option, Err, length, subst, refl, arith, append-nil, inl, inr}
use Rattle.std.proofs.lemmas.List.{length-append}
use Rattle.sb_world.specs.Streams.{Takes}
use Rattle.sb_nbd.specs.declared.option.Asked.{Asked}
use Rattle.sb_nbd.specs.declared.end.NbdEnd.{NbdEnd}
use Rattle.sb_nbd.specs.declared.end.NbdEnd.TheVariants.{Ended, Cut, BadMagic, BadFlags, TooBig, ReadFault, WriteFault}
use Rattle.sb_nbd.specs.Options.{option_magic_bytes, head_bytes, FitsHead}
use Rattle.sb_nbd.specs.OptionReading.{StopsOption, ReadsHead, ReadsOptionPayload}
use Rattle.sb_world.proofs.Streaming.{takes_both}

pub length-option_magic_bytes : length option_magic_bytes ≡ 8
unfolding option_magic_bytes
length-option_magic_bytes = refl

pub length-head_bytes : (asked : Asked) → length (head_bytes asked) ≡ 8
unfolding head_bytes
length-head_bytes asked = refl

-- the magic, and an end inside the head
pub head_stops : (a b c : Option (List ℕ)) (end : NbdEnd) → Takes a b option_magic_bytes
    → ReadsHead b c (Err end) → (bytes : List ℕ) × Takes a c bytes × StopsOption c bytes end
head_stops a b c Ended first more = absurd more
head_stops a b c (Cut got) first more =
    let len = length-append option_magic_bytes more.0 in
    let short = more.2 in (
      option_magic_bytes ++ more.0,
      takes_both first more.1,
      (
        omega (arith, len, length-option_magic_bytes, short.count),
        omega (arith, short.count),
        inr (inl (more.0, refl, short.short)),
        short.ended,
      ),
    )
head_stops a b c (BadMagic magic) first more = absurd more
head_stops a b c (BadFlags flags) first more = absurd more
head_stops a b c (TooBig of) first more = absurd more
head_stops a b c ReadFault first more =
    (option_magic_bytes ++ more.0, takes_both first more.1, inr (inl (more.0, refl, more.2)))
head_stops a b c WriteFault first more = absurd more

-- the magic and the head, and an end inside the payload or before it
pub payload_stops : (a b c d : Option (List ℕ)) (asked : Asked) (room : List ℕ) (end : NbdEnd)
    → Takes a b option_magic_bytes → Takes b c (head_bytes asked) × FitsHead asked
    → ReadsOptionPayload c d asked (Err end) room
    → (bytes : List ℕ) × Takes a d bytes × StopsOption d bytes end
payload_stops a b c d asked room Ended first then more = absurd more
payload_stops a b c d asked room (Cut got) first then more =
    let len = length-append option_magic_bytes (head_bytes asked ++ more.0) in
    let len_more = length-append (head_bytes asked) more.0 in
    let short = more.2 in (
      option_magic_bytes ++ (head_bytes asked ++ more.0),
      takes_both first (takes_both then.0 more.1),
      (
        omega (arith, len, len_more, length-option_magic_bytes, length-head_bytes asked, short.count),
        omega (arith, short.count),
        inr (inr (asked, more.0, then.1, refl, short.short, more.3)),
        short.ended,
      ),
    )
payload_stops a b c d asked room (BadMagic magic) first then more = absurd more
payload_stops a b c d asked room (BadFlags flags) first then more = absurd more
payload_stops a b c d asked room (TooBig of) first then more = (
  _,
  takes_both first (subst (λ bytes. Takes b d bytes) (append-nil (head_bytes asked))
      (takes_both then.0 more.0)),
  (asked, then.1, refl, more.1, more.2),
)
payload_stops a b c d asked room ReadFault first then more = (
  _,
  takes_both first (takes_both then.0 more.1),
  inr (inr (asked, more.0, then.1, refl, more.2, more.3)),
)
payload_stops a b c d asked room WriteFault first then more = absurd more
