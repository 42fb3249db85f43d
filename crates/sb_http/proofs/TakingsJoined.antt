-- How takings join.
use Rattle.std.proofs.Common.{ℕ, ◌≡◌, ◌∙◌, ◌+◌, ◌≢◌, zero, suc, Ok, length, length-append, subst, cond, arith, Bool}
use Rattle.std.proofs.Common.{true, false, List, [], ◌∷◌, ◌++◌, Option, append_assoc, append-nil, ap, sym, refl}
use Rattle.sb_world.specs.declared.wire.Connection.{Connection}
use Rattle.sb_world.specs.Wires.{grown, Grows}
use Rattle.sb_http.specs.Takings.{Takes, ReceivesInto, is_nothing}
use Rattle.sb_http.proofs.FilledVectors.{grown_nothing}

pub grown_both : (first second : List ℕ) (ended : Bool) (list : List Connection)
    → grown [] second ended (grown [] first false list) ≡ grown [] (first ++ second) ended list
grown_both first second ended [] = refl
grown_both first second ended (newest ∷ older) =
    let with_both : List ℕ → List ℕ → Connection = λ sent received.
    record { sent = sent; received = received; ended = cond ended true newest.ended } in
    ap (λ sent. with_both sent (newest.received ++ first ++ second) ∷ older) (append-nil (newest.sent ++ []))
    ∙ ap (λ received. with_both (newest.sent ++ []) received ∷ older) (append_assoc newest.received first second)

pub takes_nothing : (now : Option (List Connection)) (ahead : List ℕ) → Takes now now ahead ahead [] false
takes_nothing now ahead = record {
  received = [];
  grows = record { told = λ list e. (list, e, sym (grown_nothing list)) };
  joined = append-nil ahead;
}

-- bytes that waited
pub takes_waiting : (now : Option (List Connection)) (ahead left bytes : List ℕ) → ahead ≡ bytes ++ left
    → Takes now now ahead left bytes false
takes_waiting now ahead left bytes e = record {
  received = [];
  grows = record { told = λ list told. (list, told, sym (grown_nothing list)) };
  joined = append-nil ahead ∙ e;
}

-- bytes that were received
pub takes_received : {before now : Option (List Connection)} {bytes : List ℕ} {ended : Bool}
    → Grows before now [] bytes ended → Takes before now [] [] bytes ended
takes_received {bytes} grows = record { received = bytes; grows = grows; joined = sym (append-nil bytes) }

pub takes_both : {a b c : Option (List Connection)} {p q r xs ys : List ℕ} {ended : Bool}
    → Takes a b p q xs false → Takes b c q r ys ended → Takes a c p r (xs ++ ys) ended
takes_both {p} {q} {r} {xs} {ys} {ended} first second = record {
  received = first.received ++ second.received;
  grows = record {
    told = λ list e.
        let late = second.grows.told list e in
        let early = first.grows.told late.0 late.1 in (
          early.0,
          early.1,
          late.2 ∙ ap (λ old. grown [] second.received ended old) early.2
              ∙ grown_both first.received second.received ended early.0,
        );
  };
  joined =
      sym (append_assoc p first.received second.received)
      ∙ ap (λ zs. zs ++ second.received) first.joined
      ∙ append_assoc xs q second.received
      ∙ ap (λ zs. xs ++ zs) second.joined
      ∙ sym (append_assoc xs ys r);
}

pub something : (n : ℕ) → n ≢ 0 → is_nothing n ≡ false
something zero some = absurd (some refl)
something (suc n) some = refl

-- a receive behind what was taken, when nothing waits
pub more_taken : (a b c : Option (List Connection)) (p q old mid new xs : List ℕ) (most count : ℕ)
    → mid ≡ old ++ xs → q ≡ [] → Takes a b p q xs false → ReceivesInto b c mid new most (Ok count)
    → (bytes : List ℕ) × (length bytes ≡ length xs + count) × (new ≡ old ++ bytes)
    × Takes a c p q bytes (is_nothing count)
more_taken a b c p q old mid new xs most count mid_is empty before told =
    let bytes = told.1 in (
      xs ++ bytes,
      omega (arith, length-append xs bytes, told.2),
      told.3 ∙ ap (λ zs. zs ++ bytes) mid_is ∙ append_assoc old xs bytes,
      takes_both before (subst (λ w. Takes b c w w bytes (is_nothing count)) (sym empty) (takes_received told.4)),
    )

-- the same, when some bytes came
pub some_taken : (a b c : Option (List Connection)) (p q old mid new xs : List ℕ) (most count : ℕ)
    → mid ≡ old ++ xs → q ≡ [] → count ≢ 0 → Takes a b p q xs false → ReceivesInto b c mid new most (Ok count)
    → (bytes : List ℕ) × (length bytes ≡ length xs + count) × (new ≡ old ++ bytes) × Takes a c p q bytes false
some_taken a b c p q old mid new xs most count mid_is empty some before told =
    let more = more_taken a b c p q old mid new xs most count mid_is empty before told in
    (more.0, more.1, more.2, subst (λ e. Takes a c p q more.0 e) (something count some) more.3)
