-- Bodies of a declared length, and to the end of the input.
use Rattle.std.proofs.Common.{ℕ, ◌≤◌, ◌<◌, true, false, List, [], ◌∷◌, ◌++◌, length, Option, Some, None, Ok, Err, sym}
use Rattle.std.proofs.Common.{subst, refl, arith, append-nil}
use Rattle.sb_world.specs.declared.wire.Connection.{Connection}
use Rattle.sb_http.specs.declared.framing.Framing.TheVariants.{Empty, Sized, ToEnd}
use Rattle.sb_http.specs.declared.fault.HttpFault.{HttpFault}
use Rattle.sb_http.specs.declared.fault.HttpFault.TheVariants.{WireFault, HeadCut, HeadTooLong, BadHead, TooManyHeaders}
use Rattle.sb_http.specs.declared.fault.HttpFault.TheVariants.{BadLength, BodyCut, BadChunk, TooLong, Memory}
use Rattle.sb_http.specs.Takings.{Takes, TakesByte, TakesInto, IsOutside}
use Rattle.sb_http.specs.Bodies.{IsToEnd, ReadsBody}
use Rattle.sb_http.proofs.TakingsJoined.{takes_both, takes_nothing}

-- a fact of both faults from outside
pub by_outside : (P : HttpFault → Type 0) → P WireFault → P Memory → (fault : HttpFault) → IsOutside fault → P fault
by_outside P wire memory WireFault outside = wire
by_outside P wire memory Memory outside = memory
by_outside P wire memory (HeadCut count) outside = absurd outside
by_outside P wire memory HeadTooLong outside = absurd outside
by_outside P wire memory BadHead outside = absurd outside
by_outside P wire memory TooManyHeaders outside = absurd outside
by_outside P wire memory (BadLength text) outside = absurd outside
by_outside P wire memory (BodyCut want count) outside = absurd outside
by_outside P wire memory (BadChunk count) outside = absurd outside
by_outside P wire memory (TooLong bound) outside = absurd outside

pub no_body : (limit : ℕ) (now : Option (List Connection)) (ahead room : List ℕ)
    → ReadsBody Empty limit now now ahead room room (Ok 0)
no_body limit now ahead room = record {
  taken = [];
  content = [];
  left = ahead;
  ended = false;
  takes = takes_nothing now ahead;
  room = sym (append-nil room);
  body = (refl, refl, refl, refl);
}

-- the declared length is too much
pub sized_long : (size limit : ℕ) (now : Option (List Connection)) (ahead room : List ℕ) → limit < size
    → ReadsBody (Sized size) limit now now ahead room room (Err (TooLong limit))
sized_long size limit now ahead room over = record {
  taken = [];
  content = [];
  left = ahead;
  ended = false;
  takes = takes_nothing now ahead;
  room = sym (append-nil room);
  body = (refl, (over, refl, refl, refl));
}

-- a body that has as many bytes as the limit, behind which the input ends
pub ends_there : (a b c : Option (List Connection)) (p q r old new : List ℕ) (limit came : ℕ)
    → TakesInto a b p q old new limit (Ok came) → limit ≤ came → TakesByte b c q r (Ok None)
    → ReadsBody ToEnd limit a c p old new (Ok came)
ends_there a b c p q r old new limit came told whole end =
    let bytes = told.1 in
    let first = subst (λ ended. Takes a b p q bytes ended) (told.7 (omega (arith, told.0, whole))) told.5 in
    record {
      taken = bytes ++ [];
      content = bytes;
      left = r;
      ended = true;
      takes = takes_both first end.1;
      room = told.3;
      body = (append-nil bytes, omega (arith, told.0, told.2), sym told.2, end.0, refl);
    }

-- one byte more
pub goes_on : (a b c : Option (List Connection)) (p q r old new : List ℕ) (limit came byte : ℕ)
    → TakesInto a b p q old new limit (Ok came) → limit ≤ came → TakesByte b c q r (Ok (Some byte))
    → ReadsBody ToEnd limit a c p old new (Err (TooLong limit))
goes_on a b c p q r old new limit came byte told whole more =
    let bytes = told.1 in
    let first = subst (λ ended. Takes a b p q bytes ended) (told.7 (omega (arith, told.0, whole))) told.5 in
    record {
      taken = bytes ++ byte ∷ [];
      content = bytes;
      left = r;
      ended = false;
      takes = takes_both first more;
      room = told.3;
      body = (byte, refl, omega (arith, told.0, told.2, whole), refl, refl);
    }

-- a fault from outside in place of one byte more
pub stops_there : (a b c : Option (List Connection)) (p q r old new : List ℕ) (limit came : ℕ) (fault : HttpFault)
    → TakesInto a b p q old new limit (Ok came) → limit ≤ came → TakesByte b c q r (Err fault)
    → ReadsBody ToEnd limit a c p old new (Err fault)
stops_there a b c p q r old new limit came fault told whole stop =
    let bytes = told.1 in
    let first = subst (λ ended. Takes a b p q bytes ended) (told.7 (omega (arith, told.0, whole))) told.5 in
    let within : length bytes ≤ limit = omega (arith, told.0, told.2) in
    record {
      taken = bytes ++ [];
      content = bytes;
      left = r;
      ended = false;
      takes = takes_both first stop.1;
      room = told.3;
      body = by_outside (λ f. IsToEnd limit (bytes ++ []) bytes r false (Err f))
          (tt, append-nil bytes, within, refl) (tt, append-nil bytes, within, refl) fault stop.0;
    }
