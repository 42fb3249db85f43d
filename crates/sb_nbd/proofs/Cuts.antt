-- A cut message is no whole one.
use Rattle.std.proofs.Common.{ℕ, ◌≤◌, ◌+◌, List, ◌++◌, length, ap, arith, inl, inr}
use Rattle.std.proofs.lemmas.List.{length-append}
use Rattle.sb_nbd.specs.Requests.{magic_bytes, fields_bytes, payload_length, Request, IsRequest, request_bytes}
use Rattle.sb_nbd.specs.RequestReading.{IsCutRequest}
use Rattle.sb_nbd.specs.declared.option.Asked.{Asked}
use Rattle.sb_nbd.specs.Options as options
use Rattle.sb_nbd.specs.OptionReading.{IsCutOption}
use Rattle.sb_nbd.proofs.OneForm.{regrouped, same_wanted_first, regrouped_option, same_asked_first}
use Rattle.sb_nbd.proofs.RequestParts.{length-magic_bytes, length-fields_bytes}
use Rattle.sb_nbd.proofs.OptionParts.{length-option_magic_bytes, length-head_bytes}

-- a request has all its fields
pub long : (r : Request) (x : List ℕ) → 28 + length r.payload ≤ length (request_bytes r ++ x)
long r x = omega (
  arith,
  ap length (regrouped r x),
  length-append magic_bytes (fields_bytes r.wanted ++ (r.payload ++ x)),
  length-append (fields_bytes r.wanted) (r.payload ++ x),
  length-append r.payload x,
  length-magic_bytes,
  length-fields_bytes r.wanted,
)

pub no_cut : (r : Request) (x : List ℕ) → IsRequest r → IsCutRequest (request_bytes r ++ x) → ⊥
no_cut r x is (inl short) = omega (arith, short, long r x)
no_cut r x is (inr (inl h)) = omega (
  arith,
  ap length h.1,
  length-append magic_bytes h.0,
  length-magic_bytes,
  h.2,
  long r x,
)
no_cut r x is (inr (inr h)) =
    let same = same_wanted_first r h.0 x h.1 h.2 is h.3 in
    omega (arith, ap length same.1, length-append r.payload x, is.payload, ap payload_length same.0, h.4)

-- an option has all of its head
pub long_option : (o : options.Option) (x : List ℕ) → 16 + length o.payload ≤ length (options.option_bytes o ++ x)
long_option o x = omega (
  arith,
  ap length (regrouped_option o x),
  length-append options.option_magic_bytes (options.head_bytes o.asked ++ (o.payload ++ x)),
  length-append (options.head_bytes o.asked) (o.payload ++ x),
  length-append o.payload x,
  length-option_magic_bytes,
  length-head_bytes o.asked,
)

pub no_cut_option : (o : options.Option) (x : List ℕ) → options.IsOption o
    → IsCutOption (options.option_bytes o ++ x) → ⊥
no_cut_option o x is (inl short) = omega (arith, short, long_option o x)
no_cut_option o x is (inr (inl h)) = omega (
  arith,
  ap length h.1,
  length-append options.option_magic_bytes h.0,
  length-option_magic_bytes,
  h.2,
  long_option o x,
)
no_cut_option o x is (inr (inr h)) =
    let same = same_asked_first o h.0 x h.1 h.2 is h.3 in
    omega (
      arith,
      ap length same.1,
      length-append o.payload x,
      is.payload,
      ap (λ (a : Asked). a.length) same.0,
      h.4,
    )
